use Rattle.std.proofs.Common.{ℕ, ◌≡◌, ◌+◌, ◌<◌, ◌≤◌, Bool, true, false, not, if◌then◌else◌, List, [], ◌∷◌, ◌++◌, length, All, Option, None}
use Rattle.std.proofs.Common.{Some, is_some, refl, sym, ap, ◌∙◌, subst, eqb, arith, get_or-set_same}
use Rattle.std.proofs.lemmas.Bool.{ne_eqb, and_from, not_from_false, false≢true}
use Rattle.std.proofs.lemmas.List.{length-replicate, length-set}
use Rattle.std.proofs.lemmas.List.Elements.{All-nil, All-cons}
use Rattle.mbqi_values.specs.declared.lit.Lit.{Lit}
use Rattle.theory_trait.specs.Content.{AtomsDiffer, IsFree}
use Rattle.clause_search.specs.Course.{lits_of, no_truths, truths_after, with_lit, AreFresh}
use Rattle.clause_search.specs.Truths.{atom_on, lit_on, is_true, free_count}
use Rattle.clause_search.specs.declared.step.Step.{Step}
use Rattle.clause_search.proofs.TruthsAt.{atom_on-kept, free_count-none, free_count-set, lit_on-free}

-- Steps that each give a truth to an atom that was free.

pub truths_after-push : (truths : List (Option Bool)) (steps : List Step) (step : Step)
    → truths_after truths (steps ++ step ∷ []) ≡ with_lit (truths_after truths steps) step.lit
truths_after-push truths [] step = refl
truths_after-push truths (s ∷ steps) step = truths_after-push (with_lit truths s.lit) steps step

pub truths_after-append : (truths : List (Option Bool)) (steps more : List Step)
    → truths_after truths (steps ++ more) ≡ truths_after (truths_after truths steps) more
truths_after-append truths [] more = refl
truths_after-append truths (s ∷ steps) more = truths_after-append (with_lit truths s.lit) steps more

pub length-truths_after : (truths : List (Option Bool)) (steps : List Step) → length (truths_after truths steps) ≡ length truths
length-truths_after truths [] = refl
length-truths_after truths (s ∷ steps) = length-truths_after (with_lit truths s.lit) steps ∙ length-set truths s.lit.atom (Some s.lit.yes)

-- The truths of a trail of so many atoms are as many.
pub length-truths : (atoms : ℕ) (steps : List Step) → length (truths_after (no_truths atoms) steps) ≡ atoms
length-truths atoms steps =
    let None' : Option Bool = None in
    length-truths_after (no_truths atoms) steps ∙ length-replicate atoms None'

pub AreFresh-push : (truths : List (Option Bool)) (steps : List Step) (step : Step) → AreFresh truths steps → step.lit.atom < length truths
    → atom_on (truths_after truths steps) step.lit.atom ≡ None → AreFresh truths (steps ++ step ∷ [])
AreFresh-push truths [] step fresh within free = (within, free, tt)
AreFresh-push truths (s ∷ steps) step fresh within free = (
  fresh.0,
  fresh.1,
  AreFresh-push (with_lit truths s.lit) steps step fresh.2
      (subst (λ (n : ℕ). step.lit.atom < n) (sym (length-set truths s.lit.atom (Some s.lit.yes))) within) free,
)

pub AreFresh-front : (truths : List (Option Bool)) (steps more : List Step) → AreFresh truths (steps ++ more) → AreFresh truths steps
AreFresh-front truths [] more fresh = tt
AreFresh-front truths (s ∷ steps) more fresh = (fresh.0, fresh.1, AreFresh-front (with_lit truths s.lit) steps more fresh.2)

pub AreFresh-rest : (truths : List (Option Bool)) (steps more : List Step) → AreFresh truths (steps ++ more)
    → AreFresh (truths_after truths steps) more
AreFresh-rest truths [] more fresh = fresh
AreFresh-rest truths (s ∷ steps) more fresh = AreFresh-rest (with_lit truths s.lit) steps more fresh.2

-- An atom that has a truth keeps it.
pub atom_on-after : (truths : List (Option Bool)) (steps : List Step) (atom : ℕ) → AreFresh truths steps
    → is_some (atom_on truths atom) ≡ true → atom_on (truths_after truths steps) atom ≡ atom_on truths atom
atom_on-after truths [] atom fresh some = refl
atom_on-after truths (s ∷ steps) atom fresh some =
    let kept = atom_on-kept truths s.lit.atom (Some s.lit.yes) atom fresh.1 some in
    atom_on-after (with_lit truths s.lit) steps atom fresh.2 (ap is_some kept ∙ some) ∙ kept

own_true : (yes : Bool) → (if yes then yes else not yes) ≡ true
own_true true = refl
own_true false = refl

-- A literal of a step is true from then on.
step_true : (truths : List (Option Bool)) (lit : Lit) (steps : List Step) → lit.atom < length truths → AreFresh (with_lit truths lit) steps
    → is_true (lit_on (truths_after (with_lit truths lit) steps) lit) ≡ true
step_true truths lit steps within fresh =
    let here = get_or-set_same truths lit.atom (Some lit.yes) None within in
    let after = atom_on-after (with_lit truths lit) steps lit.atom fresh (ap is_some here) ∙ here in
    rw after (own_true lit.yes)

-- The literals on the trail are true.
pub lits_hold : (truths : List (Option Bool)) (steps : List Step) → AreFresh truths steps
    → All (λ lit. is_true (lit_on (truths_after truths steps) lit) ≡ true) (lits_of steps)
lits_hold truths [] fresh = All-nil _
lits_hold truths (s ∷ steps) fresh =
    let IsTrueHere : Lit → Type 0 = λ lit. is_true (lit_on (truths_after (with_lit truths s.lit) steps) lit) ≡ true in
    All-cons IsTrueHere s.lit (lits_of steps) (step_true truths s.lit steps fresh.0 fresh.2)
    (lits_hold (with_lit truths s.lit) steps fresh.2)

-- An atom without a truth isn't on the trail.
pub free_of : (truths : List (Option Bool)) (steps : List Step) (atom : ℕ) → AreFresh truths steps
    → atom_on (truths_after truths steps) atom ≡ None → IsFree (lits_of steps) atom
free_of truths [] atom fresh free = refl
free_of truths (s ∷ steps) atom fresh free =
    let after : List (Option Bool) = truths_after (with_lit truths s.lit) steps in
    let other : s.lit.atom ≡ atom → ⊥ = λ (same : s.lit.atom ≡ atom).
    (let none : atom_on after s.lit.atom ≡ None = ap (λ (a : ℕ). atom_on after a) same ∙ free in
    false≢true (sym (ap is_true (lit_on-free after s.lit none)) ∙ step_true truths s.lit steps fresh.0 fresh.2)) in
    and_from _ _ (not_from_false (eqb s.lit.atom atom) (ne_eqb s.lit.atom atom other))
    (free_of (with_lit truths s.lit) steps atom fresh.2 free)

-- An atom with a truth is on none of the steps to come.
others_differ : (truths : List (Option Bool)) (steps : List Step) (atom : ℕ) → AreFresh truths steps → is_some (atom_on truths atom) ≡ true
    → IsFree (lits_of steps) atom
others_differ truths [] atom fresh some = refl
others_differ truths (s ∷ steps) atom fresh some =
    let other : s.lit.atom ≡ atom → ⊥ = λ (same : s.lit.atom ≡ atom).
    (let none : atom_on truths atom ≡ None = ap (λ (a : ℕ). atom_on truths a) (sym same) ∙ fresh.1 in
    false≢true (sym (ap is_some none) ∙ some)) in
    let kept = atom_on-kept truths s.lit.atom (Some s.lit.yes) atom fresh.1 some in
    and_from _ _ (not_from_false (eqb s.lit.atom atom) (ne_eqb s.lit.atom atom other))
    (others_differ (with_lit truths s.lit) steps atom fresh.2 (ap is_some kept ∙ some))

-- No two literals on the trail have one atom.
pub AtomsDiffer-lits : (truths : List (Option Bool)) (steps : List Step) → AreFresh truths steps → AtomsDiffer (lits_of steps)
AtomsDiffer-lits truths [] fresh = tt
AtomsDiffer-lits truths (s ∷ steps) fresh =
    let here = get_or-set_same truths s.lit.atom (Some s.lit.yes) None fresh.0 in (
      others_differ (with_lit truths s.lit) steps s.lit.atom fresh.2 (ap is_some here),
      AtomsDiffer-lits (with_lit truths s.lit) steps
          fresh.2,
    )

-- Each step leaves one atom less free.
free_left : (truths : List (Option Bool)) (steps : List Step) → AreFresh truths steps
    → length steps + free_count (truths_after truths steps) ≡ free_count truths
free_left truths [] fresh = omega arith
free_left truths (s ∷ steps) fresh =
    let one = free_count-set truths s.lit.atom s.lit.yes fresh.0 fresh.1 in
    let rest = free_left (with_lit truths s.lit) steps fresh.2 in
    omega arith

-- There are no more steps than atoms, and fewer where an atom is free.
pub steps_fit : (atoms : ℕ) (steps : List Step) → AreFresh (no_truths atoms) steps → length steps ≤ atoms
steps_fit atoms steps fresh =
    let left = free_left (no_truths atoms) steps fresh in
    let all = free_count-none atoms in
    omega arith

pub step_fits : (atoms : ℕ) (steps : List Step) (atom : ℕ) → AreFresh (no_truths atoms) steps → atom < atoms
    → atom_on (truths_after (no_truths atoms) steps) atom ≡ None → length steps < atoms
step_fits atoms steps atom fresh within free =
    let left = free_left (no_truths atoms) steps fresh in
    let all = free_count-none atoms in
    let within_truths : atom < length (truths_after (no_truths atoms) steps) =
    subst (λ (n : ℕ). atom < n) (sym (length-truths atoms steps)) within in
    let one = free_count-set (truths_after (no_truths atoms) steps) atom true within_truths free in
    omega arith
