use Rattle.std.proofs.Common.{ℕ, ◌≡◌, ◌+◌, ◌<◌, Bool, true, not, if◌then◌else◌, List, length, set, Option, None, Some, is_none}
use Rattle.std.proofs.Common.{is_some, refl, sym, ap, ◌∙◌, ⊎_elim, arith, get_or-set_same, get_or-set_other}
use Rattle.std.specs.Option.{option_map}
use Rattle.std.proofs.lemmas.Bool.{cases_eq, false≢true}
use Rattle.std.proofs.lemmas.List.{set-set, set-get_or}
use Rattle.std.proofs.lemmas.List.Folds.{sum_by-replicate}
use Rattle.std.proofs.lemmas.List.Sums.{sum_by-set}
use Rattle.mbqi_values.specs.declared.lit.Lit.{Lit}
use Rattle.clause_search.specs.Course.{no_truths}
use Rattle.clause_search.specs.Truths.{atom_on, lit_on, is_true, is_false, is_free, free_count}

-- Truths of which one changes.

-- The atom is made free again: the truths are as before.
pub set-free_again : (truths : List (Option Bool)) (atom : ℕ) (truth : Option Bool) → atom_on truths atom ≡ None
    → set (set truths atom truth) atom None ≡ truths
set-free_again truths atom truth free =
    set-set truths atom truth None ∙ (ap (λ (t : Option Bool). set truths atom t) (sym free) ∙ set-get_or truths atom None)

-- One atom less is free.
pub free_count-set : (truths : List (Option Bool)) (atom : ℕ) (truth : Bool) → atom < length truths → atom_on truths atom ≡ None
    → free_count (set truths atom (Some truth)) + 1 ≡ free_count truths
free_count-set truths atom truth within free =
    let counted = sum_by-set (λ (t : Option Bool). if is_free t then 1 else 0) truths atom (Some truth) None within in
    omega (arith, rw free at counted)

-- At first each atom is free.
pub free_count-none : (atoms : ℕ) → free_count (no_truths atoms) ≡ atoms
free_count-none atoms =
    let None' : Option Bool = None in
    let counted = sum_by-replicate (λ (t : Option Bool). if is_free t then 1 else 0) atoms None' in
    omega (arith, counted)

-- A literal of another atom keeps its truth.
pub lit_on-set_other : (truths : List (Option Bool)) (atom : ℕ) (truth : Option Bool) (lit : Lit) → (lit.atom ≡ atom → ⊥)
    → lit_on (set truths atom truth) lit ≡ lit_on truths lit
lit_on-set_other truths atom truth lit other =
    ap (λ (t : Option Bool). option_map (λ (u : Bool). if lit.yes then u else not u) t)
    (get_or-set_other truths atom lit.atom truth None other)

-- A literal of the atom has its truth.
pub lit_on-set_same : (truths : List (Option Bool)) (truth : Bool) (lit : Lit) → lit.atom < length truths
    → lit_on (set truths lit.atom (Some truth)) lit ≡ Some (if lit.yes then truth else not truth)
lit_on-set_same truths truth lit within =
    ap (λ (t : Option Bool). option_map (λ (u : Bool). if lit.yes then u else not u) t)
    (get_or-set_same truths lit.atom (Some truth) None within)

-- A free literal is of a free atom, and the other way round.
pub atom_on-free : (truths : List (Option Bool)) (lit : Lit) → is_free (lit_on truths lit) ≡ true → atom_on truths lit.atom ≡ None
atom_on-free truths lit free =
    (elim (atom_on truths lit.atom) as (λ t. is_none (option_map (λ (u : Bool). if lit.yes then u else not u) t) ≡ true → t ≡ None)
    [ None ↦ λ h. refl | Some t ↦ λ h. cc ]) free

pub lit_on-free : (truths : List (Option Bool)) (lit : Lit) → atom_on truths lit.atom ≡ None → lit_on truths lit ≡ None
lit_on-free truths lit free =
    ap (λ (t : Option Bool). option_map (λ (u : Bool). if lit.yes then u else not u) t) free

pub some-from_true : (truth : Option Bool) → is_true truth ≡ true → is_some truth ≡ true
some-from_true None is = cc
some-from_true (Some t) is = refl

pub some-from_false : (truth : Option Bool) → is_false truth ≡ true → is_some truth ≡ true
some-from_false None is = cc
some-from_false (Some t) is = refl

pub atom_on-some : (truths : List (Option Bool)) (lit : Lit) → is_some (lit_on truths lit) ≡ true → is_some (atom_on truths lit.atom) ≡ true
atom_on-some truths lit some =
    (elim (atom_on truths lit.atom) as (λ t. is_some (option_map (λ (u : Bool). if lit.yes then u else not u) t) ≡ true → is_some t ≡ true)
    [ None ↦ λ h. cc | Some t ↦ λ h. refl ]) some

-- An atom that has a truth keeps it when a free one gets one.
pub atom_on-kept : (truths : List (Option Bool)) (free : ℕ) (truth : Option Bool) (atom : ℕ) → atom_on truths free ≡ None
    → is_some (atom_on truths atom) ≡ true → atom_on (set truths free truth) atom ≡ atom_on truths atom
atom_on-kept truths free truth atom none some =
    ⊎_elim
    (λ (same : atom ≡ free). (let here : atom_on truths atom ≡ None = ap (λ (a : ℕ). atom_on truths a) same ∙ none in absurd
    (false≢true (sym (ap is_some here) ∙ some))))
    (λ (other : atom ≡ free → ⊥). get_or-set_other truths free atom truth None other)
    (cases_eq atom free)

pub lit_on-kept : (truths : List (Option Bool)) (free : ℕ) (truth : Option Bool) (lit : Lit) → atom_on truths free ≡ None
    → is_some (lit_on truths lit) ≡ true → lit_on (set truths free truth) lit ≡ lit_on truths lit
lit_on-kept truths free truth lit none some =
    ap (λ (t : Option Bool). option_map (λ (u : Bool). if lit.yes then u else not u) t)
    (atom_on-kept truths free truth lit.atom none (atom_on-some truths lit some))
