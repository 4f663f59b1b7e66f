use Rattle.std.proofs.Common.{ℕ, ◌≡◌, ◌<◌, Bool, List, [], ◌∷◌, ◌++◌, set, Option, None, Some, sym, ap, ◌∙◌, subst}
use Rattle.std.proofs.lemmas.List.{length-replicate}
use Rattle.clause_search.specs.Course.{no_truths, truths_after, with_lit, AreFresh}
use Rattle.clause_search.specs.Truths.{atom_on}
use Rattle.clause_search.specs.declared.step.Step.{Step}
use Rattle.clause_search.proofs.FreshSteps.{length-truths, truths_after-push, AreFresh-front, AreFresh-push, AreFresh-rest}
use Rattle.clause_search.proofs.TruthsAt.{set-free_again}

-- The last step of a trail of so many atoms, as it is added and taken away.

pub added_truths : (atoms : ℕ) (truths : List (Option Bool)) (steps : List Step) (step : Step)
    → truths ≡ truths_after (no_truths atoms) steps
    → set truths step.lit.atom (Some step.lit.yes) ≡ truths_after (no_truths atoms) (steps ++ step ∷ [])
added_truths atoms truths steps step are =
    ap (λ (ts : List (Option Bool)). set ts step.lit.atom (Some step.lit.yes)) are ∙ sym (truths_after-push (no_truths atoms) steps step)

pub added_fresh : (atoms : ℕ) (steps : List Step) (step : Step) → AreFresh (no_truths atoms) steps → step.lit.atom < atoms
    → atom_on (truths_after (no_truths atoms) steps) step.lit.atom ≡ None → AreFresh (no_truths atoms) (steps ++ step ∷ [])
added_fresh atoms steps step fresh within free =
    let None' : Option Bool = None in
    AreFresh-push (no_truths atoms) steps step fresh (subst (λ (n : ℕ). step.lit.atom < n) (sym (length-replicate atoms None')) within) free

-- The steps before the last one, which is of an atom that is free then.
last_fresh : (atoms : ℕ) (steps front : List Step) (last : Step) → AreFresh (no_truths atoms) steps → steps ≡ front ++ last ∷ []
    → AreFresh (no_truths atoms) (front ++ last ∷ [])
last_fresh atoms steps front last fresh are = subst (AreFresh (no_truths atoms)) are fresh

pub front_fresh : (atoms : ℕ) (steps front : List Step) (last : Step) → AreFresh (no_truths atoms) steps → steps ≡ front ++ last ∷ []
    → AreFresh (no_truths atoms) front
front_fresh atoms steps front last fresh are =
    AreFresh-front (no_truths atoms) front (last ∷ []) (last_fresh atoms steps front last fresh are)

pub last_within : (atoms : ℕ) (steps front : List Step) (last : Step) → AreFresh (no_truths atoms) steps → steps ≡ front ++ last ∷ []
    → last.lit.atom < atoms
last_within atoms steps front last fresh are =
    let rest = AreFresh-rest (no_truths atoms) front (last ∷ []) (last_fresh atoms steps front last fresh are) in
    subst (λ (n : ℕ). last.lit.atom < n) (length-truths atoms front) rest.0

pub last_free : (atoms : ℕ) (steps front : List Step) (last : Step) → AreFresh (no_truths atoms) steps → steps ≡ front ++ last ∷ []
    → atom_on (truths_after (no_truths atoms) front) last.lit.atom ≡ None
last_free atoms steps front last fresh are =
    let rest = AreFresh-rest (no_truths atoms) front (last ∷ []) (last_fresh atoms steps front last fresh are) in
    rest.1

-- With its atom free again, the truths are those before it.
pub undone_truths : (atoms : ℕ) (truths : List (Option Bool)) (steps front : List Step) (last : Step)
    → truths ≡ truths_after (no_truths atoms) steps → AreFresh (no_truths atoms) steps → steps ≡ front ++ last ∷ []
    → set truths last.lit.atom None ≡ truths_after (no_truths atoms) front
undone_truths atoms truths steps front last is fresh are =
    let before = truths_after (no_truths atoms) front in
    let now : truths ≡ with_lit before last.lit = is
    ∙ (ap (truths_after (no_truths atoms)) are ∙ truths_after-push (no_truths atoms) front last) in
    ap (λ (ts : List (Option Bool)). set ts last.lit.atom None) now
    ∙ set-free_again before last.lit.atom (Some last.lit.yes) (last_free atoms steps front last fresh are)
