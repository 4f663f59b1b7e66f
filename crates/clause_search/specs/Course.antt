use Rattle.std.specs.Prelude.{◌≡◌, ℕ, ◌+◌, ◌<◌, Bool, true, false, if◌then◌else◌, List, [], ◌∷◌, ◌++◌, Option, None, Some, length, map}
use Rattle.std.specs.Prelude.{replicate, slice_index_or, slice_set}
use Rattle.mbqi_values.specs.declared.lit.Lit.{Lit}
use Rattle.clause_search.specs.Truths.{atom_on}
use Rattle.clause_search.specs.declared.step.Reason.{Reason}
use Rattle.clause_search.specs.declared.step.Reason.TheVariants.{Chosen, Clause, Derived}
use Rattle.clause_search.specs.declared.step.Step.{Step}

-- The trail: literals of different atoms in the order in which they became true, each with its reason (this project's
-- own).

-- What contracts see of it: how many atoms there are, and the steps from first to last.
pub record Course : Type 0 where
  pub atoms : ℕ
  pub steps : List Step

abbrev pub is_chosen : Reason → Bool
is_chosen Chosen = true
is_chosen (Clause number) = false
is_chosen (Derived clause) = false

-- The clause of this number.
abbrev pub clause_at : List (List Lit) → ℕ → List Lit
clause_at clauses number = slice_index_or clauses number []

-- The clause that is the reason; a choice has none.
abbrev pub reason_lits : List (List Lit) → Reason → List Lit
reason_lits clauses Chosen = []
reason_lits clauses (Clause number) = clause_at clauses number
reason_lits clauses (Derived clause) = clause

-- A reason that is a number is that of a clause.
abbrev pub IsNumbered : List (List Lit) → Reason → Type 0
IsNumbered clauses Chosen = Unit {0}
IsNumbered clauses (Clause number) = number < length clauses
IsNumbered clauses (Derived clause) = Unit {0}

abbrev pub lits_of : List Step → List Lit
lits_of steps = map (λ step. step.lit) steps

abbrev pub no_truths : ℕ → List (Option Bool)
no_truths atoms = replicate atoms None

abbrev pub with_lit : List (Option Bool) → Lit → List (Option Bool)
with_lit truths lit = slice_set truths lit.atom (Some lit.yes)

-- The truths after these steps, where these were the truths before.
abbrev pub truths_after : List (Option Bool) → List Step → List (Option Bool)
truths_after truths [] = truths
truths_after truths (step ∷ steps) = truths_after (with_lit truths step.lit) steps

-- The truths on the trail.
abbrev pub truths_of : Course → List (Option Bool)
truths_of trail = truths_after (no_truths trail.atoms) trail.steps

-- Each step gives a truth to an atom that was free.
abbrev pub AreFresh : List (Option Bool) → List Step → Type 0
AreFresh truths [] = Unit {0}
AreFresh truths (step ∷ steps) =
    (step.lit.atom < length truths) × (atom_on truths step.lit.atom ≡ None) × AreFresh (with_lit truths step.lit) steps

-- The trail with one step more.
abbrev pub with_step : Course → Lit → Reason → Course
with_step trail lit reason = record trail { steps = trail.steps ++ record { lit = lit; reason = reason } ∷ [] }

-- The trail with some more steps.
abbrev pub Extends : Course → Course → Type 0
Extends old new = (added : List Step) × (new ≡ record old { steps = old.steps ++ added })

-- By step that was chosen, how many steps were before it.
abbrev pub choices_from : ℕ → List Step → List ℕ
choices_from before [] = []
choices_from before (step ∷ steps) =
    if is_chosen step.reason then before ∷ choices_from (before + 1) steps else choices_from (before + 1) steps
