use Rattle.std.specs.Prelude.{◌≡◌, ℕ, Bool, true, false, List, Option}
use Rattle.mbqi_values.specs.Clauses.{all_true, clause_true}
use Rattle.mbqi_values.specs.declared.lit.Lit.{Lit}
use Rattle.mbqi_values.specs.declared.value.Value.{Value}
use Rattle.clause_search.specs.Truths.{false_on}

-- What follows from clauses under a theory (satisfiability modulo theories; Nieuwenhuis, Oliveras and Tinelli 2006). The
-- theory says which values and truths are lawful together.

-- Each lawful valuation makes some clause false.
abbrev pub HasNoModel : (List Value → (ℕ → Bool) → Type 0) → List (List Lit) → Type 0
HasNoModel lawful clauses = (values : List Value) (truths : ℕ → Bool) → lawful values truths → all_true truths clauses ≡ false

-- The clause follows from the clauses: a lawful valuation that makes each of them true makes it true.
abbrev pub Follows : (List Value → (ℕ → Bool) → Type 0) → List (List Lit) → List Lit → Type 0
Follows lawful clauses clause =
    (values : List Value) (truths : ℕ → Bool) → lawful values truths → all_true truths clauses ≡ true → clause_true truths clause ≡ true

-- The clause holds in the theory: each lawful valuation makes it true.
abbrev pub IsLemma : (List Value → (ℕ → Bool) → Type 0) → List Lit → Type 0
IsLemma lawful clause = (values : List Value) (truths : ℕ → Bool) → lawful values truths → clause_true truths clause ≡ true

-- A conflict: a clause that follows from the clauses, and is false.
pub record IsConflict (lawful : List Value → (ℕ → Bool) → Type 0) (clauses : List (List Lit)) (truths : List (Option Bool))
    (clause : List Lit) : Type 0 where
  pub follows : Follows lawful clauses clause
  pub is_false : false_on truths clause ≡ true
