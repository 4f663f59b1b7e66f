use Rattle.std.specs.Prelude.{◌≡◌, ℕ, Bool, true, false, List}
use Rattle.std.specs.List.{list_all}
use Rattle.mbqi_values.specs.Clauses.{lit_true}
use Rattle.mbqi_values.specs.declared.lit.Lit.{Lit}
use Rattle.mbqi_values.specs.declared.value.Value.{Value}

-- Valuations of a theory (satisfiability modulo theories; Nieuwenhuis, Oliveras and Tinelli 2006): a list of values, one a
-- term, and a truth for each atom. Which of them are lawful is the theory's own to say.

-- Each of the literals is true.
abbrev pub lits_true : (ℕ → Bool) → List Lit → Bool
lits_true truths lits = list_all (lit_true truths) lits

-- The values, with some truths, are lawful and make each literal true.
abbrev pub Satisfies : (List Value → (ℕ → Bool) → Type 0) → List Lit → List Value → Type 0
Satisfies lawful lits values = (truths : ℕ → Bool) × lawful values truths × (lits_true truths lits ≡ true)

-- Some lawful valuation makes each literal true.
abbrev pub HasValuation : (List Value → (ℕ → Bool) → Type 0) → List Lit → Type 0
HasValuation lawful lits = (values : List Value) × Satisfies lawful lits values

-- Each lawful valuation makes some literal false.
abbrev pub HasNone : (List Value → (ℕ → Bool) → Type 0) → List Lit → Type 0
HasNone lawful lits = (values : List Value) (truths : ℕ → Bool) → lawful values truths → lits_true truths lits ≡ false
