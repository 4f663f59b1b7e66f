use Rattle.std.specs.Prelude.{ℕ, ◌<◌, Bool, not, if◌then◌else◌, All, List}
use Rattle.std.specs.List.{list_any, list_all}
use Rattle.mbqi_values.specs.declared.lit.Lit.{Lit}

-- Propositional clauses (Davis, Logemann and Loveland 1962). A valuation gives each atom a truth.

-- The literal is true.
abbrev pub lit_true : (ℕ → Bool) → Lit → Bool
lit_true v lit = if lit.yes then v lit.atom else not (v lit.atom)

-- The clause is true: one of its literals is.
abbrev pub clause_true : (ℕ → Bool) → List Lit → Bool
clause_true v clause = list_any (lit_true v) clause

-- Each clause is true.
abbrev pub all_true : (ℕ → Bool) → List (List Lit) → Bool
all_true v clauses = list_all (clause_true v) clauses

-- The clauses' atoms are below a number.
abbrev pub AreBelow : ℕ → List (List Lit) → Type 0
AreBelow atoms clauses = All (All (λ lit. lit.atom < atoms)) clauses
