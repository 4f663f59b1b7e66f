use Rattle.std.specs.Prelude.{ℕ, ◌==◌, not, List, [], ◌∷◌, All, Contains, IsTrue}
use Rattle.std.specs.List.{list_all}
use Rattle.mbqi_values.specs.declared.lit.Lit.{Lit}

-- The content of a theory is a list of literals, in the order in which they came.

-- No literal of the atom is among these.
abbrev pub IsFree : List Lit → ℕ → Type 0
IsFree lits atom = IsTrue (list_all (λ lit. not (lit.atom == atom)) lits)

-- No two of the literals have one atom.
abbrev pub AtomsDiffer : List Lit → Type 0
AtomsDiffer [] = Unit {0}
AtomsDiffer (lit ∷ lits) = IsFree lits lit.atom × AtomsDiffer lits

-- Each of the literals is among those.
abbrev pub AreAmong : List Lit → List Lit → Type 0
AreAmong those lits = All (Contains those) lits
