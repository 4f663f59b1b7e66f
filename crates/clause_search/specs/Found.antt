use Rattle.std.specs.Prelude.{◌≡◌, List, All, Any, Contains}
use Rattle.mbqi_values.specs.declared.lit.Lit.{Lit}

-- What a trail gives (Davis, Logemann and Loveland 1962): the literals that are true.

-- The atom of each literal stands on the trail.
abbrev pub GivesAtoms : List Lit → List Lit → Type 0
GivesAtoms trail clause = All (λ lit. Any (λ given. given.atom ≡ lit.atom) trail) clause

-- A literal of the clause stands on the trail.
abbrev pub MakesTrue : List Lit → List Lit → Type 0
MakesTrue trail clause = Any (Contains trail) clause
