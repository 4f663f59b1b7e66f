-- The script of the tests: a constant, a predicate of two arguments, and another constant.
use Rattle.std.specs.Prelude.{ℕ, List, [], ◌∷◌}
use Rattle.mbqi_terms.specs.declared.script.Function.{Function}
use Rattle.mbqi_terms.specs.declared.sort.Sort.TheVariants as sort
use Rattle.element_atoms.specs.Profile.{constant, seed, the_sort}
use Rattle.element_atoms.specs.declared.atoms.GroundAtom.{GroundAtom}
use Rattle.element_atoms.specs.declared.pool.Pool.{Pool}

abbrev pub one_constant : Function
one_constant = record { name = []; args = []; result = the_sort }

abbrev pub one_predicate : Function
one_predicate = record { name = []; args = the_sort ∷ the_sort ∷ []; result = sort.Truth }

abbrev pub example_functions : List Function
example_functions = one_constant ∷ one_predicate ∷ one_constant ∷ []

abbrev pub example_pool : Pool
example_pool = record { terms = constant 0 ∷ constant 2 ∷ seed ∷ []; numbers = 0 ∷ 0 ∷ 1 ∷ [] }

-- The predicate of two terms, by their numbers in the pool.
abbrev pub atom_on : ℕ → ℕ → GroundAtom
atom_on left right = record { predicate = 1; args = record { 0 = left } ∷ record { 0 = right } ∷ [] }

-- It holds of the second and the first one, and of the first one twice.
abbrev pub example_atoms : List GroundAtom
example_atoms = atom_on 1 0 ∷ atom_on 0 0 ∷ []
