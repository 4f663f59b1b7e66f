-- The rows that ground atoms with truths give to their predicates (this project's own).
use Rattle.std.specs.Prelude.{ℕ, ◌==◌, Bool, List, [], ◌∷◌, map, if◌then◌else◌}
use Rattle.mbqi_values.specs.declared.value.Value.{Value}
use Rattle.mbqi_values.specs.declared.value.Value.TheVariants as value
use Rattle.mbqi_terms.specs.declared.term_id.TermId.{TermId}
use Rattle.function_model.specs.declared.model.Row.{Row}
use Rattle.element_atoms.specs.declared.atoms.GroundAtom.{GroundAtom}

-- The term of a number in the pool is the element of that number.
abbrev pub element_of : TermId → Value
element_of id = value.Elem id.0

-- An atom's row: its places are its arguments' elements, and its value is its truth.
abbrev pub row_of : GroundAtom → Bool → Row
row_of atom truth = record { places = map element_of atom.args; value = value.Truth truth }

-- The rows of the function of a number, in the order of its atoms.
abbrev pub rows_of : List GroundAtom → List Bool → ℕ → List Row
rows_of [] truths f = []
rows_of (atom ∷ atoms) [] f = []
rows_of (atom ∷ atoms) (truth ∷ truths) f =
    if f == atom.predicate then row_of atom truth ∷ rows_of atoms truths f else rows_of atoms truths f
