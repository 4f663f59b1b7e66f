use Rattle.std.specs.Prelude.{ℕ, ◌==◌, ◌&&◌, Bool, false, List, slice_index_or}
use Rattle.std.specs.List.{list_any}
use Rattle.mbqi_values.specs.declared.lit.Lit.{Lit}

-- Valuations as lists of truths, and as literals.

-- The valuation that a list of truths gives, each atom's at its place.
abbrev pub truth_at : List Bool → ℕ → Bool
truth_at truths atom = slice_index_or truths atom false

-- Whether one of the literals makes the atom true.
abbrev pub is_made_true : List Lit → ℕ → Bool
is_made_true lits atom = list_any (λ lit. (lit.atom == atom) && lit.yes) lits
