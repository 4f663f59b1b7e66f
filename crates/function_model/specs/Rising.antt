use Rattle.std.specs.Prelude.{◌≡◌, true, List, [], ◌∷◌, Contains}
use Rattle.std.specs.Ordering.{is_lt}
use Rattle.std.specs.declared.cmp.Ordering.{Ordering}
use Rattle.function_model.specs.Fits.{rank_of_places}
use Rattle.function_model.specs.declared.model.Row.{Row}

-- Rows at the same places have the same value.
abbrev pub AgreeAtSamePlaces : List Row → Type 0
AgreeAtSamePlaces rows = (a b : Row) → Contains rows a → Contains rows b → a.places ≡ b.places → a.value ≡ b.value

-- Rows compared by their places.
abbrev pub rank_of_rows : Row → Row → Ordering
rank_of_rows a b = rank_of_places a.places b.places

-- Each row's places are below those of the next (this project's own).
abbrev pub RowsRise : List Row → Type 0
RowsRise [] = Unit {0}
RowsRise (row ∷ []) = Unit {0}
RowsRise (row ∷ next ∷ rows) = (is_lt (rank_of_rows row next) ≡ true) × RowsRise (next ∷ rows)
