-- How a look-up by binary search narrows the rows of a table (this project's own). Private clauses alone cite it.
use Rattle.std.specs.Prelude.{◌≡◌, ℕ, Bool, true, false, ◌&&◌, List, [], ◌∷◌, filter, Option, None, Some, if◌then◌else◌, slice_get}
use Rattle.std.specs.List.{list_any}
use Rattle.std.specs.List.Sorted.{IsPartitionedBy}
use Rattle.std.specs.Ordering.{is_lt, is_le}
use Rattle.mbqi_values.specs.Value.{is_same, rank_of}
use Rattle.mbqi_values.specs.declared.value.Value.{Value}
use Rattle.function_model.specs.Lookup.{greatest_up_to, projected}
use Rattle.function_model.specs.declared.model.Row.{Row}
use Rattle.function_model.specs.declared.model.Table.{Table}

-- Tests of a value against a bound.
abbrev pub is_below : Value → Value → Bool
is_below bound v = is_lt (rank_of v bound)

abbrev pub is_up_to : Value → Value → Bool
is_up_to bound v = is_le (rank_of v bound)

-- A test of the value that a row has at a place. A row without the place doesn't pass.
abbrev pub passes : (Value → Bool) → Option Value → Bool
passes test None = false
passes test (Some v) = test v

abbrev pub passes_at : ℕ → (Value → Bool) → Row → Bool
passes_at place test row = passes test (slice_get row.places place)

-- What passes the test passes it at each value below, too.
abbrev pub IsDownward : (Value → Bool) → Type 0
IsDownward test = (v w : Value) → is_le (rank_of v w) ≡ true → test w ≡ true → test v ≡ true

-- Along the rows the values at the place don't fall: each such test passes on a front of them.
abbrev pub NeverFallAt : ℕ → List Row → Type 0
NeverFallAt place rows = (test : Value → Bool) → IsDownward test → IsPartitionedBy (passes_at place test) rows

-- The first places are the knots of these arguments.
abbrev pub agrees : List Value → List (List Value) → List Value → Bool
agrees places knots [] = true
agrees (place ∷ places) (ks ∷ kss) (v ∷ vs) = is_same place (projected ks v) && agrees places kss vs
agrees places knots args = false

-- The rows of a table that agree with its first arguments.
abbrev pub rows_for : Table → List Value → List Row
rows_for table args = filter (λ row. agrees row.places table.knots args) table.rows

-- The value of the first row, or the default where there is none.
abbrev pub first_value : List Row → Value → Value
first_value [] default = default
first_value (row ∷ rows) default = row.value

-- The two cases of a projection, for any knots.
abbrev pub greatest_in : List Value → Value → Value
greatest_in [] v = v
greatest_in (k ∷ ks) v = greatest_up_to k ks v

abbrev pub itself_or_first : List Value → Value → Value
itself_or_first [] v = v
itself_or_first (k ∷ ks) v = if list_any (is_same v) (k ∷ ks) then v else k
