-- What the tables of a model give.
use Rattle.std.specs.Prelude.{ℕ, ◌==◌, Bool, true, false, ◌&&◌, List, [], ◌∷◌, Option, None, Some, if◌then◌else◌}
use Rattle.std.specs.List.{list_any, find}
use Rattle.std.specs.Option.{is_some}
use Rattle.std.specs.Ordering.{is_le}
use Rattle.mbqi_values.specs.declared.value.Value.{Value}
use Rattle.mbqi_values.specs.declared.value.Value.TheVariants.{Num, Elem, Truth}
use Rattle.mbqi_values.specs.Value.{is_same, rank_of}
use Rattle.mbqi_terms.specs.SameTree.{same_array}
use Rattle.mbqi_terms.specs.declared.term.ArrayTerm.{ArrayTerm}
use Rattle.function_model.specs.declared.model.FunctionModel.{FunctionModel}
use Rattle.function_model.specs.declared.model.Row.{Row}
use Rattle.function_model.specs.declared.model.Table.{Table}
use Rattle.function_model.specs.declared.model.TableName.{TableName}
use Rattle.function_model.specs.declared.model.TableName.TheVariants.{Declared, Skolem, Seed, Far, Diff, Default, Read, Same}

-- The greatest of rising knots that isn't above the value, or `best` where there is none.
abbrev pub greatest_up_to : Value → List Value → Value → Value
greatest_up_to best [] v = best
greatest_up_to best (k ∷ ks) v = if is_le (rank_of k v) then greatest_up_to k ks v else best

-- Where an argument goes among its knots (Ge and de Moura 2009: a monotone projection). A number goes to the
-- greatest knot not above it, or to the least where there is none. An element goes to itself where it is a
-- knot, else to the first.
abbrev pub projected : List Value → Value → Value
projected [] v = v
projected (k ∷ ks) (Num n) = greatest_up_to k ks (Num n)
projected (k ∷ ks) (Elem e) = if list_any (is_same (Elem e)) (k ∷ ks) then Elem e else k
projected (k ∷ ks) (Truth t) = Truth t

-- Whether a row's places are the arguments at their knots.
abbrev pub is_at : List Value → List (List Value) → List Value → Bool
is_at [] [] [] = true
is_at (place ∷ places) (ks ∷ kss) (v ∷ vs) = is_same place (projected ks v) && is_at places kss vs
is_at places kss vs = false

-- The value of the row at the arguments' knots, or the default where there is none.
abbrev pub value_at : List Row → List (List Value) → List Value → Value → Value
value_at [] knots args default = default
value_at (row ∷ rows) knots args default = if is_at row.places knots args then row.value else value_at rows knots args default

-- What a table gives for arguments.
abbrev pub looked_up_in : Table → List Value → Value
looked_up_in table args = value_at table.rows table.knots args table.default

abbrev pub looked_up : Option Table → List Value → Value
looked_up None args = Truth false
looked_up (Some table) args = looked_up_in table args

-- The table of a name in a model: the first that has it.
abbrev pub is_declared : ℕ → TableName → Bool
is_declared f (Declared g) = f == g
is_declared f other = false

abbrev pub is_skolem : ℕ → ℕ → TableName → Bool
is_skolem assertion place (Skolem a p) = (assertion == a) && (place == p)
is_skolem assertion place other = false

abbrev pub is_seed : ℕ → TableName → Bool
is_seed sort (Seed s) = sort == s
is_seed sort other = false

abbrev pub is_far : TableName → Bool
is_far Far = true
is_far other = false

-- Those of arrays, by trees: the index at which two differ, the default of one, its reads, and whether two are the same.
abbrev pub is_difference : ArrayTerm → ArrayTerm → TableName → Bool
is_difference a b (Diff c d) = same_array a c && same_array b d
is_difference a b other = false

abbrev pub is_default : ArrayTerm → TableName → Bool
is_default a (Default b) = same_array a b
is_default a other = false

abbrev pub is_read : ArrayTerm → TableName → Bool
is_read a (Read b) = same_array a b
is_read a other = false

abbrev pub is_sameness : ArrayTerm → ArrayTerm → TableName → Bool
is_sameness a b (Same c d) = same_array a c && same_array b d
is_sameness a b other = false

abbrev pub table_where : (TableName → Bool) → FunctionModel → Option Table
table_where is_it model = find (λ table. is_it table.name) model.tables

-- What a model gives for a name that it has a table of.
abbrev pub given_by : (TableName → Bool) → FunctionModel → List Value → Value
given_by is_it model args = looked_up (table_where is_it model) args

-- A model is full exactly where it has the table of the far integer.
abbrev pub is_full : FunctionModel → Bool
is_full model = is_some (table_where is_far model)
