-- The models of elementary scripts (this project's own): each constant is an element of its own, and the last element is that of
-- the seed, which stands for what has no name.
use Rattle.std.specs.Prelude.{ℕ, pos, zero, suc, ◌+◌, false, List, [], ◌∷◌, map, if◌then◌else◌}
use Rattle.mbqi_values.specs.declared.value.Value.{Value}
use Rattle.mbqi_values.specs.declared.value.Value.TheVariants as value
use Rattle.mbqi_terms.specs.declared.script.Function.{Function}
use Rattle.mbqi_terms.specs.declared.sort.Sort.{Sort}
use Rattle.function_model.specs.declared.model.Row.{Row}
use Rattle.function_model.specs.declared.model.Table.{Table}
use Rattle.function_model.specs.declared.model.TableName.{TableName}
use Rattle.function_model.specs.declared.model.TableName.TheVariants.{Declared, Seed, Far}
use Rattle.element_atoms.specs.Profile.{is_constant}

-- So many elements in order, from one on.
abbrev pub elements_from : ℕ → ℕ → List Value
elements_from e zero = []
elements_from e (suc n) = value.Elem e ∷ elements_from (e + 1) n

-- Each element is a knot of each argument.
abbrev pub knots_of : ℕ → List Sort → List (List Value)
knots_of size args = map (λ arg. elements_from 0 size) args

-- A table of a name without arguments.
abbrev pub bare_table : TableName → Value → Table
bare_table name v = record { name = name; knots = []; rows = []; default = v }

abbrev pub constant_table : ℕ → ℕ → Table
constant_table f e = bare_table (Declared f) (value.Elem e)

-- The value of the last row, or another one where there is none.
abbrev pub last_value : Value → List Row → Value
last_value v [] = v
last_value v (row ∷ rows) = last_value row.value rows

-- The rows that a predicate's table shows, by the predicate's arguments: without arguments there are none.
abbrev pub shown_rows : List Sort → List Row → List Row
shown_rows [] rows = []
shown_rows (arg ∷ args) rows = rows

-- A predicate is false where no row says otherwise. Without arguments its default is its value.
abbrev pub default_of : List Sort → List Row → Value
default_of [] rows = last_value (value.Truth false) rows
default_of (arg ∷ args) rows = value.Truth false

abbrev pub predicate_table : List Row → ℕ → ℕ → List Sort → Table
predicate_table rows f size args =
    record { name = Declared f; knots = knots_of size args; rows = shown_rows args rows; default = default_of args rows }

-- The table of a function, where a predicate of its number has these rows.
abbrev pub table_for : (ℕ → List Row) → ℕ → ℕ → ℕ → Function → Table
table_for rows f e size function =
    if is_constant function then constant_table f e else predicate_table (rows f) f size function.args

-- The element that comes next behind a function.
abbrev pub next_element : Function → ℕ → ℕ
next_element function e = if is_constant function then e + 1 else e

-- The tables of the functions in order, of which the first has this number, and the first constant is this element.
abbrev pub tables_from : (ℕ → List Row) → ℕ → ℕ → ℕ → List Function → List Table
tables_from rows f e size [] = []
tables_from rows f e size (function ∷ functions) =
    table_for rows f e size function ∷ tables_from rows (f + 1) (next_element function e) size functions

-- No predicate has a row.
abbrev pub no_rows : ℕ → List Row
no_rows f = []

-- The tables of the hidden names: the seeds of so many sorts, from sort s on, are this element, and the far integer is 0.
abbrev pub hidden_from : ℕ → ℕ → ℕ → List Table
hidden_from e s zero = bare_table Far (value.Num (pos 0)) ∷ []
hidden_from e s (suc n) = bare_table (Seed s) (value.Elem e) ∷ hidden_from e (s + 1) n
