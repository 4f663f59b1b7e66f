-- Rows put into tables one after the other, and brought into order (this project's own). Private functions alone cite it.
use Rattle.std.specs.Prelude.{◌≡◌, ◌↔◌, ℕ, ◌-◌, zero, suc, Bool, false, List, [], ◌∷◌, ◌++◌, Contains, Some, slice_get}
use Rattle.std.specs.List.{AllZip}
use Rattle.mbqi_values.specs.declared.value.Value.{Value}
use Rattle.mbqi_terms.specs.declared.script.Function.{Function}
use Rattle.function_model.specs.Lookup.{value_at}
use Rattle.function_model.specs.Rising.{RowsRise}
use Rattle.function_model.specs.declared.model.Row.{Row}
use Rattle.function_model.specs.declared.model.Table.{Table}
use Rattle.element_atoms.specs.Profile.{is_constant}
use Rattle.element_atoms.specs.declared.atoms.GroundAtom.{GroundAtom}
use Rattle.element_models.specs.Elements.{tables_from, hidden_from}
use Rattle.element_models.specs.Rows.{row_of, rows_of}

-- The atom is of a function that is no constant.
abbrev pub NamesPredicate : List Function → GroundAtom → Type 0
NamesPredicate functions atom =
    (function : Function) × (slice_get functions atom.predicate ≡ Some function) × (is_constant function ≡ false)

-- A table with one more row, behind the others.
abbrev pub with_last : Table → Row → Table
with_last table row = record table { rows = table.rows ++ row ∷ [] }

-- A table with a row put into it, by its knots: where it has no arguments, the row's value is its default.
abbrev pub put_in : List (List Value) → Table → Row → Table
put_in [] table row = record table { default = row.value }
put_in (knots ∷ others) table row = with_last table row

-- Tables with a row put into the table of a number.
abbrev pub with_row : List Table → ℕ → Row → List Table
with_row [] f row = []
with_row (table ∷ tables) zero row = put_in table.knots table row ∷ tables
with_row (table ∷ tables) (suc f) row = table ∷ with_row tables f row

-- Tables with a row for each atom.
abbrev pub with_rows : List Table → List GroundAtom → List Bool → List Table
with_rows tables [] truths = tables
with_rows tables (atom ∷ atoms) [] = tables
with_rows tables (atom ∷ atoms) (truth ∷ truths) = with_rows (with_row tables atom.predicate (row_of atom truth)) atoms truths

-- The table has the other one's rows in rising order, and the rest as before.
pub record IsRaised (given : Table) (raised : Table) : Type 0 where
  pub name : raised.name ≡ given.name
  pub knots : raised.knots ≡ given.knots
  pub default : raised.default ≡ given.default
  pub rising : RowsRise raised.rows
  pub contains : (row : Row) → Contains raised.rows row ↔ Contains given.rows row
  pub same : (knots : List (List Value)) (args : List Value) (default : Value)
      → value_at raised.rows knots args default ≡ value_at given.rows knots args default

-- The tables of a model of so many elements: those of the functions, each with its atoms' rows in order, and behind them those of
-- the hidden names, in which the seeds of so many sorts are the last element.
pub record AreTables (functions : List Function) (atoms : List GroundAtom) (truths : List Bool) (size sorts : ℕ) (tables : List Table) : Type 0 where
  pub declared : List Table
  pub raised : AllZip IsRaised (tables_from (rows_of atoms truths) 0 0 size functions) declared
  pub all : tables ≡ declared ++ hidden_from (size - 1) 0 sorts
