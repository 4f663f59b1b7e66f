use Rattle.std.specs.Prelude.{ℕ, List, [], ◌∷◌, ◌++◌, map, codes, decimal}
use Rattle.mbqi_values.specs.declared.value.Value.{Value}
use Rattle.mbqi_values.specs.declared.value.Value.TheVariants.{Num, Elem, Truth}
use Rattle.mbqi_terms.specs.declared.script.Function.{Function}
use Rattle.mbqi_terms.specs.declared.script.Script.{Script}
use Rattle.function_model.specs.declared.model.FunctionModel.{FunctionModel}
use Rattle.function_model.specs.declared.model.Row.{Row}
use Rattle.function_model.specs.declared.model.Table.{Table}
use Rattle.smtlib_printer.specs.Names.{name_text}
use Rattle.smtlib_printer.specs.Text.{list_text, number_text, truth_text}

-- The text of a shown model (this project's own).

-- A value: a number, `@k` for element k, or a truth.
abbrev pub value_text : Value → List ℕ
value_text (Num n) = number_text n
value_text (Elem e) = codes "@" ++ decimal e
value_text (Truth t) = truth_text t

abbrev pub values_text : List Value → List ℕ
values_text values = list_text (map value_text values)

abbrev pub row_text : Row → List ℕ
row_text row = list_text (values_text row.places ∷ value_text row.value ∷ [])

-- `(fun f (K ...) (R ...) v)`
abbrev pub table_text : Function → Table → List ℕ
table_text function table =
    codes "(fun " ++ name_text function.name ++ codes " " ++ list_text (map values_text table.knots)
    ++ codes " " ++ list_text (map row_text table.rows) ++ codes " " ++ value_text table.default ++ codes ")\n"

abbrev pub tables_text : List Function → List Table → List ℕ
tables_text [] tables = []
tables_text (function ∷ functions) [] = []
tables_text (function ∷ functions) (table ∷ tables) = table_text function table ++ tables_text functions tables

-- `(sort s n)`
abbrev pub sort_text : List ℕ → ℕ → List ℕ
sort_text name size = codes "(sort " ++ name_text name ++ codes " " ++ decimal size ++ codes ")\n"

abbrev pub sorts_text : List (List ℕ) → List ℕ → List ℕ
sorts_text [] sizes = []
sorts_text (name ∷ names) [] = []
sorts_text (name ∷ names) (size ∷ sizes) = sort_text name size ++ sorts_text names sizes

-- The lines of a shown model for its script.
unfoldable pub model_text : Script → FunctionModel → List ℕ
model_text script model =
    codes "sat\n(model 1\n" ++ sorts_text script.sorts model.sizes
    ++ tables_text script.functions model.tables ++ codes ")\n"
