-- Soundness of tables and models as a test (this project's own).
use Rattle.std.specs.Prelude.{ℕ, ◌+◌, ◌-◌, ◌^◌, ◌==◌, Bool, true, false, ◌&&◌, List, [], ◌∷◌}
use Rattle.std.specs.List.{list_all, list_any}
use Rattle.std.specs.Ordering.{is_lt}
use Rattle.mbqi_values.specs.Value.{is_same, rank_of}
use Rattle.mbqi_values.specs.declared.value.Value.{Value}
use Rattle.mbqi_values.specs.declared.value.Value.TheVariants.{Num, Elem, Truth}
use Rattle.mbqi_terms.specs.Limits.{is_within}
use Rattle.function_model.specs.Rising.{rank_of_rows}
use Rattle.function_model.specs.declared.model.FunctionModel.{FunctionModel}
use Rattle.function_model.specs.declared.model.Row.{Row}
use Rattle.function_model.specs.declared.model.Table.{Table}
use Rattle.function_model.specs.declared.model.TableName.{TableName}
use Rattle.function_model.specs.declared.model.TableName.TheVariants.{Declared, Skolem, Seed, Far, Diff, Default, Read, Same}

abbrev pub is_small : Value → Bool
is_small (Num n) = is_within (2 ^ 124 - 1) n
is_small (Elem e) = true
is_small (Truth t) = true

-- Knots that rise behind a first one.
abbrev pub knots_rise_behind : Value → List Value → Bool
knots_rise_behind v [] = true
knots_rise_behind v (w ∷ ws) = is_lt (rank_of v w) && knots_rise_behind w ws

abbrev pub knots_rise : List Value → Bool
knots_rise [] = false
knots_rise (v ∷ vs) = knots_rise_behind v vs

-- Each place is a knot of its argument.
abbrev pub stands_on : List (List Value) → List Value → Bool
stands_on [] [] = true
stands_on (ks ∷ kss) (v ∷ vs) = list_any (is_same v) ks && stands_on kss vs
stands_on kss vs = false

abbrev pub rows_rise_behind : Row → List Row → Bool
rows_rise_behind row [] = true
rows_rise_behind row (next ∷ rows) = is_lt (rank_of_rows row next) && rows_rise_behind next rows

abbrev pub rows_rise : List Row → Bool
rows_rise [] = true
rows_rise (row ∷ rows) = rows_rise_behind row rows

abbrev pub is_sound_row : List (List Value) → Row → Bool
is_sound_row knots row = stands_on knots row.places && is_small row.value

abbrev pub are_sound_knots : List Value → Bool
are_sound_knots ks = knots_rise ks && list_all is_small ks

abbrev pub is_sound_table : Table → Bool
is_sound_table table =
    list_all are_sound_knots table.knots && (list_all (is_sound_row table.knots) table.rows && (rows_rise table.rows && is_small table.default))

-- A declared function's table of this number; other names have none.
abbrev pub has_number : ℕ → TableName → Bool
has_number n (Declared f) = n == f
has_number n (Skolem assertion place) = true
has_number n (Seed s) = true
has_number n Far = true
has_number n (Diff a b) = true
has_number n (Default a) = true
has_number n (Read a) = true
has_number n (Same a b) = true

abbrev pub are_sound_from : ℕ → List Table → Bool
are_sound_from n [] = true
are_sound_from n (table ∷ tables) = (has_number n table.name && is_sound_table table) && are_sound_from (n + 1) tables

abbrev pub is_sound : FunctionModel → Bool
is_sound model = are_sound_from 0 model.tables
