-- What passes the tests of soundness is sound.
use Rattle.std.proofs.Common.{◌≡◌, ℕ, zero, suc, ◌+◌, ◌-◌, ◌^◌, ◌<◌, ◌≤◌, pos, negsuc, Bool, true, false, true≢false, ◌&&◌, List, [], ◌∷◌, length, ⊎_elim, refl, ap, sym, ◌∙◌, arith, leb-true, ltb-true, eqb-true}
use Rattle.std.specs.Prelude.{All, Contains, Some, slice_get}
use Rattle.std.specs.List.{list_all, list_any}
use Rattle.std.specs.Ordering.{is_lt}
use Rattle.std.proofs.lemmas.Bool.{and_parts, and_right, or_cases}
use Rattle.std.proofs.lemmas.Int.{ints}
use Rattle.std.proofs.lemmas.List.Elements.{All-cons, All-nil}
use Rattle.mbqi_values.specs.Value.{is_same, rank_of}
use Rattle.mbqi_values.specs.declared.value.Value.{Value}
use Rattle.mbqi_values.specs.declared.value.Value.TheVariants.{Num, Elem, Truth}
use Rattle.function_model.specs.Fits.{IsSmall, StandOn}
use Rattle.function_model.specs.Rising.{RowsRise, rank_of_rows}
use Rattle.function_model.specs.Sound.{IsSound, IsSoundTable, KnotsRise}
use Rattle.function_model.specs.Soundness.{are_sound_from, are_sound_knots, has_number, is_small, is_sound, is_sound_row, is_sound_table, knots_rise, knots_rise_behind, rows_rise, rows_rise_behind, stands_on}
use Rattle.function_model.specs.declared.model.FunctionModel.{FunctionModel}
use Rattle.function_model.specs.declared.model.Row.{Row}
use Rattle.function_model.specs.declared.model.Table.{Table}
use Rattle.function_model.specs.declared.model.TableName.TheVariants.{Declared}
use Rattle.function_model.proofs.PlaceRanks.{same_value}

each_passes : {X : Type 0} → (test : X → Bool) (P : X → Type 0) → ((x : X) → test x ≡ true → P x) → (xs : List X) → list_all test xs ≡ true → All P xs
each_passes test P tells [] e = All-nil P
each_passes test P tells (x ∷ xs) e =
    let both = and_parts (test x) (list_all test xs) e in
    All-cons P x xs (tells x both.0) (each_passes test P tells xs both.1)

small_is : (v : Value) → is_small v ≡ true → IsSmall v
small_is (Num (pos n)) e = let within : n ≤ 2 ^ 124 - 1 = leb-true n (2 ^ 124 - 1) e in (omega (arith, ints), omega (arith, ints, within))
small_is (Num (negsuc n)) e = let within : n < 2 ^ 124 - 1 = ltb-true n (2 ^ 124 - 1) e in (omega (arith, ints, within), omega (arith, ints))
small_is (Elem e) h = tt
small_is (Truth t) h = tt

pub all_small : (vs : List Value) → list_all is_small vs ≡ true → All IsSmall vs
all_small vs e = each_passes is_small IsSmall small_is vs e

rise_is : (v : Value) (vs : List Value) → knots_rise_behind v vs ≡ true → KnotsRise (v ∷ vs)
rise_is v [] e = tt
rise_is v (w ∷ ws) e = let both = and_parts (is_lt (rank_of v w)) (knots_rise_behind w ws) e in (both.0, rise_is w ws both.1)

knots_are : (ks : List Value) → are_sound_knots ks ≡ true → KnotsRise ks × All IsSmall ks
knots_are [] e = absurd (true≢false (sym e))
knots_are (v ∷ vs) e =
    let both = and_parts (knots_rise (v ∷ vs)) (list_all is_small (v ∷ vs)) e in
    (rise_is v vs both.0, each_passes is_small IsSmall small_is (v ∷ vs) both.1)

contains_is : (v : Value) (ks : List Value) → list_any (is_same v) ks ≡ true → Contains ks v
contains_is v [] e = absurd (true≢false (sym e))
contains_is v (k ∷ ks) e =
    ⊎_elim
    (λ here. (0, omega arith, sym (same_value v k here)))
    (λ there. let rest = contains_is v ks there in (suc rest.0, omega (arith, rest.1), rest.2))
    (or_cases (is_same v k) (list_any (is_same v) ks) e)

-- as many places as arguments
pub places_missing : (kss : List (List Value)) (vs : List Value) → (length kss ≡ length vs → ⊥) → stands_on kss vs ≡ false
places_missing [] [] other = absurd (other refl)
places_missing [] (v ∷ vs) other = refl
places_missing (ks ∷ kss) [] other = refl
places_missing (ks ∷ kss) (v ∷ vs) other =
    and_right (list_any (is_same v) ks) (stands_on kss vs) (places_missing kss vs (λ same. other (ap suc same)))

stand_is : (kss : List (List Value)) (vs : List Value) → stands_on kss vs ≡ true → StandOn kss vs
stand_is [] [] e = tt
stand_is [] (v ∷ vs) e = absurd (true≢false (sym e))
stand_is (ks ∷ kss) [] e = absurd (true≢false (sym e))
stand_is (ks ∷ kss) (v ∷ vs) e =
    let both = and_parts (list_any (is_same v) ks) (stands_on kss vs) e in
    (contains_is v ks both.0, stand_is kss vs both.1)

behind_rise : (row : Row) (rows : List Row) → rows_rise_behind row rows ≡ true → RowsRise (row ∷ rows)
behind_rise row [] e = tt
behind_rise row (next ∷ rows) e =
    let both = and_parts (is_lt (rank_of_rows row next)) (rows_rise_behind next rows) e in
    (both.0, behind_rise next rows both.1)

rows_are : (rows : List Row) → rows_rise rows ≡ true → RowsRise rows
rows_are [] e = tt
rows_are (row ∷ rows) e = behind_rise row rows e

row_is : (knots : List (List Value)) (row : Row) → is_sound_row knots row ≡ true → StandOn knots row.places × IsSmall row.value
row_is knots row e =
    let both = and_parts (stands_on knots row.places) (is_small row.value) e in
    (stand_is knots row.places both.0, small_is row.value both.1)

pub table_is : (table : Table) → is_sound_table table ≡ true → IsSoundTable table
table_is table e =
    let one = and_parts (list_all are_sound_knots table.knots) (list_all (is_sound_row table.knots) table.rows && (rows_rise table.rows && is_small table.default)) e in
    let two = and_parts (list_all (is_sound_row table.knots) table.rows) (rows_rise table.rows && is_small table.default) one.1 in
    let three = and_parts (rows_rise table.rows) (is_small table.default) two.1 in
    record {
      knots = each_passes are_sound_knots KnotsRise (λ ks h. (knots_are ks h).0) table.knots one.0;
      small_knots = each_passes are_sound_knots (All IsSmall) (λ ks h. (knots_are ks h).1) table.knots one.0;
      places = each_passes (is_sound_row table.knots) (λ (row : Row). StandOn table.knots row.places) (λ row h. (row_is table.knots row h).0) table.rows two.0;
      rise = rows_are table.rows three.0;
      small_values = each_passes (is_sound_row table.knots) (λ (row : Row). IsSmall row.value) (λ row h. (row_is table.knots row h).1) table.rows two.0;
      small_default = small_is table.default three.1;
    }

tables_are : (n : ℕ) (tables : List Table) → are_sound_from n tables ≡ true → All IsSoundTable tables
tables_are n [] e = All-nil IsSoundTable
tables_are n (table ∷ tables) e =
    let both = and_parts (has_number n table.name && is_sound_table table) (are_sound_from (n + 1) tables) e in
    let here = and_parts (has_number n table.name) (is_sound_table table) both.0 in
    All-cons IsSoundTable table tables (table_is table here.1) (tables_are (n + 1) tables both.1)

numbers_are : (n : ℕ) (tables : List Table) → are_sound_from n tables ≡ true → (at f : ℕ) (table : Table) → slice_get tables at ≡ Some table
    → table.name ≡ Declared f → n + at ≡ f
numbers_are n [] e at f table there name = cc
numbers_are n (t ∷ ts) e zero f table there name =
    let both = and_parts (has_number n t.name && is_sound_table t) (are_sound_from (n + 1) ts) e in
    let here = and_parts (has_number n t.name) (is_sound_table t) both.0 in
    let same : t ≡ table = cc in
    let number = eqb-true n f (sym (ap (has_number n) (ap (λ (one : Table). one.name) same ∙ name)) ∙ here.0) in
    omega (arith, number)
numbers_are n (t ∷ ts) e (suc at) f table there name =
    let both = and_parts (has_number n t.name && is_sound_table t) (are_sound_from (n + 1) ts) e in
    omega (arith, numbers_are (n + 1) ts both.1 at f table there name)

pub model_is : (model : FunctionModel) → is_sound model ≡ true → IsSound model
model_is model e = record {
  tables = tables_are 0 model.tables e;
  numbered = λ at f table there name. omega (arith, numbers_are 0 model.tables e at f table there name);
}
