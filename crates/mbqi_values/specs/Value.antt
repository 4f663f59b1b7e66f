use Rattle.std.specs.Prelude.{Bool, false, ℤ, ◌+ℤ◌}
use Rattle.std.specs.Ordering.{nat_cmp, int_cmp, bool_cmp, is_eq}
use Rattle.std.specs.declared.cmp.Ordering.{Ordering}
use Rattle.std.specs.declared.cmp.Ordering.TheVariants.{Less, Greater}
use Rattle.mbqi_values.specs.declared.value.Value.{Value}
use Rattle.mbqi_values.specs.declared.value.Value.TheVariants.{Num, Elem, Truth}

-- The one order of values (this project's own): numbers by size, elements by number, false before true;
-- numbers stand before elements, and elements before truths.
abbrev pub rank_of : Value → Value → Ordering
rank_of (Num a) (Num b) = int_cmp a b
rank_of (Elem a) (Elem b) = nat_cmp a b
rank_of (Truth a) (Truth b) = bool_cmp a b
rank_of (Num a) (Elem b) = Less
rank_of (Num a) (Truth b) = Less
rank_of (Elem a) (Truth b) = Less
rank_of (Elem a) (Num b) = Greater
rank_of (Truth a) (Num b) = Greater
rank_of (Truth a) (Elem b) = Greater

-- Whether two values are one.
abbrev pub is_same : Value → Value → Bool
is_same v w = is_eq (rank_of v w)

-- The truth that a value is; another value counts as false.
abbrev pub is_true : Value → Bool
is_true (Truth t) = t
is_true (Num n) = false
is_true (Elem e) = false

-- A number with a number added to it; other values stay.
abbrev pub plus_number : Value → ℤ → Value
plus_number (Num a) n = Num (a +ℤ n)
plus_number (Elem e) n = Elem e
plus_number (Truth t) n = Truth t
