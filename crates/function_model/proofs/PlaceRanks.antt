-- The order of values, places and rows is total, and values and places that it doesn't tell apart are the same.
use Rattle.std.proofs.Common.{◌≡◌, ℕ, ℤ, pos, true, false, true≢false, List, [], ◌∷◌, refl, ap, sym, subst, arith}
use Rattle.std.specs.declared.cmp.Ordering.{Ordering}
use Rattle.std.specs.declared.cmp.Ordering.TheVariants.{Less, Equal, Greater}
use Rattle.std.specs.Cmp.{IsTotalOrder}
use Rattle.std.specs.Cmp.Lexicographic.{slice_cmp}
use Rattle.std.specs.Ordering.{is_eq, is_lt, is_gt, nat_cmp, int_cmp, on, then_cmp, ordering_then}
use Rattle.std.proofs.lemmas.Bool.Decides.{nat_tests}
use Rattle.std.proofs.lemmas.Int.{ints}
use Rattle.std.proofs.lemmas.Cmp.{nat_cmp_total, int_cmp_total, lists_total, on_total, then_total}
use Rattle.std.proofs.lemmas.Map.Lookups.{CmpEqualImpliesEq, exact_unsigned, exact_signed}
use Rattle.mbqi_values.specs.Value.{rank_of}
use Rattle.mbqi_values.specs.declared.value.Value.{Value}
use Rattle.mbqi_values.specs.declared.value.Value.TheVariants.{Num, Elem, Truth}
use Rattle.function_model.specs.declared.model.Row.{Row}
use Rattle.function_model.specs.Fits.{rank_of_places}
use Rattle.function_model.specs.Rising.{rank_of_rows}

-- the kind of a value first, then its number
abbrev kind_of : Value → ℕ
kind_of (Num n) = 0
kind_of (Elem e) = 1
kind_of (Truth t) = 2

abbrev size_of : Value → ℤ
size_of (Num n) = n
size_of (Elem e) = pos e
size_of (Truth false) = pos 0
size_of (Truth true) = pos 1

counted : (a b : ℕ) → int_cmp (pos a) (pos b) ≡ nat_cmp a b
counted a b = grind (arith, ints, nat_tests)

by_kind : (v w : Value) → then_cmp (on kind_of nat_cmp) (on size_of int_cmp) v w ≡ rank_of v w
by_kind (Num a) (Num b) = refl
by_kind (Num a) (Elem b) = refl
by_kind (Num a) (Truth b) = refl
by_kind (Elem a) (Num b) = refl
by_kind (Elem a) (Elem b) = counted a b
by_kind (Elem a) (Truth b) = refl
by_kind (Truth a) (Num b) = refl
by_kind (Truth a) (Elem b) = refl
by_kind (Truth false) (Truth false) = refl
by_kind (Truth false) (Truth true) = refl
by_kind (Truth true) (Truth false) = refl
by_kind (Truth true) (Truth true) = refl

pub values_total : IsTotalOrder rank_of
values_total = subst IsTotalOrder (λ i v w. by_kind v w i) (then_total (on_total kind_of nat_cmp_total) (on_total size_of int_cmp_total))

by_slices : (vs ws : List Value) → slice_cmp rank_of vs ws ≡ rank_of_places vs ws
by_slices [] [] = refl
by_slices [] (w ∷ ws) = refl
by_slices (v ∷ vs) [] = refl
by_slices (v ∷ vs) (w ∷ ws) = ap (ordering_then (rank_of v w)) (by_slices vs ws)

pub places_total : IsTotalOrder rank_of_places
places_total = subst IsTotalOrder (λ i vs ws. by_slices vs ws i) (lists_total values_total)

pub rows_total : IsTotalOrder rank_of_rows
rows_total = on_total (λ (row : Row). row.places) places_total

less_not_equal : {A : Type 0} → Less ≡ Equal → A
less_not_equal e = absurd (true≢false (ap is_lt e))

greater_not_equal : {A : Type 0} → Greater ≡ Equal → A
greater_not_equal e = absurd (true≢false (ap is_gt e))

pub exact_values : CmpEqualImpliesEq rank_of
exact_values (Num a) (Num b) e = ap Num (exact_signed a b e)
exact_values (Num a) (Elem b) e = less_not_equal e
exact_values (Num a) (Truth b) e = less_not_equal e
exact_values (Elem a) (Num b) e = greater_not_equal e
exact_values (Elem a) (Elem b) e = ap Elem (exact_unsigned a b e)
exact_values (Elem a) (Truth b) e = less_not_equal e
exact_values (Truth a) (Num b) e = greater_not_equal e
exact_values (Truth a) (Elem b) e = greater_not_equal e
exact_values (Truth false) (Truth false) e = refl
exact_values (Truth false) (Truth true) e = less_not_equal e
exact_values (Truth true) (Truth false) e = greater_not_equal e
exact_values (Truth true) (Truth true) e = refl

both_equal : (a b : Ordering) → ordering_then a b ≡ Equal → (a ≡ Equal) × (b ≡ Equal)
both_equal Less b e = less_not_equal e
both_equal Equal b e = (refl, e)
both_equal Greater b e = greater_not_equal e

pub exact_places : CmpEqualImpliesEq rank_of_places
exact_places [] [] e = refl
exact_places [] (w ∷ ws) e = less_not_equal e
exact_places (v ∷ vs) [] e = greater_not_equal e
exact_places (v ∷ vs) (w ∷ ws) e =
    let both = both_equal (rank_of v w) (rank_of_places vs ws) e in
    λ i. exact_values v w both.0 i ∷ exact_places vs ws both.1 i

equal_from : (a : Ordering) → is_eq a ≡ true → a ≡ Equal
equal_from Less e = absurd (true≢false (sym e))
equal_from Equal e = refl
equal_from Greater e = absurd (true≢false (sym e))

pub same_value : (v w : Value) → is_eq (rank_of v w) ≡ true → v ≡ w
same_value v w e = exact_values v w (equal_from (rank_of v w) e)

pub same_places : (vs ws : List Value) → is_eq (rank_of_places vs ws) ≡ true → vs ≡ ws
same_places vs ws e = exact_places vs ws (equal_from (rank_of_places vs ws) e)
