-- What the order of values says of values below others.
use Rattle.std.proofs.Common.{◌≡◌, true, false, true≢false, refl, ap, sym, ◌∙◌, ◌⊎◌, inl, inr, ⊎_elim}
use Rattle.std.specs.declared.cmp.Ordering.{Ordering}
use Rattle.std.specs.declared.cmp.Ordering.TheVariants.{Less, Equal, Greater}
use Rattle.std.specs.Ordering.{is_eq, is_lt, is_le, ordering_reverse, ordering_then}
use Rattle.std.proofs.lemmas.Cmp.{alike_right}
use Rattle.mbqi_values.specs.Value.{is_same, rank_of}
use Rattle.mbqi_values.specs.declared.value.Value.{Value}
use Rattle.function_model.specs.Narrowing.{IsDownward, is_below, is_up_to}
use Rattle.function_model.proofs.PlaceRanks.{values_total}

pub less_from : (o : Ordering) → is_lt o ≡ true → o ≡ Less
less_from Less h = refl
less_from Equal h = absurd (true≢false (sym h))
less_from Greater h = absurd (true≢false (sym h))

le_cases : (o : Ordering) → is_le o ≡ true → (o ≡ Less) ⊎ (o ≡ Equal)
le_cases Less h = inl refl
le_cases Equal h = inr refl
le_cases Greater h = absurd (true≢false (sym h))

pub lt_le : (o : Ordering) → is_lt o ≡ true → is_le o ≡ true
lt_le Less h = refl
lt_le Equal h = absurd (true≢false (sym h))
lt_le Greater h = absurd (true≢false (sym h))

pub lt_apart : (o : Ordering) → is_lt o ≡ true → is_eq o ≡ false
lt_apart Less h = refl
lt_apart Equal h = absurd (true≢false (sym h))
lt_apart Greater h = refl

pub gt_apart : (o : Ordering) → is_le o ≡ false → is_eq o ≡ false
gt_apart Less h = refl
gt_apart Equal h = absurd (true≢false h)
gt_apart Greater h = refl

pub tied : (o : Ordering) → is_lt o ≡ false → is_le o ≡ true → is_eq o ≡ true
tied Less h k = absurd (true≢false h)
tied Equal h k = refl
tied Greater h k = absurd (true≢false (sym k))

-- the first comparison of several that together answer Less
pub first_le : (o r : Ordering) → ordering_then o r ≡ Less → is_le o ≡ true
first_le Less r h = refl
first_le Equal r h = refl
first_le Greater r h = absurd (true≢false (sym (ap is_lt h)))

pub le_lt : (a b c : Value) → is_le (rank_of a b) ≡ true → is_lt (rank_of b c) ≡ true → is_lt (rank_of a c) ≡ true
le_lt a b c h k =
    ⊎_elim
    (λ less. ap is_lt (values_total.trans a b c less (less_from (rank_of b c) k)))
    (λ same. ap is_lt (values_total.congr a b c same) ∙ k)
    (le_cases (rank_of a b) h)

pub le_le : (a b c : Value) → is_le (rank_of a b) ≡ true → is_le (rank_of b c) ≡ true → is_le (rank_of a c) ≡ true
le_le a b c h k =
    ⊎_elim
    (λ less. lt_le (rank_of a c) (le_lt a b c h (ap is_lt less)))
    (λ same. ap is_le (sym (alike_right values_total b c a same)) ∙ h)
    (le_cases (rank_of b c) k)

pub below_downward : (bound : Value) → IsDownward (is_below bound)
below_downward bound v w h k = le_lt v w bound h k

pub up_to_downward : (bound : Value) → IsDownward (is_up_to bound)
up_to_downward bound v w h k = le_le v w bound h k

reversed_le : (o : Ordering) → is_lt o ≡ false → is_le (ordering_reverse o) ≡ true
reversed_le Less h = absurd (true≢false h)
reversed_le Equal h = refl
reversed_le Greater h = refl

reversed_apart : (o : Ordering) → is_lt o ≡ true → is_eq (ordering_reverse o) ≡ false
reversed_apart Less h = refl
reversed_apart Equal h = absurd (true≢false (sym h))
reversed_apart Greater h = absurd (true≢false (sym h))

pub not_below : (k v : Value) → is_lt (rank_of k v) ≡ false → is_le (rank_of v k) ≡ true
not_below k v h = ap is_le (values_total.antisymm v k) ∙ reversed_le (rank_of k v) h

pub below_apart : (k v : Value) → is_lt (rank_of k v) ≡ true → is_same v k ≡ false
below_apart k v h = ap is_eq (values_total.antisymm v k) ∙ reversed_apart (rank_of k v) h
