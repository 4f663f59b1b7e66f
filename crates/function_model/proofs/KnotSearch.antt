-- What a binary search finds among rising knots.
use Rattle.std.proofs.Common.{◌≡◌, ℕ, zero, suc, ◌-◌, ◌<◌, ◌≤◌, Bool, true, false, ◌||◌, List, [], ◌∷◌, length, get_or, if◌then◌else◌, refl, ap, sym, ◌∙◌, arith}
use Rattle.std.specs.Prelude.{slice_get}
use Rattle.std.specs.List.{AllWithin, list_any}
use Rattle.std.specs.List.Sorted.{IsPartitionedBy, IsPartitionPoint}
use Rattle.std.specs.Ordering.{is_le}
use Rattle.std.proofs.Math.Bool.{or-false}
use Rattle.std.proofs.lemmas.Bool.{or_from}
use Rattle.mbqi_values.specs.Value.{is_same, rank_of}
use Rattle.mbqi_values.specs.declared.value.Value.{Value}
use Rattle.function_model.specs.Lookup.{greatest_up_to}
use Rattle.function_model.specs.Narrowing.{IsDownward, greatest_in, is_below, is_up_to, itself_or_first, passes}
use Rattle.function_model.specs.Sound.{KnotsRise}
use Rattle.function_model.proofs.ValueOrder.{below_apart, le_lt, lt_apart, lt_le, not_below}

-- each test that goes on downwards passes on a front of them
module _ (test : Value → Bool) (down : IsDownward test) where
  head_passes : (k : Value) (ks : List Value) → KnotsRise (k ∷ ks) → (j : ℕ) (d : Value) → j < length (k ∷ ks) → test (get_or (k ∷ ks) j d) ≡ true → test k ≡ true
  head_passes k ks up zero d h t = t
  head_passes k [] up (suc j) d h t = absurd (omega arith)
  head_passes k (l ∷ ks) up (suc j) d h t = down k l (lt_le (rank_of k l) up.0) (head_passes l ks up.1 j d (omega arith) t)

  pub knots_parted : (ks : List Value) → KnotsRise ks → IsPartitionedBy test ks
  knots_parted [] up i j d le h t = absurd up
  knots_parted (k ∷ ks) up zero j d le h t = head_passes k ks up j d h t
  knots_parted (k ∷ ks) up (suc i) zero d le h t = absurd (omega arith)
  knots_parted (k ∷ []) up (suc i) (suc j) d le h t = absurd (omega arith)
  knots_parted (k ∷ l ∷ ks) up (suc i) (suc j) d le h t = knots_parted (l ∷ ks) up.1 i j d (omega arith) (omega arith) t

-- the last of those up to the value, or the one before them
after : (v : Value) (ks : List Value) (best : Value) (j : ℕ) (d : Value) → j ≤ length ks
    → AllWithin (λ k. is_up_to v k ≡ true) ks 0 j → AllWithin (λ k. is_up_to v k ≡ false) ks j (length ks) → greatest_up_to best ks v ≡ get_or (best ∷ ks) j d
after v [] best zero d h passed failed = refl
after v [] best (suc j) d h passed failed = absurd (omega arith)
after v (k ∷ ks) best zero d h passed failed = ap (λ b. if b then greatest_up_to k ks v else best) (failed 0 d (omega arith) (omega arith))
after v (k ∷ ks) best (suc j) d h passed failed =
    ap (λ b. if b then greatest_up_to k ks v else best) (passed 0 d (omega arith) (omega arith))
    ∙ after v ks k j d (omega arith) (λ i e low high. passed (suc i) e (omega arith) (omega arith)) (λ i e low high. failed (suc i) e (omega arith) (omega arith))

pub greatest_found : (v : Value) (ks : List Value) (i : ℕ) (d : Value) → KnotsRise ks → i ≤ length ks
    → IsPartitionPoint (λ k. is_up_to v k ≡ true) (λ k. is_up_to v k ≡ false) ks i → greatest_in ks v ≡ get_or ks (i - 1) d
greatest_found v [] i d up h point = absurd up
greatest_found v (k ∷ ks) zero d up h point =
    after v ks k 0 d (omega arith) (λ i e low high. absurd (omega arith)) (λ i e low high. point.1 (suc i) e (omega arith) (omega arith))
greatest_found v (k ∷ ks) (suc j) d up h point =
    let one : suc j - 1 ≡ j = omega arith in
    after v ks k j d (omega arith) (λ i e low high. point.0 (suc i) e (omega arith) (omega arith)) (λ i e low high. point.1 (suc i) e (omega arith) (omega arith))
    ∙ ap (λ n. get_or (k ∷ ks) n d) (sym one)

-- none of the knots behind one that isn't below the value is the value
none_behind : (k v : Value) (ks : List Value) → KnotsRise (k ∷ ks) → is_le (rank_of v k) ≡ true → list_any (is_same v) ks ≡ false
none_behind k v [] up h = refl
none_behind k v (l ∷ ks) up h =
    let below = le_lt v k l h up.0 in
    or_from (is_same v l) (list_any (is_same v) ks) (lt_apart (rank_of v l) below) (none_behind l v ks up.1 (lt_le (rank_of v l) below))

-- the value is a knot exactly where it is the first that isn't below it
pub member_found : (v : Value) (ks : List Value) (i : ℕ) → KnotsRise ks
    → IsPartitionPoint (λ k. is_below v k ≡ true) (λ k. is_below v k ≡ false) ks i → list_any (is_same v) ks ≡ passes (is_same v) (slice_get ks i)
member_found v [] i up point = absurd up
member_found v (k ∷ ks) zero up point =
    ap (λ b. is_same v k || b) (none_behind k v ks up (not_below k v (point.1 0 k (omega arith) (omega arith)))) ∙ or-false (is_same v k)
member_found v (k ∷ []) (suc i) up point = ap (λ b. b || false) (below_apart k v (point.0 0 k (omega arith) (omega arith)))
member_found v (k ∷ l ∷ ks) (suc i) up point =
    ap (λ b. b || list_any (is_same v) (l ∷ ks)) (below_apart k v (point.0 0 k (omega arith) (omega arith)))
    ∙ member_found v (l ∷ ks) i up.1 (λ j e low high. point.0 (suc j) e (omega arith) (omega arith), λ j e low high. point.1 (suc j) e (omega arith) (omega arith))

-- as the code has the two cases
pub itself_found : (v : Value) (ks : List Value) (i : ℕ) → KnotsRise ks
    → IsPartitionPoint (λ k. is_below v k ≡ true) (λ k. is_below v k ≡ false) ks i → passes (is_same v) (slice_get ks i) ≡ true → itself_or_first ks v ≡ v
itself_found v [] i up point found = refl
itself_found v (k ∷ ks) i up point found = ap (λ b. if b then v else k) (member_found v (k ∷ ks) i up point ∙ found)

pub first_found : (v : Value) (ks : List Value) (i : ℕ) (d : Value) → KnotsRise ks
    → IsPartitionPoint (λ k. is_below v k ≡ true) (λ k. is_below v k ≡ false) ks i → passes (is_same v) (slice_get ks i) ≡ false → itself_or_first ks v ≡ get_or ks 0 d
first_found v [] i d up point other = absurd up
first_found v (k ∷ ks) i d up point other = ap (λ b. if b then v else k) (member_found v (k ∷ ks) i up point ∙ other)
