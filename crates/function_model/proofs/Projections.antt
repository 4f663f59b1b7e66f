-- Where a number goes among rising knots.
use Rattle.std.proofs.Common.{◌≡◌, ℕ, ℤ, zero, suc, Bool, true, false, true≢false, List, [], ◌∷◌, All, Contains, ◌⊎◌, inl, inr, ⊎_elim, cond, refl, ap, sym, subst, ◌∙◌, arith}
use Rattle.std.specs.declared.cmp.Ordering.{Ordering}
use Rattle.std.specs.declared.cmp.Ordering.TheVariants.{Less, Equal, Greater}
use Rattle.std.specs.BTreeMap.Comparable.{le_lt_trans}
use Rattle.std.specs.Ordering.{is_le, is_lt}
use Rattle.std.proofs.lemmas.Cmp.{tied_itself}
use Rattle.std.proofs.lemmas.List.Elements.{All-cons, All-contains, All-nil, All-weaker}
use Rattle.mbqi_values.specs.Value.{rank_of}
use Rattle.mbqi_values.specs.declared.value.Value.{Value}
use Rattle.mbqi_values.specs.declared.value.Value.TheVariants.{Num}
use Rattle.mbqi_terms.specs.declared.sort.Sort.{Sort}
use Rattle.function_model.specs.Fits.{AreKnots, RiseFrom}
use Rattle.function_model.specs.Lookup.{greatest_up_to, projected}
use Rattle.function_model.specs.Projection.{IsGreatestUpTo, IsProjection}
use Rattle.function_model.proofs.PlaceRanks.{exact_values, values_total}

abbrev IsUpTo : Value → Value → Type 0
IsUpTo v w = is_le (rank_of v w) ≡ true

abbrev IsAbove : Value → Value → Type 0
IsAbove v w = is_le (rank_of v w) ≡ false

less_from : (o : Ordering) → is_lt o ≡ true → o ≡ Less
less_from Less e = refl
less_from Equal e = absurd (true≢false (sym e))
less_from Greater e = absurd (true≢false (sym e))

itself : (v : Value) → IsUpTo v v
itself v = ap is_le (tied_itself values_total v)

up_to_up_to : (u v w : Value) → IsUpTo u v → IsUpTo v w → IsUpTo u w
up_to_up_to u v w first second = by (rank_of v w) refl second
  where
    by : (o : Ordering) → rank_of v w ≡ o → is_le o ≡ true → IsUpTo u w
    by Less e h = ap is_le (le_lt_trans values_total u v w first e)
    by Equal e h = subst (IsUpTo u) (exact_values v w e) first
    by Greater e h = absurd (true≢false (sym h))

-- what isn't below a value that is above another is above that too
above_above : (u v w : Value) → IsAbove u v → IsUpTo u w → IsAbove w v
above_above u v w over up = by (is_le (rank_of w v)) refl
  where
    by : (b : Bool) → is_le (rank_of w v) ≡ b → IsAbove w v
    by false e = e
    by true e = absurd (true≢false (sym (up_to_up_to u w v up e) ∙ over))

in_cons : {X : Type 0} → (x : X) (xs : List X) (y : X) → Contains (x ∷ xs) y → (x ≡ y) ⊎ Contains xs y
in_cons x xs y (zero, within, e) = inl e
in_cons x xs y (suc k, within, e) = inr (k, omega (arith, within), e)

in_nothing : {X : Type 0} → {P : Type 0} → (y : X) → Contains [] y → P
in_nothing y c = absurd (omega (arith, c.1))

not_after : (v w : Value) → is_lt (rank_of v w) ≡ true → IsUpTo v w
not_after v w e = ap is_le (less_from (rank_of v w) e)

module _ (sizes : List ℕ) (s : Sort) where
  -- what isn't above the first of rising knots isn't above the others
  up_to_all : (u v : Value) (ws : List Value) → IsUpTo u v → RiseFrom sizes s v ws → All (λ w. IsUpTo u w) ws
  up_to_all u v [] up rise = All-nil (λ w. IsUpTo u w)
  up_to_all u v (w ∷ ws) up rise =
      let here : IsUpTo u w = up_to_up_to u v w up (not_after v w rise.1) in
      All-cons (λ x. IsUpTo u x) w ws here (up_to_all u w ws here rise.2)

  -- and where the first is above a value, all are
  above_all : (v w : Value) (ws : List Value) → IsAbove w v → RiseFrom sizes s w ws → All (λ x. IsAbove x v) (w ∷ ws)
  above_all v w ws over rise =
      All-cons (λ x. IsAbove x v) w ws over
      (All-weaker (λ x. IsUpTo w x) (λ x. IsAbove x v) (λ x up. above_above w v x over up) ws (up_to_all w w ws (itself w) rise))

  greatest : (best : Value) (ks : List Value) (v : Value) → RiseFrom sizes s best ks → IsUpTo best v → IsGreatestUpTo (best ∷ ks) v (greatest_up_to best ks v)
  greatest best [] v rise up = record {
    there = (0, omega arith, refl);
    below = up;
    greatest = λ other c below. ⊎_elim (λ e. subst (λ x. IsUpTo x best) e (itself best)) (λ none. in_nothing other none) (in_cons best [] other c);
  }
  greatest best (k ∷ ks) v rise up = by (greatest k ks v rise.2) (is_le (rank_of k v)) refl
    where
      by : (IsUpTo k v → IsGreatestUpTo (k ∷ ks) v (greatest_up_to k ks v)) → (b : Bool) → is_le (rank_of k v) ≡ b → IsGreatestUpTo (best ∷ k ∷ ks) v (cond b (greatest_up_to k ks v) best)
      by behind true e =
          let rest = behind e in
          let found = greatest_up_to k ks v in
          record {
            there = (suc rest.there.0, omega (arith, rest.there.1), rest.there.2);
            below = rest.below;
            greatest = λ other c below.
                ⊎_elim
                (λ same. subst (λ x. IsUpTo x found) same (up_to_up_to best k found (not_after best k rise.1) (rest.greatest k (0, omega arith, refl) e)))
                (λ later. rest.greatest other later below)
                (in_cons best (k ∷ ks) other c);
          }
      by behind false e = record {
        there = (0, omega arith, refl);
        below = up;
        greatest = λ other c below.
            ⊎_elim
            (λ same. subst (λ x. IsUpTo x best) same (itself best))
            (λ later. absurd (true≢false (sym below ∙ All-contains (λ x. IsAbove x v) (k ∷ ks) other (above_all v k ks e rise.2) later)))
            (in_cons best (k ∷ ks) other c);
      }

  -- where the next knot is above the value, it goes to the first
  first_stays : (k : Value) (ks : List Value) (v : Value) → IsAbove k v → RiseFrom sizes s k ks → greatest_up_to k ks v ≡ k
  first_stays k [] v over rise = refl
  first_stays k (l ∷ ks) v over rise =
      ap (λ b. cond b (greatest_up_to l ks v) k) (above_above k v l over (not_after k l rise.1))

  pub projected_is : (k : Value) (ks : List Value) (n : ℤ) → AreKnots sizes s (k ∷ ks) → IsProjection k ks (Num n) (projected (k ∷ ks) (Num n))
  projected_is k ks n knots = by (is_le (rank_of k (Num n))) refl
    where
      by : (b : Bool) → is_le (rank_of k (Num n)) ≡ b → IsProjection k ks (Num n) (greatest_up_to k ks (Num n))
      by true up = inl (greatest k ks (Num n) knots.1 up)
      by false over = inr (record { same = first_stays k ks (Num n) over knots.1; above = above_all (Num n) k ks over knots.1 })
