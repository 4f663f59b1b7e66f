-- Places in a list whose elements a test tells apart.
use Rattle.std.proofs.Common.{◌≡◌, ◌≢◌, ℕ, zero, suc, Bool, true, false, true≢false, ◌⊎◌, inl, inr, List, [], ◌∷◌, ◌++◌, ◌||◌, length, Some, get_or, slice_get, position, if◌then◌else◌, refl, sym, ap, subst, ◌∙◌}
use Rattle.std.specs.List.{list_any, AllByRecursion, IsDistinct}
use Rattle.std.proofs.lemmas.Map.Keys.{IsDistinct-head, IsDistinct-tail}
use Rattle.std.proofs.lemmas.List.Quantifiers.{position-Some}
use Rattle.std.proofs.lemmas.Option.{slice_get-get_or}
use Rattle.indexmap.specs.IndexSet.{insert_key}

-- what holds of each element holds of the one at a place
pub all_at : {K : Type 0} (P : K → Type 0) (xs : List K) (i : ℕ) (x : K) → AllByRecursion P xs → slice_get xs i ≡ Some x → P x
all_at P [] i x all e = cc
all_at P (y ∷ ys) zero x all e = let same : y ≡ x = cc in subst P same all.0
all_at P (y ∷ ys) (suc i) x all e = all_at P ys i x all.1 e

-- the element after the end of a list
pub last_at : {K : Type 0} (xs : List K) (x : K) → slice_get (xs ++ x ∷ []) (length xs) ≡ Some x
last_at [] x = refl
last_at (y ∷ ys) x = last_at ys x

module _ {K : Type 0} (eq : K → K → Bool) (same : (x y : K) → eq x y ≡ true → x ≡ y) (own : (x : K) → eq x x ≡ true) where
  -- no element stands at two places
  pub places_distinct : (xs : List K) → IsDistinct eq xs → (i j : ℕ) (x : K) → slice_get xs i ≡ Some x → slice_get xs j ≡ Some x → i ≡ j
  places_distinct [] d i j x e f = cc
  places_distinct (y ∷ ys) d zero zero x e f = refl
  places_distinct (y ∷ ys) d zero (suc j) x e f =
      let first : y ≡ x = cc in
      let other = all_at (λ z. eq y z ≡ false) ys j x (IsDistinct-head eq y ys d) f in
      absurd (true≢false (sym (own y) ∙ (ap (eq y) first ∙ other)))
  places_distinct (y ∷ ys) d (suc i) zero x e f =
      let first : y ≡ x = cc in
      let other = all_at (λ z. eq y z ≡ false) ys i x (IsDistinct-head eq y ys d) e in
      absurd (true≢false (sym (own y) ∙ (ap (eq y) first ∙ other)))
  places_distinct (y ∷ ys) d (suc i) (suc j) x e f = ap suc (places_distinct ys (IsDistinct-tail eq y ys d) i j x e f)

  -- where no element passes the test of x, x is at no place
  pub nowhere : (xs : List K) (x : K) → list_any (eq x) xs ≡ false → (i : ℕ) → slice_get xs i ≢ Some x
  nowhere [] x none i e = cc
  nowhere (y ∷ ys) x none zero e =
      let first : y ≡ x = cc in
      absurd (true≢false (sym (ap (λ b. b || list_any (eq x) ys) (ap (eq x) first ∙ own x)) ∙ none))
  nowhere (y ∷ ys) x none (suc i) e = by (eq x y) refl (λ rest. nowhere ys x rest i e)
    where
      by : (b : Bool) → eq x y ≡ b → (list_any (eq x) ys ≡ false → ⊥) → ⊥
      by true p later = absurd (true≢false (sym (ap (λ b. b || list_any (eq x) ys) p) ∙ none))
      by false p later = later (sym (ap (λ b. b || list_any (eq x) ys) p) ∙ none)

  -- the first place that passes the test of x is that of x
  pub position_is : (xs : List K) (x : K) (i : ℕ) → position (eq x) xs ≡ Some i → slice_get xs i ≡ Some x
  position_is xs x i e =
      let at = position-Some (eq x) xs i x e in
      slice_get-get_or xs i x at.0 ∙ ap Some (sym (same x (get_or xs i x) at.1))

  -- a list after an insertion: as it was where x is there, else with x last
  pub inserted : (old new : List K) (x y : K) (i : ℕ) → new ≡ insert_key eq old x → slice_get new i ≡ Some y → eq x y ≡ true → IsDistinct eq new
      → ((slice_get old i ≡ Some x) × (new ≡ old)) ⊎ (((k : ℕ) → slice_get old k ≢ Some x) × (i ≡ length old) × (new ≡ old ++ x ∷ []))
  inserted old new x y i keys at equal d = by (list_any (eq x) old) refl
    where
      is_x : slice_get new i ≡ Some x
      is_x = at ∙ ap Some (sym (same x y equal))

      by : (b : Bool) → list_any (eq x) old ≡ b
          → ((slice_get old i ≡ Some x) × (new ≡ old)) ⊎ (((k : ℕ) → slice_get old k ≢ Some x) × (i ≡ length old) × (new ≡ old ++ x ∷ []))
      by true p =
          let stays = keys ∙ ap (λ b. if b then old else old ++ x ∷ []) p in
          inl (sym (ap (λ l. slice_get l i) stays) ∙ is_x, stays)
      by false p =
          let grows = keys ∙ ap (λ b. if b then old else old ++ x ∷ []) p in
          let place = places_distinct new d i (length old) x is_x (ap (λ l. slice_get l (length old)) grows ∙ last_at old x) in
          inr (nowhere old x p, place, grows)
