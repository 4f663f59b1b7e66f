-- Lists of keys that are seen as their texts.
use Rattle.std.proofs.Common.{◌≡◌, ◌+◌, ℕ, zero, suc, Bool, true, false, true≢false, not, cond, nat_lt, List, [], ◌∷◌, ◌++◌, ◌||◌, map, Option, Some, None, IfSome, get_or, slice_get, nat_eq, position, if◌then◌else◌, refl, sym, ap, subst, ◌∙◌}
use Rattle.std.specs.Cmp.Lexicographic.{pointwise, same_text, nat_list_eq_equiv}
use Rattle.std.specs.List.{list_any, AllByRecursion, IsDistinct, position_or_len}
use Rattle.std.proofs.lemmas.List.{length-map}
use Rattle.std.proofs.lemmas.List.Quantifiers.{position-Some}
use Rattle.std.proofs.lemmas.Map.Keys.{IsDistinct-head, IsDistinct-tail}
use Rattle.std.proofs.lemmas.Option.{slice_get-get_or}
use Rattle.indexmap.specs.IndexSet.{insert_key}

-- what holds of each element holds of the one at a place
all_at : {K : Type 0} (P : K → Type 0) (xs : List K) (i : ℕ) (x : K) → AllByRecursion P xs → slice_get xs i ≡ Some x → P x
all_at P [] i x all e = cc
all_at P (y ∷ ys) zero x all e = let same : y ≡ x = cc in subst P same all.0
all_at P (y ∷ ys) (suc i) x all e = all_at P ys i x all.1 e

-- a text is itself
pub own_text : (x : List ℕ) → pointwise nat_eq x x ≡ true
own_text x = nat_list_eq_equiv.refl x

-- no text stands at two places
pub places_distinct : (xs : List (List ℕ)) → IsDistinct (pointwise nat_eq) xs → (i j : ℕ) (x : List ℕ) → slice_get xs i ≡ Some x → slice_get xs j ≡ Some x → i ≡ j
places_distinct [] d i j x e f = cc
places_distinct (y ∷ ys) d zero zero x e f = refl
places_distinct (y ∷ ys) d zero (suc j) x e f =
    let first : y ≡ x = cc in
    let other = all_at (λ z. pointwise nat_eq y z ≡ false) ys j x (IsDistinct-head (pointwise nat_eq) y ys d) f in
    absurd (true≢false (sym (own_text y) ∙ (ap (pointwise nat_eq y) first ∙ other)))
places_distinct (y ∷ ys) d (suc i) zero x e f =
    let first : y ≡ x = cc in
    let other = all_at (λ z. pointwise nat_eq y z ≡ false) ys i x (IsDistinct-head (pointwise nat_eq) y ys d) e in
    absurd (true≢false (sym (own_text y) ∙ (ap (pointwise nat_eq y) first ∙ other)))
places_distinct (y ∷ ys) d (suc i) (suc j) x e f = ap suc (places_distinct ys (IsDistinct-tail (pointwise nat_eq) y ys d) i j x e f)

-- the first place that passes the test of a text is the text's
pub position_is : (xs : List (List ℕ)) (x : List ℕ) (i : ℕ) → position (λ other. pointwise nat_eq x other) xs ≡ Some i → slice_get xs i ≡ Some x
position_is xs x i e =
    let at = position-Some (pointwise nat_eq x) xs i x e in
    slice_get-get_or xs i x at.0 ∙ ap Some (sym (same_text x (get_or xs i x) (sym at.1)))

-- at the place that a look-up gives the text stands, and there alone
pub found_at : (xs : List (List ℕ)) (x : List ℕ) (r : Option ℕ) → r ≡ position (λ other. pointwise nat_eq x other) xs → IfSome r (λ place. slice_get xs place ≡ Some x)
found_at xs x None e = tt
found_at xs x (Some i) e = position_is xs x i (sym e)

pub only_there : (xs : List (List ℕ)) (x : List ℕ) (r : Option ℕ) → IsDistinct (pointwise nat_eq) xs → r ≡ position (λ other. pointwise nat_eq x other) xs → IfSome r (λ place. (k : ℕ) → slice_get xs k ≡ Some x → k ≡ place)
only_there xs x None d e = tt
only_there xs x (Some i) d e = λ k f. places_distinct xs d k i x f (position_is xs x i (sym e))

module _ {K : Type 0} (text : K → List ℕ) where
  position_or_len-map : (p : List ℕ → Bool) (ks : List K) → position_or_len p (map text ks) ≡ position_or_len (λ k. p (text k)) ks
  position_or_len-map p [] = refl
  position_or_len-map p (k ∷ ks) = ap (λ n. cond (not (p (text k))) (1 + n) 0) (position_or_len-map p ks)

  pub position-map : (p : List ℕ → Bool) (ks : List K) → position p (map text ks) ≡ position (λ k. p (text k)) ks
  position-map p ks =
      (λ i. cond (nat_lt (position_or_len-map p ks i) (length-map ks text i)) (Some (position_or_len-map p ks i)) None)

  -- texts are distinct where keys are by their texts
  all-map : (P : List ℕ → Type 0) (ks : List K) → AllByRecursion (λ k. P (text k)) ks → AllByRecursion P (map text ks)
  all-map P [] all = tt
  all-map P (k ∷ ks) all = (all.0, all-map P ks all.1)

  pub distinct-map : (ks : List K) → IsDistinct (λ k l. pointwise nat_eq (text k) (text l)) ks → IsDistinct (pointwise nat_eq) (map text ks)
  unfolding IsDistinct
  distinct-map [] d = tt
  distinct-map (k ∷ ks) d = (all-map (λ y. pointwise nat_eq (text k) y ≡ false) ks d.0, distinct-map ks d.1)

  -- a look-up by text, seen as the list of texts, whichever of the two stands first in the test
  pub found_by_text : (name : List ℕ) (ks : List K) → list_any (λ k. pointwise nat_eq name (text k)) ks ≡ list_any (λ other. pointwise nat_eq other name) (map text ks)
  found_by_text name [] = refl
  found_by_text name (k ∷ ks) = λ i. nat_list_eq_equiv.symm name (text k) i || found_by_text name ks i

  append-map : (ks : List K) (k : K) → map text (ks ++ k ∷ []) ≡ map text ks ++ text k ∷ []
  append-map [] k = refl
  append-map (l ∷ ks) k = ap (λ r. text l ∷ r) (append-map ks k)

  -- the list of texts after an insertion of a key whose text isn't there
  pub added : (name : List ℕ) (old : List K) (k : K) → text k ≡ name → list_any (λ other. pointwise nat_eq other name) (map text old) ≡ false
      → map text (insert_key (λ k l. pointwise nat_eq (text k) (text l)) old k) ≡ map text old ++ name ∷ []
  added name old k e none =
      let absent = found_by_text (text k) old ∙ (ap (λ n. list_any (λ other. pointwise nat_eq other n) (map text old)) e ∙ none) in
      ap (λ b. map text (if b then old else old ++ k ∷ [])) absent ∙ (append-map old k ∙ ap (λ n. map text old ++ n ∷ []) e)
