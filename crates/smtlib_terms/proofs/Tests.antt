-- What tests of numbers and of the items of a list say.
use Rattle.std.proofs.Common.{◌≡◌, ◌<◌, ◌≤◌, ℕ, zero, suc, Bool, true, false, leb, ltb, List, [], ◌∷◌, All, Some, slice_get, subst, arith}
use Rattle.std.specs.List.{list_any}
use Rattle.std.proofs.lemmas.Bool.{or_parts}
use Rattle.std.proofs.lemmas.Bool.Decides.{nat_tests}
use Rattle.std.proofs.lemmas.Option.{get_or_from_slice_get, slice_get_within}

pub leb_le : (a b : ℕ) → leb a b ≡ true → a ≤ b
leb_le a b e = grind (arith, nat_tests)

pub le_true : (a b : ℕ) → a ≤ b → leb a b ≡ true
le_true a b le = grind (arith, nat_tests)

pub ltb_lt : (a b : ℕ) → ltb a b ≡ true → a < b
ltb_lt a b e = grind (arith, nat_tests)

-- what no item passes
pub none_passes : {X : Type 0} (p : X → Bool) (xs : List X) (i : ℕ) (x : X) → list_any p xs ≡ false → slice_get xs i ≡ Some x → p x ≡ false
none_passes p [] i x none e = cc
none_passes p (y ∷ ys) zero x none e =
    let same : y ≡ x = cc in
    subst (λ z. p z ≡ false) same (or_parts (p y) (list_any p ys) none).0
none_passes p (y ∷ ys) (suc i) x none e = none_passes p ys i x (or_parts (p y) (list_any p ys) none).1 e

-- what all items have, an item at a place has
pub all_get : {X : Type 0} (P : X → Type 0) (xs : List X) (i : ℕ) (x : X) → All P xs → slice_get xs i ≡ Some x → P x
all_get P xs i x all e = subst P (get_or_from_slice_get xs i x x e) (all i x (slice_get_within xs i x e))
