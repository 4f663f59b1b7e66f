-- The measures of a list with one more item, and of a list of one item alone.
use Rattle.std.proofs.Common.{◌≡◌, ℕ, ◌+◌, Bool, true, false, ◌||◌, List, [], ◌∷◌, ◌++◌, length, map, max, sum, slice_get, Some, refl, arith}
use Rattle.std.specs.List.{list_any}
use Rattle.std.proofs.lemmas.List.{map-append}
use Rattle.std.proofs.lemmas.List.Sums.{fold-append}
use Rattle.mbqi_terms.specs.Depth.{deepest}

pub deepest_push : {A : Type 0} (depth : A → ℕ) (xs : List A) (x : A) → deepest (map depth (xs ++ x ∷ [])) ≡ max (deepest (map depth xs)) (depth x)
deepest_push depth xs x = rw (map-append, fold-append) refl

pub sum_push : {A : Type 0} (count : A → ℕ) (xs : List A) (x : A) → sum (map count (xs ++ x ∷ [])) ≡ sum (map count xs) + count x
sum_push count xs x = rw (map-append, fold-append) refl

or-assoc : (a b c d : Bool) → b ≡ (c || d) → (a || b) ≡ ((a || c) || d)
or-assoc true b c d e = refl
or-assoc false b c d e = e

or-false : (a : Bool) → (a || false) ≡ (false || a)
or-false true = refl
or-false false = refl

pub any_push : {A : Type 0} (test : A → Bool) (xs : List A) (x : A) → list_any (λ v. v) (map test (xs ++ x ∷ [])) ≡ (list_any (λ v. v) (map test xs) || test x)
any_push test [] x = or-false (test x)
any_push test (y ∷ ys) x = or-assoc (test y) _ _ _ (any_push test ys x)

pub ruleset push_laws = (deepest_push, sum_push, any_push)

pub sole_list : {A : Type 0} (xs : List A) (x : A) → slice_get xs 0 ≡ Some x → length xs ≡ 1 → xs ≡ x ∷ []
sole_list [] x e l = grind arith
sole_list (y ∷ []) x e l = grind arith
sole_list (y ∷ z ∷ zs) x e l = grind arith

pub sole_deepest : {A : Type 0} (depth : A → ℕ) (xs : List A) (x : A) → slice_get xs 0 ≡ Some x → length xs ≡ 1 → deepest (map depth xs) ≡ depth x
sole_deepest depth xs x e l = rw (sole_list xs x e l) (omega arith)

pub sole_sum : {A : Type 0} (count : A → ℕ) (xs : List A) (x : A) → slice_get xs 0 ≡ Some x → length xs ≡ 1 → sum (map count xs) ≡ count x
sole_sum count xs x e l = rw (sole_list xs x e l) (omega arith)

pub sole_any : {A : Type 0} (test : A → Bool) (xs : List A) (x : A) → slice_get xs 0 ≡ Some x → length xs ≡ 1 → list_any (λ v. v) (map test xs) ≡ test x
sole_any test xs x e l = rw (sole_list xs x e l) (or-false (test x))

pub ruleset alone_laws = (sole_list, sole_deepest, sole_sum, sole_any)
