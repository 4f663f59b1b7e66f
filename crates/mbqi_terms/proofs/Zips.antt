-- Lists related element by element.
use Rattle.std.proofs.Common.{◌≡◌, ℕ, zero, suc, List, [], ◌∷◌, ◌++◌, length, take, Some, slice_get, refl, subst, arith}
use Rattle.std.specs.List.{AllZip}

module _ {A B : Type 0} (R : A → B → Type 0) where
  pub zip_length : (xs : List A) (ys : List B) → AllZip R xs ys → length xs ≡ length ys
  zip_length [] [] zip = refl
  zip_length [] (y ∷ ys) zip = absurd zip
  zip_length (x ∷ xs) [] zip = absurd zip
  zip_length (x ∷ xs) (y ∷ ys) zip = omega (arith, zip_length xs ys zip.1)

  pub zip_empty : (xs : List A) (ys : List B) → AllZip R xs ys → ys ≡ [] → xs ≡ []
  zip_empty [] ys zip e = refl
  zip_empty (x ∷ xs) [] zip e = absurd zip
  zip_empty (x ∷ xs) (y ∷ ys) zip e = cc

  pub zip_at : (xs : List A) (ys : List B) → AllZip R xs ys → (k : ℕ) (y : B) → slice_get ys k ≡ Some y → (x : A) × R x y
  zip_at xs [] zip k y e = cc
  zip_at [] (z ∷ zs) zip k y e = absurd zip
  zip_at (x ∷ xs) (z ∷ zs) zip zero y e = let same : z ≡ y = cc in (x, subst (R x) same zip.0)
  zip_at (x ∷ xs) (z ∷ zs) zip (suc k) y e = zip_at xs zs zip.1 k y e

  pub zip_push : (xs : List A) (ys : List B) (x : A) (y : B) → AllZip R xs ys → R x y → AllZip R (xs ++ x ∷ []) (ys ++ y ∷ [])
  zip_push [] [] x y zip r = (r, tt)
  zip_push [] (z ∷ zs) x y zip r = absurd zip
  zip_push (w ∷ ws) [] x y zip r = absurd zip
  zip_push (w ∷ ws) (z ∷ zs) x y zip r = (zip.0, zip_push ws zs x y zip.1 r)

  pub zip_take : (xs : List A) (ys : List B) (n : ℕ) → AllZip R xs ys → AllZip R (take n xs) (take n ys)
  zip_take [] [] zero zip = tt
  zip_take [] [] (suc n) zip = tt
  zip_take [] (y ∷ ys) n zip = absurd zip
  zip_take (x ∷ xs) [] n zip = absurd zip
  zip_take (x ∷ xs) (y ∷ ys) zero zip = tt
  zip_take (x ∷ xs) (y ∷ ys) (suc n) zip = (zip.0, zip_take xs ys n zip.1)

  -- the front and the last
  pub zip_split : (xs : List A) (ys : List B) (y : B) → AllZip R xs (ys ++ y ∷ []) → ((zs : List A) × AllZip R zs ys) × ((z : A) × R z y)
  zip_split [] [] y zip = absurd zip
  zip_split [] (w ∷ ws) y zip = absurd zip
  zip_split (x ∷ xs) [] y zip = (([], tt), (x, zip.0))
  zip_split (x ∷ xs) (w ∷ ws) y zip =
      let rest = zip_split xs ws y zip.1 in
      ((x ∷ rest.0.0, (zip.0, rest.0.1)), rest.1)
