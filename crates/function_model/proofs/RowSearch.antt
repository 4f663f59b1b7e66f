-- What two binary searches leave of rows along which the values at a place don't fall.
use Rattle.std.proofs.Common.{◌≡◌, ℕ, zero, suc, ◌+◌, ◌≤◌, Bool, true, false, cond, List, [], ◌∷◌, length, take, drop, get_or-drop, length-drop, refl, ap, sym, subst, ◌∙◌, arith}
use Rattle.std.specs.Prelude.{Option, None, Some, filter, slice_get}
use Rattle.std.specs.List.{AllWithin}
use Rattle.std.specs.List.Sorted.{IsPartitionedBy, IsPartitionPoint}
use Rattle.mbqi_values.specs.Value.{is_same, rank_of}
use Rattle.mbqi_values.specs.declared.value.Value.{Value}
use Rattle.function_model.specs.Narrowing.{NeverFallAt, is_below, is_up_to, passes, passes_at}
use Rattle.function_model.specs.declared.model.Row.{Row}
use Rattle.function_model.proofs.ValueOrder.{gt_apart, lt_apart, tied}

module _ {X : Type 0} (low high kept : X → Bool) (below : (x : X) → low x ≡ true → kept x ≡ false)
    (within : (x : X) → low x ≡ false → high x ≡ true → kept x ≡ true) (above : (x : X) → high x ≡ false → kept x ≡ false) where
  -- what is below isn't kept
  front : (xs : List X) (i : ℕ) → AllWithin (λ x. low x ≡ true) xs 0 i → filter kept (drop i xs) ≡ filter kept xs
  front xs zero passed = refl
  front [] (suc i) passed = refl
  front (x ∷ xs) (suc i) passed =
      front xs i (λ j e l u. passed (suc j) e (omega arith) (omega arith))
      ∙ sym (ap (λ b. cond b (x ∷ filter kept xs) (filter kept xs)) (below x (passed 0 x (omega arith) (omega arith))))

  -- of the others the first are kept
  others : (xs : List X) (j : ℕ) → j ≤ length xs → AllWithin (λ x. low x ≡ false) xs 0 (length xs)
      → AllWithin (λ x. high x ≡ true) xs 0 j → AllWithin (λ x. high x ≡ false) xs j (length xs) → take j xs ≡ filter kept xs
  others [] zero h failed passed out = refl
  others [] (suc j) h failed passed out = absurd (omega arith)
  others (x ∷ xs) zero h failed passed out =
      others xs 0 (omega arith) (λ k e l u. failed (suc k) e (omega arith) (omega arith)) (λ k e l u. absurd (omega arith)) (λ k e l u. out (suc k) e (omega arith) (omega arith))
      ∙ sym (ap (λ b. cond b (x ∷ filter kept xs) (filter kept xs)) (above x (out 0 x (omega arith) (omega arith))))
  others (x ∷ xs) (suc j) h failed passed out =
      ap (λ rest. x ∷ rest) (others xs j (omega arith) (λ k e l u. failed (suc k) e (omega arith) (omega arith)) (λ k e l u. passed (suc k) e (omega arith) (omega arith)) (λ k e l u. out (suc k) e (omega arith) (omega arith)))
      ∙ sym (ap (λ b. cond b (x ∷ filter kept xs) (filter kept xs)) (within x (failed 0 x (omega arith) (omega arith)) (passed 0 x (omega arith) (omega arith))))

  pub between : (xs : List X) (i j : ℕ) → IsPartitionPoint (λ x. low x ≡ true) (λ x. low x ≡ false) xs i → j ≤ length (drop i xs)
      → IsPartitionPoint (λ x. high x ≡ true) (λ x. high x ≡ false) (drop i xs) j → take j (drop i xs) ≡ filter kept xs
  between xs i j first h second =
      others (drop i xs) j h
      (λ k e l u. subst (λ x. low x ≡ false) (sym (get_or-drop i xs k e)) (first.1 (i + k) e (omega arith) (omega (arith, length-drop i xs))))
      second.0 second.1
      ∙ front xs i first.0

-- the rows behind some don't fall either
parted_behind : {X : Type 0} (test : X → Bool) (xs : List X) (n : ℕ) → IsPartitionedBy test xs → IsPartitionedBy test (drop n xs)
parted_behind test xs n parted i j d le h t =
    subst (λ x. test x ≡ true) (sym (get_or-drop n xs i d))
    (parted (n + i) (n + j) d (omega arith) (omega (arith, length-drop n xs)) (subst (λ x. test x ≡ true) (get_or-drop n xs j d) t))

pub falls_nowhere_behind : (place n : ℕ) (rows : List Row) → NeverFallAt place rows → NeverFallAt place (drop n rows)
falls_nowhere_behind place n rows never test down = parted_behind (passes_at place test) rows n (never test down)

below_apart_at : (w : Value) (o : Option Value) → passes (is_below w) o ≡ true → passes (λ v. is_same v w) o ≡ false
below_apart_at w None h = refl
below_apart_at w (Some v) h = lt_apart (rank_of v w) h

same_at : (w : Value) (o : Option Value) → passes (is_below w) o ≡ false → passes (is_up_to w) o ≡ true → passes (λ v. is_same v w) o ≡ true
same_at w None h k = k
same_at w (Some v) h k = tied (rank_of v w) h k

above_apart_at : (w : Value) (o : Option Value) → passes (is_up_to w) o ≡ false → passes (λ v. is_same v w) o ≡ false
above_apart_at w None h = refl
above_apart_at w (Some v) h = gt_apart (rank_of v w) h

pub rows_between : (place : ℕ) (w : Value) (rows : List Row) (i j : ℕ)
    → IsPartitionPoint (λ row. passes_at place (is_below w) row ≡ true) (λ row. passes_at place (is_below w) row ≡ false) rows i → j ≤ length (drop i rows)
    → IsPartitionPoint (λ row. passes_at place (is_up_to w) row ≡ true) (λ row. passes_at place (is_up_to w) row ≡ false) (drop i rows) j
    → take j (drop i rows) ≡ filter (passes_at place (λ own. is_same own w)) rows
rows_between place w rows i j first h second =
    between (passes_at place (is_below w)) (passes_at place (is_up_to w)) (passes_at place (λ own. is_same own w))
    (λ row. below_apart_at w (slice_get row.places place)) (λ row. same_at w (slice_get row.places place)) (λ row. above_apart_at w (slice_get row.places place))
    rows i j first h second
