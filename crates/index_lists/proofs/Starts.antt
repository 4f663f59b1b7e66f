-- The arrays of the lists that one begins with.
use Rattle.std.proofs.Common.{◌≡◌, ◌⊎◌, ◌<◌, ◌≤◌, ◌+◌, ◌-◌, ℕ, zero, suc, true, false, true≢false, List, [], ◌∷◌, length, map, Option, Some, None, get_or, ◌==◌, nat_lt, if◌then◌else◌, slice_get, replicate, refl, sym, ap, ◌∙◌, subst, inl, inr, arith, length-set}
use Rattle.std.specs.List.{range_with_len}
use Rattle.std.proofs.lemmas.Bool.{cases_eq, cases_lt, eq-eqb, eqb-true, false_from_ne_true, le-ltb, lt-ltb, or_cases, or_right}
use Rattle.std.proofs.lemmas.Bool.Decides.{eqb_tells}
use Rattle.std.proofs.lemmas.List.{get_or_past, length-replicate}
use Rattle.std.proofs.lemmas.List.Folds.{sum_by-replicate}
use Rattle.std.proofs.lemmas.List.FromFn.{get_or-map-range_with_len, get_or-range_with_len, length-map-range_with_len, length-range_with_len}
use Rattle.std.proofs.lemmas.List.Sums.{sum_by-cons}
use Rattle.index_lists.specs.Lists.{all_in_first, behind, each_alone, has, IsOnce, item_count, items_of}
use Rattle.index_lists.specs.Links.{Arrays, before, first_links, IsLinked, IsPlaced, link_of, next_links, previous_links}

-- the numbers of a range
range-within : (a n x : ℕ) → has x (range_with_len a n) ≡ true → (a ≤ x) × (x < a + n)
range-within a zero x there = absurd (true≢false (sym there))
range-within a (suc n) x there = elim (or_cases (a == x) (has x (range_with_len (a + 1) n)) there) [
  | inl same ↦ let e = eqb-true a x same in (omega (arith, e), omega (arith, e))
  | inr rest ↦ let below = range-within (a + 1) n x rest in (omega (arith, below.0), omega (arith, below.1))
]

range-has : (a n x : ℕ) → a ≤ x → x < a + n → has x (range_with_len a n) ≡ true
range-has a zero x from within = absurd (omega arith)
range-has a (suc n) x from within = elim (cases_eq a x) [
  | inl same ↦ rw (eq-eqb a x same) refl
  | inr other ↦
      let more : a + 1 ≤ x = omega (arith, other) in
      let below : x < (a + 1) + n = omega arith in
      or_right (a == x) (has x (range_with_len (a + 1) n)) (range-has (a + 1) n x more below)
]

range-once : (a n : ℕ) → IsOnce (range_with_len a n)
range-once a n = record { once = by a n }
  where
    by : (a n x : ℕ) → has x (behind x (range_with_len a n)) ≡ false
    by a zero x = refl
    by a (suc n) x = elim (eqb_tells a x) [
      | inl same ↦
          rw same.0 (
          false_from_ne_true (has x (range_with_len (a + 1) n))
          (λ there. let from = (range-within (a + 1) n x there).0 in let e = same.1 in absurd (omega (arith, from, e)))
          )
      | inr other ↦ rw other.0 (by (a + 1) n x)
    ]

-- what stands behind a number of a range, and before it
range-behind : (a n x : ℕ) → a ≤ x → x < a + n → slice_get (behind x (range_with_len a n)) 0 ≡ (if nat_lt (x + 1) (a + n) then Some (x + 1) else None)
range-behind a zero x from within = absurd (omega arith)
range-behind a (suc n) x from within = elim (eqb_tells a x) [
  | inl same ↦ rw same.0 (first n same.1)
  | inr other ↦
      let differ = other.1 in
      let more : a + 1 ≤ x = omega (arith, differ) in
      let below : x < (a + 1) + n = omega arith in
      let ends : (a + 1) + n ≡ a + suc n = omega arith in
      rw other.0 (range-behind (a + 1) n x more below ∙ ap (λ (end : ℕ). if nat_lt (x + 1) end then Some (x + 1) else None) ends)
]
  where
    first : (n : ℕ) → a ≡ x → slice_get (range_with_len (a + 1) n) 0 ≡ (if nat_lt (x + 1) (a + suc n) then Some (x + 1) else None)
    first zero e = rw (le-ltb (x + 1) (a + 1) (omega arith)) refl
    first (suc n) e = rw (lt-ltb (x + 1) (a + suc (suc n)) (omega arith)) (ap (λ (k : ℕ). Some (k + 1)) e)

range-before : (front : Option ℕ) (a n x : ℕ) → a ≤ x → x < a + n → before front x (range_with_len a n) ≡ (if nat_lt a x then Some (x - 1) else front)
range-before front a zero x from within = absurd (omega arith)
range-before front a (suc n) x from within = elim (eqb_tells a x) [
  | inl same ↦ let e = same.1 in rw (same.0, le-ltb a x (omega (arith, e))) refl
  | inr other ↦
      let differ = other.1 in
      let more : a + 1 ≤ x = omega (arith, differ) in
      let below : x < (a + 1) + n = omega arith in
      rw (other.0, lt-ltb a x (omega arith)) (range-before (Some a) (a + 1) n x more below ∙ second (cases_lt (a + 1) x) more)
]
  where
    second : ((a + 1 < x) ⊎ (x ≤ a + 1)) → a + 1 ≤ x → (if nat_lt (a + 1) x then Some (x - 1) else Some a) ≡ Some (x - 1)
    second (inl more) at = rw (lt-ltb (a + 1) x more) refl
    second (inr no_more) at =
        let e : a ≡ x - 1 = omega arith in
        rw (le-ltb (a + 1) x no_more) (ap Some e)

replicate-default : {X : Type 0} (n k : ℕ) (d : X) → get_or (replicate n d) k d ≡ d
replicate-default zero k d = refl
replicate-default (suc n) zero d = refl
replicate-default (suc n) (suc k) d = replicate-default n k d

-- all items in the first list
module _ (lists items : ℕ) (some : 0 < items → 0 < lists) where
  abbrev pub first_arrays : Arrays
  first_arrays = record { first = first_links lists items; next = next_links items; previous = previous_links items; list_of = replicate items 0 }

  abbrev first_lists : List (List ℕ)
  first_lists = all_in_first lists items

  first_is : (lists : ℕ) → (0 < items → 0 < lists) → items_of (all_in_first lists items) 0 ≡ range_with_len 0 items
  first_is zero some = none items some
    where
      none : (items : ℕ) → (0 < items → 0 < 0) → [] ≡ range_with_len 0 items
      none zero some = refl
      none (suc items) some = absurd (let bad = some (omega arith) in omega (arith, bad))
  first_is (suc lists) some = refl

  others_are : (lists k : ℕ) → items_of (all_in_first lists items) (suc k) ≡ []
  others_are zero k = refl
  others_are (suc lists) k = replicate-default lists k []

  links_length : length (next_links items) ≡ items
  links_length = length-map-range_with_len (λ (item : ℕ). if nat_lt item (items - 1) then Some (item + 1) else None) 0 items

  firsts : (lists items k : ℕ) → (0 < items → 0 < lists) → link_of (first_links lists items) k ≡ slice_get (items_of (all_in_first lists items) k) 0
  firsts zero zero k some = refl
  firsts zero (suc items) k some = absurd (let bad = some (omega arith) in omega (arith, bad))
  firsts (suc lists) zero zero some = refl
  firsts (suc lists) zero (suc k) some = replicate-default lists k None ∙ sym (ap (λ (xs : List ℕ). slice_get xs 0) (replicate-default lists k []))
  firsts (suc lists) (suc items) zero some = refl
  firsts (suc lists) (suc items) (suc k) some = replicate-default lists k None ∙ sym (ap (λ (xs : List ℕ). slice_get xs 0) (replicate-default lists k []))

  placed : (x : ℕ) → x < items → IsPlaced first_arrays 0 (range_with_len 0 items) x
  placed x within = record {
    is_item = omega (arith, within, links_length);
    next =
        get_or-map-range_with_len (λ (item : ℕ). if nat_lt item (items - 1) then Some (item + 1) else None) 0 items x x None within (omega arith)
        ∙ (last ∙ sym (range-behind 0 items x (omega arith) (omega arith)));
    previous =
        get_or-map-range_with_len (λ (item : ℕ). if nat_lt 0 item then Some (item - 1) else None) 0 items x x None within (omega arith)
        ∙ sym (range-before None 0 items x (omega arith) (omega arith));
    place = replicate-default items x 0;
  }
    where
      last : (if nat_lt x (items - 1) then Some (x + 1) else None) ≡ (if nat_lt (x + 1) (0 + items) then Some (x + 1) else None)
      last = elim (cases_lt (x + 1) items) [
        | inl more ↦ rw (lt-ltb x (items - 1) (omega arith), lt-ltb (x + 1) (0 + items) (omega arith)) refl
        | inr no_more ↦ rw (le-ltb x (items - 1) (omega arith), le-ltb (x + 1) (0 + items) (omega arith)) refl
      ]

  placed_in : (list x : ℕ) → has x (items_of first_lists list) ≡ true → IsPlaced first_arrays list (items_of first_lists list) x
  placed_in zero x there =
      let at = range-within 0 items x (ap (has x) (sym (first_is lists some)) ∙ there) in
      subst (λ xs. IsPlaced first_arrays 0 xs x) (sym (first_is lists some)) (placed x (omega (arith, at.1)))
  placed_in (suc list) x there = absurd (true≢false (sym there ∙ ap (has x) (others_are lists list)))

  once_in : (list : ℕ) → IsOnce (items_of first_lists list)
  once_in zero = subst (λ xs. IsOnce xs) (sym (first_is lists some)) (range-once 0 items)
  once_in (suc list) = subst (λ xs. IsOnce xs) (sym (others_are lists list)) (record { once = λ item. refl })

  pub first-length : length first_lists ≡ lists
  first-length = length-set (replicate lists []) 0 (range_with_len 0 items) ∙ length-replicate lists []

  first_links-length : (lists items : ℕ) → length (first_links lists items) ≡ lists
  first_links-length lists zero = length-replicate lists None
  first_links-length lists (suc items) = length-set (replicate lists None) 0 (Some 0) ∙ length-replicate lists None

  pub first-count : item_count first_lists ≡ items
  first-count = by lists some
    where
      by : (lists : ℕ) → (0 < items → 0 < lists) → item_count (all_in_first lists items) ≡ items
      by zero some = elim (cases_lt 0 items) [
        | inl more ↦ absurd (let bad = some more in omega (arith, bad))
        | inr no_more ↦ omega (arith, no_more)
      ]
      by (suc lists) some =
          let sum = sum_by-cons length (range_with_len 0 items) (replicate lists []) in
          let rest = sum_by-replicate {X = List ℕ} length lists [] in
          let first = length-range_with_len 0 items in
          omega (arith, sum, rest, first)

  pub first-linked : IsLinked first_arrays first_lists
  first-linked = record {
    linked = record {
      first = λ list. firsts lists items list some;
      placed = placed_in;
      once = once_in;
      first_length = first_links-length lists items ∙ sym first-length;
      previous_length =
          length-map-range_with_len (λ (item : ℕ). if nat_lt 0 item then Some (item - 1) else None) 0 items ∙ sym links_length;
      list_of_length = length-replicate items 0 ∙ sym links_length;
    };
    found = λ item within.
        let here : item < 0 + items = omega (arith, within, links_length) in
        ap (λ k. has item (items_of first_lists k)) (replicate-default items item 0) ∙ (ap (has item) (first_is lists some) ∙ range-has 0 items item (omega arith) here);
    next_length = links_length ∙ sym first-count;
  }

-- each item alone in the list of its number
module _ (count : ℕ) where
  abbrev pub alone_arrays : Arrays
  alone_arrays = record { first = map Some (range_with_len 0 count); next = replicate count None; previous = replicate count None; list_of = range_with_len 0 count }

  abbrev alone_lists : List (List ℕ)
  alone_lists = each_alone count

  abbrev alone : ℕ → List ℕ
  alone item = item ∷ []

  alone_is : (list : ℕ) → list < count → items_of alone_lists list ≡ list ∷ []
  alone_is list within = get_or-map-range_with_len alone 0 count list list [] within (omega arith)

  pub alone-length : length alone_lists ≡ count
  alone-length = length-map-range_with_len alone 0 count

  none_past : (list : ℕ) → count ≤ list → items_of alone_lists list ≡ []
  none_past list past = get_or_past alone_lists list [] (omega (arith, past, alone-length))

  next_length : length alone_arrays.next ≡ count
  next_length = length-replicate count None

  firsts_alone : (list : ℕ) → link_of alone_arrays.first list ≡ slice_get (items_of alone_lists list) 0
  firsts_alone list = elim (cases_lt list count) [
    | inl within ↦
        let to : ℕ → Option ℕ = λ item. Some item in
        get_or-map-range_with_len to 0 count list list None within (omega arith) ∙ sym (ap (λ (xs : List ℕ). slice_get xs 0) (alone_is list within))
    | inr past ↦
        let length_first = length-map-range_with_len {X = Option ℕ} Some 0 count in
        get_or_past alone_arrays.first list None (omega (arith, past, length_first)) ∙ sym (ap (λ (xs : List ℕ). slice_get xs 0) (none_past list past))
  ]

  placed_alone : (list x : ℕ) → has x (items_of alone_lists list) ≡ true → IsPlaced alone_arrays list (items_of alone_lists list) x
  placed_alone list x there = elim (cases_lt list count) [
    | inl within ↦
        let is_list : list ≡ x = only list x (ap (has x) (sym (alone_is list within)) ∙ there) in
        subst (λ y. IsPlaced alone_arrays list (items_of alone_lists list) y) is_list (subst (λ ys. IsPlaced alone_arrays list ys list) (sym (alone_is list within)) (record {
          is_item = omega (arith, within, next_length);
          next = replicate-default count list None ∙ rw (eq-eqb list list refl) refl;
          previous = replicate-default count list None ∙ rw (eq-eqb list list refl) refl;
          place = get_or-range_with_len 0 count list 0 within ∙ omega arith;
        }))
    | inr past ↦ absurd (true≢false (sym there ∙ ap (has x) (none_past list past)))
  ]
    where
      only : (list x : ℕ) → has x (list ∷ []) ≡ true → list ≡ x
      only list x there = elim (or_cases (list == x) false there) [ inl same ↦ eqb-true list x same | inr no_more ↦ absurd (true≢false (sym no_more)) ]

  once_alone : (list : ℕ) → IsOnce (items_of alone_lists list)
  once_alone list = elim (cases_lt list count) [
    | inl within ↦ subst (λ ys. IsOnce ys) (sym (alone_is list within)) (record { once = λ x. elim (eqb_tells list x) [ inl same ↦ rw same.0 refl | inr other ↦ rw other.0 refl ] })
    | inr past ↦ subst (λ ys. IsOnce ys) (sym (none_past list past)) (record { once = λ x. refl })
  ]

  pub alone-count : item_count alone_lists ≡ count
  alone-count = by 0 count
    where
      by : (a n : ℕ) → item_count (map alone (range_with_len a n)) ≡ n
      by a zero = refl
      by a (suc n) =
          let sum = sum_by-cons length (a ∷ []) (map alone (range_with_len (a + 1) n)) in
          let rest = by (a + 1) n in
          omega (arith, sum, rest)

  pub alone-linked : IsLinked alone_arrays alone_lists
  alone-linked = record {
    linked = record {
      first = firsts_alone;
      placed = placed_alone;
      once = once_alone;
      first_length = length-map-range_with_len {X = Option ℕ} Some 0 count ∙ sym alone-length;
      previous_length = refl;
      list_of_length = length-range_with_len 0 count ∙ sym next_length;
    };
    found = λ item within.
        let here : item < count = omega (arith, within, next_length) in
        let kept : get_or (range_with_len 0 count) item 0 ≡ item = get_or-range_with_len 0 count item 0 here ∙ omega arith in
        ap (λ k. has item (items_of alone_lists k)) kept ∙ (ap (has item) (alone_is item here) ∙ rw (eq-eqb item item refl) refl);
    next_length = next_length ∙ sym alone-count;
  }
