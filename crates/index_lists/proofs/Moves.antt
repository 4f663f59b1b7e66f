-- The lists that the arrays show, and those after an item was moved.
use Rattle.std.proofs.Common.{◌≡◌, ◌≢◌, ◌⊎◌, ◌<◌, ◌≤◌, ℕ, zero, suc, true, false, true≢false, List, [], ◌∷◌, length, Option, None, get_or, ◌==◌, slice_get, slice_set, refl, sym, ap, ◌∙◌, subst, inl, inr, arith, length-set, get_or-set_same, get_or-set_other}
use Rattle.std.proofs.lemmas.Bool.{cases_eq, eq-eqb, ne_eqb, or_right}
use Rattle.std.proofs.lemmas.List.{get_or-map, length-map, get_or_default, same_lists}
use Rattle.std.proofs.lemmas.List.Sums.{get_or-le-sum_by, sum_by-set}
use Rattle.index_lists.specs.Lists.{AreDisjoint, behind, has, IsOnce, item_count, items_of, list_of, moved_to, put_first, without}
use Rattle.index_lists.specs.Links.{AreLinked, Arrays, IsLinked, link_of, lists_by, walk}
use Rattle.index_lists.proofs.Arrays.{apart, list_is, others_are, left_by, put-length, put-linked, put_arrays, taken-absent, taken-length, taken-linked, taken-others, taken_arrays, within-has}
use Rattle.index_lists.proofs.Items.{length-without, once-first, once-rest}
use Rattle.index_lists.proofs.Walks.{list_of-alone}

-- the links of a list lead through all its items
walk_all : (most : ℕ) (next : List (Option ℕ)) (xs : List ℕ) (at : Option ℕ) → at ≡ slice_get xs 0 → length xs ≤ most → IsOnce xs
    → ((x : ℕ) → has x xs ≡ true → link_of next x ≡ slice_get (behind x xs) 0) → walk most next at ≡ xs
walk_all zero next [] at e le once linked = refl
walk_all zero next (x ∷ xs) at e le once linked = absurd (omega arith)
walk_all (suc most) next [] at e le once linked = ap (walk (suc most) next) e
walk_all (suc most) next (x ∷ xs) at e le once linked =
    let own = eq-eqb x x refl in
    let rest = walk_all most next xs (link_of next x) (linked x (rw own refl) ∙ rw own refl) (omega arith) (once-rest x xs once) later in
    ap (walk (suc most) next) e ∙ ap (λ ys. x ∷ ys) rest
  where
    later : (y : ℕ) → has y xs ≡ true → link_of next y ≡ slice_get (behind y xs) 0
    later y there =
        let differ : x ≢ y = λ s. true≢false (sym there ∙ (ap (λ z. has z xs) (sym s) ∙ once-first x xs once)) in
        linked y (or_right (x == y) (has y xs) there) ∙ rw (ne_eqb x y differ) refl

-- what is kept after an item was moved
abbrev pub moved_arrays : Arrays → ℕ → ℕ → Arrays
moved_arrays arrays item list = put_arrays (taken_arrays arrays item (get_or arrays.list_of item 0)) item list

module _ (arrays : Arrays) (lists : List (List ℕ)) (whole : IsLinked arrays lists) where
  -- the list of an item is the one that is kept
  pub list_of-kept : (item : ℕ) → item < length arrays.next → list_of lists item ≡ get_or arrays.list_of item 0
  list_of-kept item within =
      list_of-alone lists item (get_or arrays.list_of item 0) (whole.found item within)
      (λ other there. apart arrays lists whole.linked (get_or arrays.list_of item 0) other item (whole.found item within) there)

  pub kept-within : (item : ℕ) → item < length arrays.next → get_or arrays.list_of item 0 < length lists
  kept-within item within = within-has lists (get_or arrays.list_of item 0) item (whole.found item within)

  pub disjoint : AreDisjoint lists
  disjoint = record {
    found = λ item within.
        let kept : item < length arrays.next = omega (arith, within, whole.next_length) in
        subst (λ k. has item (items_of lists k) ≡ true) (sym (list_of-kept item kept)) (whole.found item kept);
    items = λ list item there. omega (arith, (whole.linked.placed list item there).is_item, whole.next_length);
    alone = λ list item there.
        let placed = whole.linked.placed list item there in
        list_of-kept item placed.is_item ∙ placed.place;
    once = whole.linked.once;
  }

  -- the arrays show the lists
  pub shown : lists_by arrays ≡ lists
  shown = same_lists (lists_by arrays) lists lengths at
    where
      lengths : length (lists_by arrays) ≡ length lists
      lengths = length-map arrays.first (walk (length arrays.next) arrays.next) ∙ whole.linked.first_length

      at : (k : ℕ) (d : List ℕ) → k < length (lists_by arrays) → get_or (lists_by arrays) k d ≡ get_or lists k d
      at k d within =
          let in_lists : k < length lists = omega (arith, within, lengths) in
          let in_first : k < length arrays.first = omega (arith, in_lists, whole.linked.first_length) in
          let few : length (items_of lists k) ≤ item_count lists = get_or-le-sum_by length lists k [] in_lists in
          get_or-map (walk (length arrays.next) arrays.next) arrays.first k None d in_first
          ∙ (
          walk_all (length arrays.next) arrays.next (items_of lists k) (link_of arrays.first k) (whole.linked.first k) (omega (arith, few, whole.next_length)) (whole.linked.once k)
          (λ x there. (whole.linked.placed k x there).next)
          ∙ get_or_default lists k [] d in_lists
          )

  module _ (item list : ℕ) (item_within : item < length arrays.next) (list_within : list < length lists) where
    abbrev from : ℕ
    from = get_or arrays.list_of item 0

    at_from : has item (items_of lists from) ≡ true
    at_from = whole.found item item_within

    abbrev between : Arrays
    between = taken_arrays arrays item from

    abbrev left : List (List ℕ)
    left = left_by lists item from

    between-linked : AreLinked between left
    between-linked = taken-linked arrays lists whole.linked item from at_from

    absent : (other : ℕ) → has item (items_of left other) ≡ false
    absent = taken-absent arrays lists whole.linked item from at_from

    between_within : item < length between.next
    between_within = omega (arith, item_within, taken-length arrays lists whole.linked item from at_from)

    left_within : list < length left
    left_within = omega (arith, list_within, length-set lists from (without item (items_of lists from)))

    abbrev after : Arrays
    after = moved_arrays arrays item list

    abbrev moved : List (List ℕ)
    moved = put_first item list left

    is_moved : moved_to item list lists ≡ moved
    is_moved = ap (λ k. put_first item list (slice_set lists k (without item (items_of lists k)))) (list_of-kept item item_within)

    moved-length : length after.next ≡ length arrays.next
    moved-length = put-length between left between-linked item list absent between_within left_within ∙ taken-length arrays lists whole.linked item from at_from

    counted : item_count moved ≡ item_count lists
    counted =
        let out = sum_by-set length lists from (without item (items_of lists from)) [] (within-has lists from item at_from) in
        let fewer = length-without item (items_of lists from) at_from in
        let back = sum_by-set length left list (item ∷ items_of left list) [] left_within in
        omega (arith, out, fewer, back)

    found : (x : ℕ) → x < length after.next → has x (items_of moved (get_or after.list_of x 0)) ≡ true
    found x within = elim (cases_eq x item) [
      | inl same ↦
          subst (λ y. has y (items_of moved (get_or after.list_of y 0)) ≡ true) (sym same) (
          ap (λ k. has item (items_of moved k)) (get_or-set_same arrays.list_of item list 0 (omega (arith, item_within, whole.linked.list_of_length)))
          ∙ (ap (has item) (list_is between left between-linked item list absent between_within left_within) ∙ rw (eq-eqb item item refl) refl)
          )
      | inr differ ↦
          let k : ℕ = get_or arrays.list_of x 0 in
          let there : has x (items_of left k) ≡ true =
          taken-others arrays lists whole.linked item from at_from k x differ ∙ whole.found x (omega (arith, within, moved-length)) in
          ap (λ j. has x (items_of moved j)) (get_or-set_other arrays.list_of item x list 0 differ) ∙ still k x (cases_eq k list) there
    ]
      where
        still : (k x : ℕ) → (k ≡ list) ⊎ (k ≢ list) → has x (items_of left k) ≡ true → has x (items_of moved k) ≡ true
        still k x (inl same) there =
            ap (λ j. has x (items_of moved j)) same
            ∙ (
            ap (has x) (list_is between left between-linked item list absent between_within left_within)
            ∙ or_right (item == x) (has x (items_of left list)) (ap (λ j. has x (items_of left j)) (sym same) ∙ there)
            )
        still k x (inr differ) there = ap (has x) (others_are between left between-linked item list absent between_within left_within k differ) ∙ there

    moved_whole : IsLinked after moved
    moved_whole = record {
      linked = put-linked between left between-linked item list absent between_within left_within;
      found = found;
      next_length = moved-length ∙ (whole.next_length ∙ sym counted);
    }

    pub moved-linked : IsLinked after (moved_to item list lists)
    moved-linked = subst (λ ls. IsLinked after ls) (sym is_moved) moved_whole

    pub moved-count : item_count (moved_to item list lists) ≡ item_count lists
    moved-count = ap item_count is_moved ∙ counted

    kept_now : (x : ℕ) → x < length arrays.next → list_of (moved_to item list lists) x ≡ get_or after.list_of x 0
    kept_now x within = ap (λ ls. list_of ls x) is_moved ∙ list_of-alone moved x (get_or after.list_of x 0) there only
      where
        there : has x (items_of moved (get_or after.list_of x 0)) ≡ true
        there = found x (omega (arith, within, moved-length))

        only : (other : ℕ) → has x (items_of moved other) ≡ true → other ≡ get_or after.list_of x 0
        only other also = apart after moved moved_whole.linked (get_or after.list_of x 0) other x there also

    -- the item is in its new list, and the others where they were
    pub moved-place : list_of (moved_to item list lists) item ≡ list
    moved-place = kept_now item item_within ∙ get_or-set_same arrays.list_of item list 0 (omega (arith, item_within, whole.linked.list_of_length))

    pub moved-others : (x : ℕ) → x < length arrays.next → x ≢ item → list_of (moved_to item list lists) x ≡ list_of lists x
    moved-others x within differ =
        kept_now x within ∙ (get_or-set_other arrays.list_of item x list 0 differ ∙ sym (list_of-kept x within))
