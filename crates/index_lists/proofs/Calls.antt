-- What the calls answer, from what is kept.
use Rattle.std.proofs.Common.{◌≡◌, ◌≢◌, ◌<◌, ℕ, true, List, ◌∷◌, length, replicate, map, sum_by, Option, Some, None, get_or, slice_get, slice_set, refl, sym, ap, ◌∙◌, subst, arith, length-set}
use Rattle.std.specs.List.{range_with_len}
use Rattle.std.specs.Option.{IfSome}
use Rattle.std.proofs.lemmas.List.{get_or_read}
use Rattle.index_lists.specs.Lists.{all_in_first, AreDisjoint, each_alone, has, item_count, items_behind, items_from, items_of, list_of, moved_to, without}
use Rattle.index_lists.specs.Links.{AreLinked, Arrays, first_links, first_without, IsLinked, IsPlaced, link_of, lists_by, next_links, previous_links, with_link}
use Rattle.index_lists.proofs.Arrays.{taken-linked, taken_arrays}
use Rattle.index_lists.proofs.Items.{has-before, has-behind, has-first}
use Rattle.index_lists.proofs.Moves.{disjoint, kept-within, list_of-kept, moved-count, moved-linked, moved-others, moved-place, moved_arrays, shown}
use Rattle.index_lists.proofs.Starts.{alone-count, alone-length, alone-linked, alone_arrays, first-count, first-length, first-linked, first_arrays}
use Rattle.index_lists.proofs.Walks.{first-place, first-within, next-place, next-within, walk-first, walk-next}

-- arrays that fit some lists fit those that they show
pub fits : (arrays : Arrays) (lists : List (List ℕ)) → IsLinked arrays lists → IsLinked arrays (lists_by arrays)
fits arrays lists whole = subst (λ ls. IsLinked arrays ls) (sym (shown arrays lists whole)) whole

-- the answers of `list_of`, `first` and `next`
pub record IsListOf (lists : List (List ℕ)) (item answer : ℕ) : Type 0 where
  pub value : answer ≡ list_of lists item
  pub within : answer < length lists
  pub disjoint : AreDisjoint lists

pub record IsFirst (lists : List (List ℕ)) (list : ℕ) (answer : Option ℕ) : Type 0 where
  pub value : answer ≡ slice_get (items_of lists list) 0
  pub walk : items_from lists answer ≡ items_of lists list
  pub place : IfSome answer (λ item. list_of lists item ≡ list)
  pub within : IfSome answer (λ item. item < item_count lists)

pub record IsNext (lists : List (List ℕ)) (item : ℕ) (answer : Option ℕ) : Type 0 where
  pub value : answer ≡ slice_get (items_behind lists item) 0
  pub walk : items_from lists answer ≡ items_behind lists item
  pub place : IfSome answer (λ other. list_of lists other ≡ list_of lists item)
  pub within : IfSome answer (λ other. other < item_count lists)

module _ (arrays : Arrays) (lists : List (List ℕ)) (fit : IsLinked arrays (lists_by arrays)) (view : lists_by arrays ≡ lists) where
  pub whole : IsLinked arrays lists
  whole = subst (λ ls. IsLinked arrays ls) view fit

  kept : (item : ℕ) → item < item_count lists → item < length arrays.next
  kept item within = omega (arith, within, whole.next_length)

  pub answers_list_of : (item answer : ℕ) → item < item_count lists → answer ≡ get_or arrays.list_of item answer → IsListOf lists item answer
  answers_list_of item answer within read =
      let in_next = kept item within in
      let is_kept : answer ≡ get_or arrays.list_of item 0 = get_or_read arrays.list_of item answer (omega (arith, in_next, whole.linked.list_of_length)) read 0 in
      record {
        value = is_kept ∙ sym (list_of-kept arrays lists whole item in_next);
        within = subst (λ k. k < length lists) (sym is_kept) (kept-within arrays lists whole item in_next);
        disjoint = disjoint arrays lists whole;
      }

  pub answers_first : (list : ℕ) (answer : Option ℕ) → list < length lists → answer ≡ get_or arrays.first list answer → IsFirst lists list answer
  answers_first list answer within read =
      let is_first : answer ≡ slice_get (items_of lists list) 0 =
      get_or_read arrays.first list answer (omega (arith, within, whole.linked.first_length)) read None ∙ whole.linked.first list in
      let once = disjoint arrays lists whole in
      record {
        value = is_first;
        walk = ap (items_from lists) is_first ∙ walk-first lists once list;
        place = subst (λ o. IfSome o (λ item. list_of lists item ≡ list)) (sym is_first) (first-place lists once list);
        within = subst (λ o. IfSome o (λ item. item < item_count lists)) (sym is_first) (first-within lists once list);
      }

  -- what is kept of an item, in its list
  own : (item : ℕ) → item < item_count lists → IsPlaced arrays (list_of lists item) (items_of lists (list_of lists item)) item
  own item within = whole.linked.placed (list_of lists item) item ((disjoint arrays lists whole).found item within)

  pub answers_next : (item : ℕ) (answer : Option ℕ) → item < item_count lists → answer ≡ get_or arrays.next item answer → IsNext lists item answer
  answers_next item answer within read =
      let is_next : answer ≡ slice_get (items_behind lists item) 0 =
      get_or_read arrays.next item answer (kept item within) read None ∙ (own item within).next in
      let once = disjoint arrays lists whole in
      record {
        value = is_next;
        walk = ap (items_from lists) is_next ∙ walk-next lists once item;
        place = subst (λ o. IfSome o (λ other. list_of lists other ≡ list_of lists item)) (sym is_next) (next-place lists once item);
        within = subst (λ o. IfSome o (λ other. other < item_count lists)) (sym is_next) (next-within lists once item);
      }

  -- the links of an item lead to items
  pub next_within : (item n : ℕ) → item < item_count lists → n ≡ length arrays.next → IfSome (link_of arrays.next item) (λ next. next < n)
  next_within item n within e = by (link_of arrays.next item) refl
    where
      by : (o : Option ℕ) → link_of arrays.next item ≡ o → IfSome o (λ next. next < n)
      by None at = tt
      by (Some next) at =
          let list : ℕ = list_of lists item in
          let there = has-behind next item (items_of lists list) (has-first next (items_behind lists item) (sym (own item within).next ∙ at)) in
          omega (arith, e, (whole.linked.placed list next there).is_item)

  pub previous_within : (item n : ℕ) → item < item_count lists → n ≡ length arrays.next → IfSome (link_of arrays.previous item) (λ previous. previous < n)
  previous_within item n within e = by (link_of arrays.previous item) refl
    where
      by : (o : Option ℕ) → link_of arrays.previous item ≡ o → IfSome o (λ previous. previous < n)
      by None at = tt
      by (Some previous) at =
          let list : ℕ = list_of lists item in
          let there = has-before None previous item (items_of lists list) (sym (own item within).previous ∙ at) (λ no_item. cc) in
          omega (arith, e, (whole.linked.placed list previous there).is_item)

  module _ (item from : ℕ) (within : item < item_count lists) (read : from ≡ get_or arrays.list_of item from) where
    is_from : from ≡ get_or arrays.list_of item 0
    is_from = get_or_read arrays.list_of item from (let in_next = kept item within in omega (arith, in_next, whole.linked.list_of_length)) read 0

    pub list_within : (n : ℕ) → n ≡ length arrays.first → from < n
    list_within n e =
        let there = (answers_list_of item from within read).within in
        omega (arith, e, there, whole.linked.first_length)

    module _ (first next : List (Option ℕ)) (first_is : first ≡ first_without (link_of arrays.previous item) from (link_of arrays.next item) arrays.first)
        (next_is : next ≡ with_link (link_of arrays.previous item) (link_of arrays.next item) arrays.next) where
      -- the first item of a list, after the item was taken out of its own
      pub front_within : (list n : ℕ) → n ≡ length next → IfSome (link_of first list) (λ front. front < n)
      front_within list n e = by (link_of first list) refl
        where
          at : has item (items_of lists from) ≡ true
          at = subst (λ k. has item (items_of lists k) ≡ true) (sym is_from) (whole.found item (kept item within))

          left : AreLinked (taken_arrays arrays item from) (slice_set lists from (without item (items_of lists from)))
          left = taken-linked arrays lists whole.linked item from at

          by : (o : Option ℕ) → link_of first list ≡ o → IfSome o (λ front. front < n)
          by None is = tt
          by (Some front) is =
              let xs : List ℕ = items_of (slice_set lists from (without item (items_of lists from))) list in
              let there : has front xs ≡ true = has-first front xs (sym (left.first list) ∙ (ap (λ links. link_of links list) (sym first_is) ∙ is)) in
              let bound = (left.placed list front there).is_item in
              omega (arith, e, ap length next_is, bound)

same_arrays : (a b : Arrays) → a.first ≡ b.first → a.next ≡ b.next → a.previous ≡ b.previous → a.list_of ≡ b.list_of → a ≡ b
same_arrays a b p q r s = λ i. record { first = p i; next = q i; previous = r i; list_of = s i }

-- what a start leaves
pub record IsStarted (after : Arrays) (lists : List (List ℕ)) (list_count item_count : ℕ) : Type 0 where
  pub fit : IsLinked after (lists_by after)
  pub seen : lists_by after ≡ lists
  pub lists_seen : length (lists_by after) ≡ list_count
  pub items_seen : sum_by length (lists_by after) ≡ item_count

started : (after arrays : Arrays) (lists : List (List ℕ)) (n m : ℕ) → after ≡ arrays → IsLinked arrays lists → length lists ≡ n → item_count lists ≡ m → IsStarted after lists n m
started after arrays lists n m e whole lists_are items_are =
    let now : IsLinked after lists = subst (λ a. IsLinked a lists) (sym e) whole in
    let seen : lists_by after ≡ lists = shown after lists now in
    record { fit = fits after lists now; seen = seen; lists_seen = ap length seen ∙ lists_are; items_seen = ap item_count seen ∙ items_are }

pub first_start : (lists items : ℕ) → (0 < items → 0 < lists) → (first next previous : List (Option ℕ)) (list_of : List ℕ)
    → first ≡ first_links lists items → next ≡ next_links items → previous ≡ previous_links items → list_of ≡ replicate items 0
    → IsStarted (record { first = first; next = next; previous = previous; list_of = list_of }) (all_in_first lists items) lists items
first_start lists items some first next previous list_of p q r s =
    let after : Arrays = record { first = first; next = next; previous = previous; list_of = list_of } in
    started after (first_arrays lists items some) (all_in_first lists items) lists items (same_arrays after (first_arrays lists items some) p q r s)
    (first-linked lists items some) (first-length lists items some) (first-count lists items some)

pub alone_start : (count : ℕ) (first next previous : List (Option ℕ)) (list_of : List ℕ)
    → first ≡ map Some (range_with_len 0 count) → next ≡ replicate count None → previous ≡ replicate count None → list_of ≡ range_with_len 0 count
    → IsStarted (record { first = first; next = next; previous = previous; list_of = list_of }) (each_alone count) count count
alone_start count first next previous list_of p q r s =
    let after : Arrays = record { first = first; next = next; previous = previous; list_of = list_of } in
    started after (alone_arrays count) (each_alone count) count count (same_arrays after (alone_arrays count) p q r s)
    (alone-linked count) (alone-length count) (alone-count count)

-- what a move leaves
pub record IsMoved (after : Arrays) (old : List (List ℕ)) (item list : ℕ) : Type 0 where
  pub fit : IsLinked after (lists_by after)
  pub lists : lists_by after ≡ moved_to item list old
  pub list_count : length (lists_by after) ≡ length old
  pub items : item_count (lists_by after) ≡ item_count old
  pub place : list_of (lists_by after) item ≡ list
  pub others : (other : ℕ) → other < item_count old → other ≢ item → list_of (lists_by after) other ≡ list_of old other

moved_well : (arrays after : Arrays) (lists : List (List ℕ)) → IsLinked arrays lists → (item list : ℕ) → item < item_count lists → list < length lists
    → after ≡ moved_arrays arrays item list → IsMoved after lists item list
moved_well arrays after lists all item list item_within list_within e =
    let in_next : item < length arrays.next = omega (arith, item_within, all.next_length) in
    let linked : IsLinked (moved_arrays arrays item list) (moved_to item list lists) = moved-linked arrays lists all item list in_next list_within in
    let now : IsLinked after (moved_to item list lists) = subst (λ a. IsLinked a (moved_to item list lists)) (sym e) linked in
    let seen : lists_by after ≡ moved_to item list lists = shown after (moved_to item list lists) now in
    record {
      fit = fits after (moved_to item list lists) now;
      lists = seen;
      list_count = ap length seen ∙ count;
      items = ap item_count seen ∙ moved-count arrays lists all item list in_next list_within;
      place = ap (λ ls. list_of ls item) seen ∙ moved-place arrays lists all item list in_next list_within;
      others = λ other within differ.
          ap (λ ls. list_of ls other) seen ∙ moved-others arrays lists all item list in_next list_within other (omega (arith, within, all.next_length)) differ;
    }
  where
    count : length (moved_to item list lists) ≡ length lists
    count =
        let k : ℕ = list_of lists item in
        let left : List (List ℕ) = slice_set lists k (without item (items_of lists k)) in
        length-set left list (item ∷ items_of left list) ∙ length-set lists k (without item (items_of lists k))

-- from the arrays over those without the item to those with it in front again
pub moves : (arrays : Arrays) (lists : List (List ℕ)) → IsLinked arrays (lists_by arrays) → lists_by arrays ≡ lists → (item list : ℕ)
    → item < item_count lists → list < length lists
    → (from : ℕ) (first next previous first_now next_now previous_now : List (Option ℕ)) → from ≡ get_or arrays.list_of item from
    → first ≡ first_without (link_of arrays.previous item) from (link_of arrays.next item) arrays.first
    → next ≡ with_link (link_of arrays.previous item) (link_of arrays.next item) arrays.next
    → previous ≡ with_link (link_of arrays.next item) (link_of arrays.previous item) arrays.previous
    → first_now ≡ slice_set first list (Some item)
    → next_now ≡ slice_set next item (link_of first list)
    → previous_now ≡ slice_set (with_link (link_of first list) (Some item) previous) item None
    → IsMoved (record { first = first_now; next = next_now; previous = previous_now; list_of = slice_set arrays.list_of item list }) lists item list
moves arrays lists fit view item list item_within list_within from first next previous first_now next_now previous_now read p q r x y z =
    let all = whole arrays lists fit view in
    let in_list_of : item < length arrays.list_of = omega (arith, item_within, all.next_length, all.linked.list_of_length) in
    let is_from = get_or_read arrays.list_of item from in_list_of read 0 in
    let by : first ≡ first_without (link_of arrays.previous item) (get_or arrays.list_of item 0) (link_of arrays.next item) arrays.first =
    p ∙ ap (λ k. first_without (link_of arrays.previous item) k (link_of arrays.next item) arrays.first) is_from in
    let after : Arrays = record { first = first_now; next = next_now; previous = previous_now; list_of = slice_set arrays.list_of item list } in
    let steps : after ≡ moved_arrays arrays item list =
    same_arrays after (moved_arrays arrays item list) (x ∙ ap (λ links. slice_set links list (Some item)) by) (y ∙ λ i. slice_set (q i) item (link_of (by i) list))
    (z ∙ λ i. slice_set (with_link (link_of (by i) list) (Some item) (r i)) item None) refl in
    moved_well arrays after lists all item list item_within list_within steps
