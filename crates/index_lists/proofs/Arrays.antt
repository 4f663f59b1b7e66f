-- What is kept of the lists, and what it is after an item was taken out or put in front.
use Rattle.std.proofs.Common.{◌≡◌, ◌≢◌, ◌⊎◌, ◌<◌, ℕ, true, false, true≢false, List, [], ◌∷◌, length, Option, Some, None, ◌==◌, slice_get, slice_set, refl, sym, ap, ◌∙◌, subst, inl, inr, arith, length-set, get_or-set_same, get_or-set_other}
use Rattle.std.proofs.lemmas.Bool.{cases_eq, cases_lt, eq-eqb, eqb-true, false_from_ne_true, ne_eqb, or_cases}
use Rattle.std.proofs.lemmas.List.{get_or_past}
use Rattle.index_lists.specs.Lists.{behind, has, IsOnce, items_of, put_first, without}
use Rattle.index_lists.specs.Links.{AreLinked, Arrays, before, first_without, IsPlaced, link_of, with_link}
use Rattle.index_lists.proofs.Items.{before-more_first, before-more_other, before-without_next, before-without_other, behind-without_before, behind-without_other, first-without_first, first-without_other, has-before, has-behind, has-first, has-from_without, has-without, has-without_same, once-more, once-without}

-- an option is this number, or it isn't
option_is : (o : Option ℕ) (x : ℕ) → (o ≡ Some x) ⊎ (o ≢ Some x)
option_is None x = inr (λ e. cc)
option_is (Some y) x = elim (cases_eq y x) [ inl same ↦ inl (ap Some same) | inr other ↦ inr (λ e. other (cc)) ]

-- a changed link, and the others
pub with_link-same : (place link : Option ℕ) (links : List (Option ℕ)) (x : ℕ) → place ≡ Some x → x < length links → link_of (with_link place link links) x ≡ link
with_link-same None link links x e within = cc
with_link-same (Some y) link links x e within =
    let p : y ≡ x = cc in
    ap (λ k. link_of (slice_set links k link) x) p ∙ get_or-set_same links x link None within

pub with_link-other : (place link : Option ℕ) (links : List (Option ℕ)) (x : ℕ) → place ≢ Some x → link_of (with_link place link links) x ≡ link_of links x
with_link-other None link links x differ = refl
with_link-other (Some y) link links x differ = get_or-set_other links y x link None (λ e. differ (ap Some (sym e)))

pub length-with_link : (place link : Option ℕ) (links : List (Option ℕ)) → length (with_link place link links) ≡ length links
length-with_link None link links = refl
length-with_link (Some y) link links = length-set links y link

length-first_without : (before : Option ℕ) (list : ℕ) (next : Option ℕ) (first : List (Option ℕ)) → length (first_without before list next first) ≡ length first
length-first_without None list next first = length-set first list next
length-first_without (Some y) list next first = refl

-- a list that has an item is there
pub within-has : (lists : List (List ℕ)) (list item : ℕ) → has item (items_of lists list) ≡ true → list < length lists
within-has lists list item at = elim (cases_lt list (length lists)) [
  | inl within ↦ within
  | inr past ↦ absurd (true≢false (sym at ∙ ap (has item) (get_or_past lists list [] past)))
]

-- the items of a list that was changed, and of the others
pub items_of-set : (lists : List (List ℕ)) (list : ℕ) (xs : List ℕ) → list < length lists → items_of (slice_set lists list xs) list ≡ xs
items_of-set lists list xs within = get_or-set_same lists list xs [] within

pub items_of-set_other : (lists : List (List ℕ)) (list other : ℕ) (xs : List ℕ) → other ≢ list → items_of (slice_set lists list xs) other ≡ items_of lists other
items_of-set_other lists list other xs differ = get_or-set_other lists list other xs [] differ

-- the arrays after an item was taken out of this list
abbrev pub taken_arrays : Arrays → ℕ → ℕ → Arrays
taken_arrays arrays item from = record {
  first = first_without (link_of arrays.previous item) from (link_of arrays.next item) arrays.first;
  next = with_link (link_of arrays.previous item) (link_of arrays.next item) arrays.next;
  previous = with_link (link_of arrays.next item) (link_of arrays.previous item) arrays.previous;
  list_of = arrays.list_of;
}

-- the arrays after an item was put at the front of this list
abbrev pub put_arrays : Arrays → ℕ → ℕ → Arrays
put_arrays arrays item list = record {
  first = slice_set arrays.first list (Some item);
  next = slice_set arrays.next item (link_of arrays.first list);
  previous = slice_set (with_link (link_of arrays.first list) (Some item) arrays.previous) item None;
  list_of = slice_set arrays.list_of item list;
}

-- the lists with the item taken out of this one
abbrev pub left_by : List (List ℕ) → ℕ → ℕ → List (List ℕ)
left_by lists item from = slice_set lists from (without item (items_of lists from))

module _ (arrays : Arrays) (lists : List (List ℕ)) (linked : AreLinked arrays lists) where
  -- what alone has an item is its list
  pub apart : (list other item : ℕ) → has item (items_of lists list) ≡ true → has item (items_of lists other) ≡ true → other ≡ list
  apart list other item at there = sym (linked.placed other item there).place ∙ (linked.placed list item at).place

  module _ (item from : ℕ) (at : has item (items_of lists from) ≡ true) where
    abbrev after : Arrays
    after = taken_arrays arrays item from

    abbrev left : List (List ℕ)
    left = left_by lists item from

    here : IsPlaced arrays from (items_of lists from) item
    here = linked.placed from item at

    pub taken-length : length after.next ≡ length arrays.next
    taken-length = length-with_link (link_of arrays.previous item) (link_of arrays.next item) arrays.next

    -- the others of the item's list
    in_same : (x : ℕ) → has x (without item (items_of lists from)) ≡ true → IsPlaced after from (without item (items_of lists from)) x
    in_same x there =
        let xs : List ℕ = items_of lists from in
        let once : IsOnce xs = linked.once from in
        let old : IsPlaced arrays from xs x = linked.placed from x (has-from_without x item xs there) in
        let differ : x ≢ item = λ e. true≢false (sym there ∙ (ap (λ y. has y (without item xs)) e ∙ has-without_same item xs once)) in
        record {
          is_item = omega (arith, old.is_item, taken-length);
          next = elim (option_is (before None item xs) x) [
            | inl e ↦
                with_link-same (link_of arrays.previous item) (link_of arrays.next item) arrays.next x (here.previous ∙ e) old.is_item
                ∙ (here.next ∙ sym (behind-without_before None x item xs once e (λ n. cc)))
            | inr ne ↦
                with_link-other (link_of arrays.previous item) (link_of arrays.next item) arrays.next x (λ e. ne (sym here.previous ∙ e))
                ∙ (old.next ∙ sym (behind-without_other None x item xs ne differ))
          ];
          previous = elim (option_is (slice_get (behind item xs) 0) x) [
            | inl e ↦
                with_link-same (link_of arrays.next item) (link_of arrays.previous item) arrays.previous x (here.next ∙ e) (omega (arith, old.is_item, linked.previous_length))
                ∙ (here.previous ∙ sym (before-without_next None x item xs once e))
            | inr ne ↦
                with_link-other (link_of arrays.next item) (link_of arrays.previous item) arrays.previous x (λ e. ne (sym here.next ∙ e))
                ∙ (old.previous ∙ sym (before-without_other None x item xs ne differ))
          ];
          place = old.place;
        }

    -- the items of the other lists
    in_other : (list x : ℕ) → list ≢ from → has x (items_of lists list) ≡ true → IsPlaced after list (items_of lists list) x
    in_other list x differ there =
        let xs : List ℕ = items_of lists from in
        let old : IsPlaced arrays list (items_of lists list) x = linked.placed list x there in
        record {
          is_item = omega (arith, old.is_item, taken-length);
          next =
              with_link-other (link_of arrays.previous item) (link_of arrays.next item) arrays.next x
              (λ e. differ (apart from list x (has-before None x item xs (sym here.previous ∙ e) (λ n. cc)) there))
              ∙ old.next;
          previous =
              with_link-other (link_of arrays.next item) (link_of arrays.previous item) arrays.previous x
              (λ e. differ (apart from list x (has-behind x item xs (has-first x (behind item xs) (sym here.next ∙ e))) there))
              ∙ old.previous;
          place = old.place;
        }

    from_within : from < length lists
    from_within = within-has lists from item at

    from_is : items_of left from ≡ without item (items_of lists from)
    from_is = items_of-set lists from (without item (items_of lists from)) from_within

    other_is : (list : ℕ) → list ≢ from → items_of left list ≡ items_of lists list
    other_is list differ = items_of-set_other lists from list (without item (items_of lists from)) differ

    -- the first items
    firsts : (p : Option ℕ) → link_of arrays.previous item ≡ p → (list : ℕ) → (list ≡ from) ⊎ (list ≢ from)
        → link_of (first_without p from (link_of arrays.next item) arrays.first) list ≡ slice_get (items_of left list) 0
    firsts None e list (inl same) =
        let next : Option ℕ = link_of arrays.next item in
        let within : from < length arrays.first = omega (arith, from_within, linked.first_length) in
        subst (λ k. link_of (slice_set arrays.first from next) k ≡ slice_get (items_of left k) 0) (sym same) (
        get_or-set_same arrays.first from next None within
        ∙ (here.next ∙ (sym (first-without_first item (items_of lists from) at (sym here.previous ∙ e)) ∙ ap (λ ys. slice_get ys 0) (sym from_is)))
        )
    firsts None e list (inr other) =
        get_or-set_other arrays.first from list (link_of arrays.next item) None other ∙ (linked.first list ∙ ap (λ ys. slice_get ys 0) (sym (other_is list other)))
    firsts (Some p) e list (inl same) =
        subst (λ k. link_of arrays.first k ≡ slice_get (items_of left k) 0) (sym same) (
        linked.first from ∙ (sym (first-without_other item p (items_of lists from) (sym here.previous ∙ e)) ∙ ap (λ ys. slice_get ys 0) (sym from_is))
        )
    firsts (Some p) e list (inr other) = linked.first list ∙ ap (λ ys. slice_get ys 0) (sym (other_is list other))

    placed_now : (list x : ℕ) → (list ≡ from) ⊎ (list ≢ from) → has x (items_of left list) ≡ true → IsPlaced after list (items_of left list) x
    placed_now list x (inl same) there =
        let there_from : has x (items_of left from) ≡ true = ap (λ k. has x (items_of left k)) (sym same) ∙ there in
        subst (λ k. IsPlaced after k (items_of left k) x) (sym same) (
        subst (λ ys. IsPlaced after from ys x) (sym from_is) (in_same x (ap (has x) (sym from_is) ∙ there_from))
        )
    placed_now list x (inr other) there =
        subst (λ ys. IsPlaced after list ys x) (sym (other_is list other)) (in_other list x other (ap (has x) (sym (other_is list other)) ∙ there))

    once_now : (list : ℕ) → (list ≡ from) ⊎ (list ≢ from) → IsOnce (items_of left list)
    once_now list (inl same) =
        subst (λ k. IsOnce (items_of left k)) (sym same) (subst (λ ys. IsOnce ys) (sym from_is) (once-without item (items_of lists from) (linked.once from)))
    once_now list (inr other) = subst (λ ys. IsOnce ys) (sym (other_is list other)) (linked.once list)

    -- the arrays fit the lists without the item
    pub taken-linked : AreLinked after left
    taken-linked = record {
      first = λ list. firsts (link_of arrays.previous item) refl list (cases_eq list from);
      placed = λ list x. placed_now list x (cases_eq list from);
      once = λ list. once_now list (cases_eq list from);
      first_length =
          length-first_without (link_of arrays.previous item) from (link_of arrays.next item) arrays.first
          ∙ (linked.first_length ∙ sym (length-set lists from (without item (items_of lists from))));
      previous_length = length-with_link (link_of arrays.next item) (link_of arrays.previous item) arrays.previous ∙ (linked.previous_length ∙ sym taken-length);
      list_of_length = linked.list_of_length ∙ sym taken-length;
    }

    -- which none of them has
    pub taken-absent : (list : ℕ) → has item (items_of left list) ≡ false
    taken-absent list = elim (cases_eq list from) [
      | inl same ↦ ap (λ k. has item (items_of left k)) same ∙ (ap (has item) from_is ∙ has-without_same item (items_of lists from) (linked.once from))
      | inr other ↦ ap (has item) (other_is list other) ∙ false_from_ne_true (has item (items_of lists list)) (λ there. other (apart from list item at there))
    ]

    -- and which have the others as before
    pub taken-others : (list x : ℕ) → x ≢ item → has x (items_of left list) ≡ has x (items_of lists list)
    taken-others list x differ = elim (cases_eq list from) [
      | inl same ↦
          ap (λ k. has x (items_of left k)) same
          ∙ (ap (has x) from_is ∙ (has-without x item (items_of lists from) differ ∙ ap (λ k. has x (items_of lists k)) (sym same)))
      | inr other ↦ ap (has x) (other_is list other)
    ]

  module _ (item list : ℕ) (absent : (other : ℕ) → has item (items_of lists other) ≡ false) (item_within : item < length arrays.next) (list_within : list < length lists) where
    abbrev more : Arrays
    more = put_arrays arrays item list

    abbrev put : List (List ℕ)
    put = put_first item list lists

    length_before : length (with_link (link_of arrays.first list) (Some item) arrays.previous) ≡ length arrays.previous
    length_before = length-with_link (link_of arrays.first list) (Some item) arrays.previous

    pub put-length : length more.next ≡ length arrays.next
    put-length = length-set arrays.next item (link_of arrays.first list)

    in_front : IsPlaced more list (item ∷ items_of lists list) item
    in_front =
        let own : (item == item) ≡ true = eq-eqb item item refl in
        record {
          is_item = omega (arith, item_within, put-length);
          next = get_or-set_same arrays.next item (link_of arrays.first list) None item_within ∙ (linked.first list ∙ rw own refl);
          previous =
              get_or-set_same (with_link (link_of arrays.first list) (Some item) arrays.previous) item None None (omega (arith, item_within, length_before, linked.previous_length))
              ∙ rw own refl;
          place = get_or-set_same arrays.list_of item list 0 (omega (arith, item_within, linked.list_of_length));
        }

    differs : (other x : ℕ) → has x (items_of lists other) ≡ true → x ≢ item
    differs other x there e = true≢false (sym there ∙ (ap (λ y. has y (items_of lists other)) e ∙ absent other))

    behind_it : (x : ℕ) → has x (items_of lists list) ≡ true → IsPlaced more list (item ∷ items_of lists list) x
    behind_it x there =
        let front : Option ℕ = link_of arrays.first list in
        let ys : List ℕ = items_of lists list in
        let old : IsPlaced arrays list ys x = linked.placed list x there in
        let differ : x ≢ item = differs list x there in
        let not_x : (item == x) ≡ false = ne_eqb item x (λ e. differ (sym e)) in
        let last : link_of more.previous x ≡ link_of (with_link front (Some item) arrays.previous) x =
        get_or-set_other (with_link front (Some item) arrays.previous) item x None None differ in
        record {
          is_item = omega (arith, old.is_item, put-length);
          next = get_or-set_other arrays.next item x front None differ ∙ (old.next ∙ rw not_x refl);
          previous = last ∙ elim (option_is (slice_get ys 0) x) [
            | inl e ↦
                with_link-same front (Some item) arrays.previous x (linked.first list ∙ e) (omega (arith, old.is_item, linked.previous_length))
                ∙ rw not_x (sym (before-more_first x item ys e))
            | inr ne ↦
                with_link-other front (Some item) arrays.previous x (λ e. ne (sym (linked.first list) ∙ e))
                ∙ (old.previous ∙ rw not_x (sym (before-more_other x item ys ne)))
          ];
          place = get_or-set_other arrays.list_of item x list 0 differ ∙ old.place;
        }

    elsewhere : (other x : ℕ) → other ≢ list → has x (items_of lists other) ≡ true → IsPlaced more other (items_of lists other) x
    elsewhere other x differ there =
        let front : Option ℕ = link_of arrays.first list in
        let old : IsPlaced arrays other (items_of lists other) x = linked.placed other x there in
        let not_item : x ≢ item = differs other x there in
        let not_front : front ≢ Some x = λ e. differ (apart list other x (has-first x (items_of lists list) (sym (linked.first list) ∙ e)) there) in
        record {
          is_item = omega (arith, old.is_item, put-length);
          next = get_or-set_other arrays.next item x front None not_item ∙ old.next;
          previous =
              get_or-set_other (with_link front (Some item) arrays.previous) item x None None not_item
              ∙ (with_link-other front (Some item) arrays.previous x not_front ∙ old.previous);
          place = get_or-set_other arrays.list_of item x list 0 not_item ∙ old.place;
        }

    pub list_is : items_of put list ≡ item ∷ items_of lists list
    list_is = items_of-set lists list (item ∷ items_of lists list) list_within

    pub others_are : (other : ℕ) → other ≢ list → items_of put other ≡ items_of lists other
    others_are other differ = items_of-set_other lists list other (item ∷ items_of lists list) differ

    firsts_now : (other : ℕ) → (other ≡ list) ⊎ (other ≢ list) → link_of more.first other ≡ slice_get (items_of put other) 0
    firsts_now other (inl same) =
        subst (λ k. link_of more.first k ≡ slice_get (items_of put k) 0) (sym same) (
        get_or-set_same arrays.first list (Some item) None (omega (arith, list_within, linked.first_length)) ∙ ap (λ ys. slice_get ys 0) (sym list_is)
        )
    firsts_now other (inr differ) =
        get_or-set_other arrays.first list other (Some item) None differ ∙ (linked.first other ∙ ap (λ ys. slice_get ys 0) (sym (others_are other differ)))

    placed_here : (x : ℕ) → has x (item ∷ items_of lists list) ≡ true → IsPlaced more list (item ∷ items_of lists list) x
    placed_here x there = elim (or_cases (item == x) (has x (items_of lists list)) there) [
      | inl is_it ↦ subst (λ y. IsPlaced more list (item ∷ items_of lists list) y) (eqb-true item x is_it) in_front
      | inr rest ↦ behind_it x rest
    ]

    placed_put : (other x : ℕ) → (other ≡ list) ⊎ (other ≢ list) → has x (items_of put other) ≡ true → IsPlaced more other (items_of put other) x
    placed_put other x (inl same) there =
        let there_list : has x (items_of put list) ≡ true = ap (λ k. has x (items_of put k)) (sym same) ∙ there in
        subst (λ k. IsPlaced more k (items_of put k) x) (sym same) (
        subst (λ ys. IsPlaced more list ys x) (sym list_is) (placed_here x (ap (has x) (sym list_is) ∙ there_list))
        )
    placed_put other x (inr differ) there =
        subst (λ ys. IsPlaced more other ys x) (sym (others_are other differ)) (elsewhere other x differ (ap (has x) (sym (others_are other differ)) ∙ there))

    once_put : (other : ℕ) → (other ≡ list) ⊎ (other ≢ list) → IsOnce (items_of put other)
    once_put other (inl same) =
        subst (λ k. IsOnce (items_of put k)) (sym same) (subst (λ ys. IsOnce ys) (sym list_is) (once-more item (items_of lists list) (absent list) (linked.once list)))
    once_put other (inr differ) = subst (λ ys. IsOnce ys) (sym (others_are other differ)) (linked.once other)

    -- the arrays fit the lists with the item in front of one
    pub put-linked : AreLinked more put
    put-linked = record {
      first = λ other. firsts_now other (cases_eq other list);
      placed = λ other x. placed_put other x (cases_eq other list);
      once = λ other. once_put other (cases_eq other list);
      first_length = length-set arrays.first list (Some item) ∙ (linked.first_length ∙ sym (length-set lists list (item ∷ items_of lists list)));
      previous_length = length-set (with_link (link_of arrays.first list) (Some item) arrays.previous) item None ∙ (length_before ∙ (linked.previous_length ∙ sym put-length));
      list_of_length = length-set arrays.list_of item list ∙ (linked.list_of_length ∙ sym put-length);
    }
