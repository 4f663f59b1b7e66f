use Rattle.std.proofs.Common.{◌≡◌, ◌≢◌, ℕ, ◌+◌, ◌<◌, List, None, Some, [], ◌∷◌, ◌++◌, length, get_or, take, drop, reverse, cond, refl, sym, ap, ◌∙◌}
use Rattle.std.specs.Prelude.{slice_get}
use Rattle.std.proofs.lemmas.Bool.{eq-eqb}
use Rattle.std.proofs.lemmas.List.{drop_more, get_or-set_same, get_or-set_other, length-set, reverse-append, take_more}
use Rattle.index_lists.specs.Lists.{items_of, list_of, moved_to, taken_out, without}

without-first : (item : ℕ) (items : List ℕ) → without item (item ∷ items) ≡ items
without-first item items = ap (λ test. cond test items (item ∷ without item items)) (eq-eqb item item refl)

-- the first item of a list at the front of another
pub items_of-moved_from : (lists : List (List ℕ)) (item : ℕ) (rest : List ℕ) (from to : ℕ) → from < length lists → from ≢ to → list_of lists item ≡ from → items_of lists from ≡ item ∷ rest → items_of (moved_to item to lists) from ≡ rest
items_of-moved_from lists item rest from to within apart place first =
    get_or-set_other (taken_out item lists) to from (item ∷ items_of (taken_out item lists) to) [] apart ∙ (rw place (get_or-set_same lists from (without item (items_of lists from)) [] within) ∙ (ap (without item) first ∙ without-first item rest))

pub items_of-moved_other : (lists : List (List ℕ)) (item from to other : ℕ) → other ≢ from → other ≢ to → list_of lists item ≡ from → items_of (moved_to item to lists) other ≡ items_of lists other
items_of-moved_other lists item from to other apart_from apart_to place =
    get_or-set_other (taken_out item lists) to other (item ∷ items_of (taken_out item lists) to) [] apart_to ∙ rw place (get_or-set_other lists from other (without item (items_of lists from)) [] apart_from)

pub items_of-moved_to : (lists : List (List ℕ)) (item from to : ℕ) → to < length lists → from ≢ to → list_of lists item ≡ from → items_of (moved_to item to lists) to ≡ item ∷ items_of lists to
items_of-moved_to lists item from to within apart place =
    get_or-set_same (taken_out item lists) to (item ∷ items_of (taken_out item lists) to) [] (rw length-set within) ∙ ap (λ items. item ∷ items) (rw place (get_or-set_other lists from to (without item (items_of lists from)) [] (λ same. apart (sym same))))

-- the lists after one item, the first of one list, was put at the front of another
pub record Step (old new : List (List ℕ)) (item from to : ℕ) (rest : List ℕ) : Type 0 where
  pub source : items_of new from ≡ rest
  pub target : items_of new to ≡ item ∷ items_of old to
  pub others : (list : ℕ) → list ≢ from → list ≢ to → items_of new list ≡ items_of old list

pub Step-moved : (old new : List (List ℕ)) (item from to : ℕ) (rest : List ℕ) → from < length old → to < length old → from ≢ to → list_of old item ≡ from → items_of old from ≡ item ∷ rest → new ≡ moved_to item to old → Step old new item from to rest
Step-moved old new item from to rest from_in to_in apart place first is = record {
  source = rw is (items_of-moved_from old item rest from to from_in apart place first);
  target = rw is (items_of-moved_to old item from to to_in apart place);
  others = λ list not_from not_to. rw is (items_of-moved_other old item from to list not_from not_to place);
}

first_of_rest : (xs : List ℕ) (item : ℕ) → slice_get xs 0 ≡ Some item → xs ≡ item ∷ drop 1 xs
first_of_rest [] item first = cc
first_of_rest (x ∷ xs) item first = let same : x ≡ item = cc in ap (λ y. y ∷ xs) same

-- one more item moved
pub record Moved (count from to : ℕ) (old new : List (List ℕ)) : Type 0 where
  pub source : items_of new from ≡ drop count (items_of old from)
  pub target : items_of new to ≡ reverse (take count (items_of old from)) ++ items_of old to
  pub others : (list : ℕ) → list ≢ from → list ≢ to → items_of new list ≡ items_of old list

pub Moved-more : (old before after : List (List ℕ)) (count item from to : ℕ) → Moved count from to old before → count < length (items_of old from) → from < length before → to < length before → from ≢ to → list_of before item ≡ from → slice_get (items_of before from) 0 ≡ Some item → after ≡ moved_to item to before → Moved (count + 1) from to old after
Moved-more old before after count item from to moved more from_in to_in apart place first is =
    let items = items_of old from in
    let ahead : drop count items ≡ item ∷ drop 1 (drop count items) = first_of_rest (drop count items) item (ap (λ xs. slice_get xs 0) (sym moved.source) ∙ first) in
    let at : drop count items ≡ get_or items count item ∷ drop (count + 1) items = drop_more items count item more in
    let same : get_or items count item ≡ item = cc in
    let rest : drop 1 (drop count items) ≡ drop (count + 1) items = cc in
    let step = Step-moved before after item from to (drop (count + 1) items) from_in to_in apart place (moved.source ∙ (ahead ∙ ap (λ xs. item ∷ xs) rest)) is in
    record {
      source = step.source;
      target = step.target ∙ (ap (λ xs. item ∷ xs) moved.target ∙ rw (take_more items count item more, same, reverse-append) refl);
      others = λ list not_from not_to. step.others list not_from not_to ∙ moved.others list not_from not_to;
    }

-- a list of which fewer items than it has were moved has a first
pub first_ahead : (items rest : List ℕ) (count : ℕ) → count < length items → rest ≡ drop count items → slice_get rest 0 ≡ None → ⊥
first_ahead items rest count more is none =
    let at : rest ≡ get_or items count 0 ∷ drop (count + 1) items = is ∙ drop_more items count 0 more in
    let some : slice_get rest 0 ≡ Some (get_or items count 0) = ap (λ xs. slice_get xs 0) at in
    cc
