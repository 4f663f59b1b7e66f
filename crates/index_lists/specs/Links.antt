use Rattle.std.specs.Prelude.{◌≡◌, ℕ, zero, suc, ◌+◌, ◌-◌, ◌<◌, List, [], ◌∷◌, Option, None, Some, ◌==◌, length, map, nat_lt, replicate, slice_get, slice_set, if◌then◌else◌, IsTrue}
use Rattle.std.specs.List.{range_with_len, slice_index_or}
use Rattle.index_lists.specs.Lists.{behind, has, IsOnce, item_count, items_of}

-- How the lists are kept, this project's own: by list its first item, and by item the ones behind and before it.

-- the link of an item, or of a list
abbrev pub link_of : List (Option ℕ) → ℕ → Option ℕ
link_of links place = slice_index_or links place None

-- the items from `at` on by the links, so many at most
abbrev pub walk : ℕ → List (Option ℕ) → Option ℕ → List ℕ
walk zero next at = []
walk (suc most) next None = []
walk (suc most) next (Some item) = item ∷ walk most next (link_of next item)

-- what is kept: by list its first item, and by item the ones behind and before it and the list that it is in
pub record Arrays : Type 0 where
  pub first : List (Option ℕ)
  pub next : List (Option ℕ)
  pub previous : List (Option ℕ)
  pub list_of : List ℕ

-- the lists that the arrays show
abbrev pub lists_by : Arrays → List (List ℕ)
lists_by arrays = map (walk (length arrays.next) arrays.next) arrays.first

-- the item that stands before this one, or `front` if it is the first
abbrev pub before : Option ℕ → ℕ → List ℕ → Option ℕ
before front item [] = None
before front item (x ∷ xs) = if x == item then front else before (Some x) item xs

-- what is kept of an item says where it stands in its list, which has these items
pub record IsPlaced (arrays : Arrays) (list : ℕ) (xs : List ℕ) (item : ℕ) : Type 0 where
  pub is_item : item < length arrays.next
  pub next : link_of arrays.next item ≡ slice_get (behind item xs) 0
  pub previous : link_of arrays.previous item ≡ before None item xs
  pub place : slice_index_or arrays.list_of item 0 ≡ list

-- what is kept says where the items of these lists stand, each once
pub record AreLinked (arrays : Arrays) (lists : List (List ℕ)) : Type 0 where
  pub first : (list : ℕ) → link_of arrays.first list ≡ slice_get (items_of lists list) 0
  pub placed : (list item : ℕ) → IsTrue (has item (items_of lists list)) → IsPlaced arrays list (items_of lists list) item
  pub once : (list : ℕ) → IsOnce (items_of lists list)
  pub first_length : length arrays.first ≡ length lists
  pub previous_length : length arrays.previous ≡ length arrays.next
  pub list_of_length : length arrays.list_of ≡ length arrays.next

-- and these lists have all the items, each in the list that is kept for it
pub record IsLinked (arrays : Arrays) (lists : List (List ℕ)) : Type 0 where
  pub linked : AreLinked arrays lists
  pub found : (item : ℕ) → item < length arrays.next → IsTrue (has item (items_of lists (slice_index_or arrays.list_of item 0)))
  pub next_length : length arrays.next ≡ item_count lists

-- the arrays fit the lists that they show
abbrev pub FitTogether : Arrays → Type 0
FitTogether arrays = IsLinked arrays (lists_by arrays)

-- the links with one of them changed, if there is such a place
abbrev pub with_link : Option ℕ → Option ℕ → List (Option ℕ) → List (Option ℕ)
with_link None link links = links
with_link (Some place) link links = slice_set links place link

-- by list its first item, where one with these others before and behind it was taken out of this list
abbrev pub first_without : Option ℕ → ℕ → Option ℕ → List (Option ℕ) → List (Option ℕ)
first_without None list next first = slice_set first list next
first_without (Some other) list next first = first

-- by list, the first item where all are in list 0
abbrev pub first_links : ℕ → ℕ → List (Option ℕ)
first_links lists zero = replicate lists None
first_links lists (suc items) = slice_set (replicate lists None) 0 (Some 0)

-- by item, the one behind it where so many stand in rising order
abbrev pub next_links : ℕ → List (Option ℕ)
next_links items = map (λ item. if nat_lt item (items - 1) then Some (item + 1) else None) (range_with_len 0 items)

-- by item, the one before it where so many stand in rising order
abbrev pub previous_links : ℕ → List (Option ℕ)
previous_links items = map (λ item. if nat_lt 0 item then Some (item - 1) else None) (range_with_len 0 items)
