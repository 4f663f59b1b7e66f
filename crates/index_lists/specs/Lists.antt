use Rattle.std.specs.Prelude.{ℕ, suc, List, [], ◌∷◌, Option, None, Some, ◌==◌, Bool, ◌≡◌, ◌<◌, length, map, replicate, slice_set, sum_by, if◌then◌else◌, IsTrue, IsFalse}
use Rattle.std.specs.List.{list_any, range_with_len, slice_index_or}

-- Lists of numbers, by their own numbers from 0 on, this project's own. Their items are the numbers below their count.

-- how many items the lists have together
abbrev pub item_count : List (List ℕ) → ℕ
item_count lists = sum_by length lists

-- the items of a list, first to last
abbrev pub items_of : List (List ℕ) → ℕ → List ℕ
items_of lists list = slice_index_or lists list []

-- whether the item is one of these
abbrev pub has : ℕ → List ℕ → Bool
has item xs = list_any (λ x. x == item) xs

-- the number of the list that has the item
abbrev pub list_of : List (List ℕ) → ℕ → ℕ
list_of [] item = 0
list_of (xs ∷ lists) item = if has item xs then 0 else suc (list_of lists item)

-- the items that stand behind this one
abbrev pub behind : ℕ → List ℕ → List ℕ
behind item [] = []
behind item (x ∷ xs) = if x == item then xs else behind item xs

-- the others, in their order
abbrev pub without : ℕ → List ℕ → List ℕ
without item [] = []
without item (x ∷ xs) = if x == item then xs else x ∷ without item xs

-- the items that stand behind this one in its list
abbrev pub items_behind : List (List ℕ) → ℕ → List ℕ
items_behind lists item = behind item (items_of lists (list_of lists item))

-- an item, if there is one, and those that stand behind it in its list: what a walk still has before it
abbrev pub items_from : List (List ℕ) → Option ℕ → List ℕ
items_from lists None = []
items_from lists (Some item) = item ∷ items_behind lists item

-- the lists with the item taken out of its own
abbrev pub taken_out : ℕ → List (List ℕ) → List (List ℕ)
taken_out item lists = slice_set lists (list_of lists item) (without item (items_of lists (list_of lists item)))

-- the lists with the item at the front of one more
abbrev pub put_first : ℕ → ℕ → List (List ℕ) → List (List ℕ)
put_first item list lists = slice_set lists list (item ∷ items_of lists list)

-- the lists with the item taken out of its own and put at the front of this one
abbrev pub moved_to : ℕ → ℕ → List (List ℕ) → List (List ℕ)
moved_to item list lists = put_first item list (taken_out item lists)

-- so many lists, with so many items, all in the first in rising order
abbrev pub all_in_first : ℕ → ℕ → List (List ℕ)
all_in_first lists items = slice_set (replicate lists []) 0 (range_with_len 0 items)

-- so many lists, each with the item of its own number alone
abbrev pub each_alone : ℕ → List (List ℕ)
each_alone count = map (λ item. item ∷ []) (range_with_len 0 count)

-- each item is in the list once: none stands behind itself
pub record IsOnce (xs : List ℕ) : Type 0 where
  pub once : (item : ℕ) → IsFalse (has item (behind item xs))

-- each item is in one list, once, and nothing else is in any
pub record AreDisjoint (lists : List (List ℕ)) : Type 0 where
  pub found : (item : ℕ) → item < item_count lists → IsTrue (has item (items_of lists (list_of lists item)))
  pub items : (list item : ℕ) → IsTrue (has item (items_of lists list)) → item < item_count lists
  pub alone : (list item : ℕ) → IsTrue (has item (items_of lists list)) → list_of lists item ≡ list
  pub once : (list : ℕ) → IsOnce (items_of lists list)
