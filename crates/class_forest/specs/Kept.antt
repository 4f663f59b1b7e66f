use Rattle.std.specs.Prelude.{◌≡◌, ℕ, ◌+◌, ◌<◌, List, [], ◌∷◌, Option, None, Some, ◌==◌, length, nat_lt, slice_index_or, if◌then◌else◌}
use Rattle.index_lists.specs.Lists.{item_count, items_of}
use Rattle.class_forest.specs.declared.merge.Merge.{Merge}
use Rattle.class_forest.specs.Classes.{members, IsLog}

-- How the classes are kept, this project's own: by class its members, its size and the number of the merge in which it went.

-- the size of each class after a merge; the class that went keeps its own
abbrev pub sizes_after : (ℕ → ℕ) → Merge → ℕ → ℕ
sizes_after sizes merge class = if class == merge.stayed then sizes merge.stayed + sizes merge.went else sizes class

-- the size of each class after these merges, where these were the sizes before
abbrev pub sizes_from : (ℕ → ℕ) → List Merge → ℕ → ℕ
sizes_from sizes [] class = sizes class
sizes_from sizes (merge ∷ log) class = sizes_from (sizes_after sizes merge) log class

-- how many members a class has after these merges, or had when it went
abbrev pub kept_size : List Merge → ℕ → ℕ
kept_size log class = sizes_from (λ _. 1) log class

-- the number of the merge in which the class went, or of merges if it is still there
abbrev pub end_of : List Merge → ℕ → ℕ
end_of [] class = 0
end_of (merge ∷ log) class = if class == merge.went then 0 else end_of log class + 1

-- the number of the merge in which the class went, if it did
abbrev pub gone_in : List Merge → ℕ → Option ℕ
gone_in log class = if nat_lt (end_of log class) (length log) then Some (end_of log class) else None

-- what is kept is what these merges make of so many nodes
pub record IsKept (nodes : ℕ) (log : List Merge) (lists : List (List ℕ)) (sizes : List ℕ) (gone : List (Option ℕ)) : Type 0 where
  pub valid : IsLog nodes log
  pub list_count : length lists ≡ nodes
  pub item_count : item_count lists ≡ nodes
  pub size_count : length sizes ≡ nodes
  pub gone_count : length gone ≡ nodes
  pub members_at : (class : ℕ) → class < nodes → items_of lists class ≡ members log class
  pub size_at : (class : ℕ) → class < nodes → slice_index_or sizes class 0 ≡ kept_size log class
  pub gone_at : (class : ℕ) → class < nodes → slice_index_or gone class None ≡ gone_in log class
