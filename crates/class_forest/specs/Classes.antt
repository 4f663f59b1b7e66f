use Rattle.std.specs.Prelude.{◌≡◌, ◌≢◌, ℕ, ◌<◌, List, [], ◌∷◌, ◌++◌, ◌==◌, length, nat_lt, reverse, if◌then◌else◌}
use Rattle.class_forest.specs.declared.merge.Merge.{Merge}

-- Classes of nodes by the log of their merges, first to last, this project's own. Each node begins as a class of its own.

-- the class that a class is in after a merge
abbrev pub moved : Merge → ℕ → ℕ
moved merge class = if class == merge.went then merge.stayed else class

-- the class of a node after these merges
abbrev pub class_of : List Merge → ℕ → ℕ
class_of [] node = node
class_of (merge ∷ log) node = class_of log (moved merge node)

-- the members of each class after a merge: those of the class that went stand before the others, last to first
abbrev pub members_after : (ℕ → List ℕ) → Merge → ℕ → List ℕ
members_after members merge class = if class == merge.stayed then reverse (members merge.went) ++ members merge.stayed else if class == merge.went then [] else members class

-- the members of each class after these merges, where these were its members before
abbrev pub members_from : (ℕ → List ℕ) → List Merge → ℕ → List ℕ
members_from members [] class = members class
members_from members (merge ∷ log) class = members_from (members_after members merge) log class

-- the members of a class after these merges, in the order in which they are listed; a class that went has none
abbrev pub members : List Merge → ℕ → List ℕ
members log class = members_from (λ node. node ∷ []) log class

-- the merge of two classes, of which the smaller goes, and of two of one size the second
abbrev pub merge_of_classes : List Merge → ℕ → ℕ → (left right reason : ℕ) → Merge
merge_of_classes log one other left right reason = if nat_lt (length (members log one)) (length (members log other)) then record { left = left; right = right; went = one; stayed = other; reason = reason } else record { left = left; right = right; went = other; stayed = one; reason = reason }

-- the merge of the classes of two nodes after these merges
abbrev pub merge_of : List Merge → (left right reason : ℕ) → Merge
merge_of log left right reason = merge_of_classes log (class_of log left) (class_of log right) left right reason

-- the merge can come after these: it joins two of the nodes that were apart, the smaller class into the larger
pub record IsMerge (nodes : ℕ) (log : List Merge) (merge : Merge) : Type 0 where
  pub left_in : merge.left < nodes
  pub right_in : merge.right < nodes
  pub apart : class_of log merge.left ≢ class_of log merge.right
  pub is : merge ≡ merge_of log merge.left merge.right merge.reason

-- each of the merges can come after those before it, the first after these
abbrev pub IsLogAfter : ℕ → List Merge → List Merge → Type 0
IsLogAfter nodes before [] = Unit {0}
IsLogAfter nodes before (merge ∷ log) = IsMerge nodes before merge × IsLogAfter nodes (before ++ merge ∷ []) log

-- the merges can come one after another, from the start, where each of so many nodes is a class of its own
abbrev pub IsLog : ℕ → List Merge → Type 0
IsLog nodes log = IsLogAfter nodes [] log
