use Rattle.std.specs.Prelude.{◌≡◌, ℕ, ◌<◌, ◌≤◌, ◌^◌, suc, List, [], ◌∷◌, ◌==◌, length, take, if◌then◌else◌}
use Rattle.class_forest.specs.declared.merge.Merge.{Merge}
use Rattle.class_forest.specs.declared.path.Split.{Split}
use Rattle.class_forest.specs.Classes.{class_of, moved}
use Rattle.class_forest.specs.Kept.{kept_size}

-- How the merges that join two nodes are found, this project's own.

-- after how many of these merges the two nodes have one class, if they have in the end
abbrev pub joined_at : List Merge → ℕ → ℕ → ℕ
joined_at [] x y = 0
joined_at (merge ∷ log) x y = if x == y then 0 else suc (joined_at log (moved merge x) (moved merge y))

-- the node of a merge that lay in the class that went, where `class` is the left one's class before
abbrev pub gone_end : ℕ → Merge → ℕ
gone_end class merge = if class == merge.went then merge.left else merge.right

-- the other one
abbrev pub kept_end : ℕ → Merge → ℕ
kept_end class merge = if class == merge.went then merge.right else merge.left

-- the way from x to y by the merge of this number: the part in the class that went, and the part in the one that stayed
abbrev pub split_of : List Merge → ℕ → Merge → ℕ → ℕ → Split
split_of log number merge x y = if class_of (take number log) x == merge.went then record { from = x; to = gone_end (class_of (take number log) merge.left) merge; x = kept_end (class_of (take number log) merge.left) merge; y = y } else record { from = y; to = gone_end (class_of (take number log) merge.left) merge; x = x; y = kept_end (class_of (take number log) merge.left) merge }

-- some of the merges join the two nodes, in a class of fewer nodes than the power of two
pub record IsWithin (log : List Merge) (depth x y : ℕ) : Type 0 where
  pub limit : ℕ
  pub front : limit ≤ length log
  pub joined : class_of (take limit log) x ≡ class_of (take limit log) y
  pub small : kept_size (take limit log) (class_of (take limit log) x) < 2 ^ depth
