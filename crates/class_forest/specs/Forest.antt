use Rattle.std.specs.Prelude.{ℕ, List}
use Rattle.class_forest.specs.declared.merge.Merge.{Merge}

-- what contracts see of classes, this project's own: how many nodes there are, the merges from first to last, and
-- the numbers of those that are marked, in the order in which they were
pub record Forest : Type 0 where
  pub nodes : ℕ
  pub log : List Merge
  pub marks : List ℕ
