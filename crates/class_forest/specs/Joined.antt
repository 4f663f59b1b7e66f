use Rattle.std.specs.Prelude.{◌≡◌, ℕ, ◌<◌, List, ◌++◌, Some, slice_get}
use Rattle.std.specs.List.{All, Contains}
use Rattle.class_forest.specs.declared.merge.Merge.{Merge}

-- the merges join the two nodes: the least equivalence that has the two nodes of each of them
pub data IsJoined (log : List Merge) : ℕ → ℕ → Type 0 where
  equal : {x y : ℕ} → x ≡ y → IsJoined log x y
  by_merge : {x y : ℕ} (merge : Merge) → Contains log merge → x ≡ merge.left → y ≡ merge.right → IsJoined log x y
  back : {x y : ℕ} → IsJoined log y x → IsJoined log x y
  along : {x y : ℕ} (z : ℕ) → IsJoined log x z → IsJoined log z y → IsJoined log x y

-- the marked ones of the merges join the two nodes
pub data IsLinked (log : List Merge) (marks : List ℕ) : ℕ → ℕ → Type 0 where
  equal : {x y : ℕ} → x ≡ y → IsLinked log marks x y
  by_merge : {x y : ℕ} (number : ℕ) (merge : Merge) → Contains marks number → slice_get log number ≡ Some merge → x ≡ merge.left → y ≡ merge.right → IsLinked log marks x y
  back : {x y : ℕ} → IsLinked log marks y x → IsLinked log marks x y
  along : {x y : ℕ} (z : ℕ) → IsLinked log marks x z → IsLinked log marks z y → IsLinked log marks x y

-- the marks are those before and then some more, all below this number
abbrev pub GrowsBelow : ℕ → List ℕ → List ℕ → Type 0
GrowsBelow limit old new = (added : List ℕ) × (new ≡ old ++ added) × All (λ number. number < limit) added
