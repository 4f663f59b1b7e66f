use Rattle.std.proofs.Common.{◌≡◌, ◌-◌, ◌<◌, ◌≤◌, length, take}
use Rattle.class_forest.specs.Classes.{class_of}
use Rattle.class_forest.specs.Path.{joined_at}
use Rattle.class_forest.proofs.forest.ClassForest.joined_after.Given as goal

abbrev pub invariant-loop-one : goal.invariant-loop-one
invariant-loop-one l = record {
  one : l.one ≡ class_of (take l.count l.self.log) l.x;
  other : l.other ≡ class_of (take l.count l.self.log) l.y;
  one_in : l.one < l.self.nodes;
  other_in : l.other < l.self.nodes;
  count_in : l.count ≤ length l.self.log;
  least : l.count ≤ joined_at l.self.log l.x l.y;
}

abbrev pub decreases-loop-one : goal.decreases-loop-one
decreases-loop-one l = length l.self.log - l.count
