use Rattle.std.proofs.Common.{◌≡◌, ◌<◌, ◌≤◌}
use Rattle.class_forest.specs.Joined.{GrowsBelow, IsLinked}
use Rattle.class_forest.specs.Path.{joined_at, IsWithin}
use Rattle.class_forest.proofs.forest.ClassForest.+mark_within.Given as goal

abbrev pub invariant-loop-from : goal.invariant-loop-from
invariant-loop-from l = record {
  nodes : l.self.nodes ≡ l.initial.self.nodes;
  log : l.self.log ≡ l.initial.self.log;
  from_in : l.from < l.initial.self.nodes;
  to_in : l.to < l.initial.self.nodes;
  small : IsWithin l.initial.self.log l.depth l.from l.to;
  before : joined_at l.initial.self.log l.from l.to ≤ joined_at l.initial.self.log l.x l.y;
  grown : GrowsBelow (joined_at l.initial.self.log l.x l.y) l.initial.self.marks l.self.marks;
  front : IsLinked l.initial.self.log l.self.marks l.x l.from;
  back : IsLinked l.initial.self.log l.self.marks l.to l.y;
}

abbrev pub decreases-loop-from : goal.decreases-loop-from
decreases-loop-from l = joined_at l.initial.self.log l.from l.to

abbrev pub decreases-mark_within : goal.decreases-mark_within
decreases-mark_within l = l.depth
