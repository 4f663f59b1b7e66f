use Rattle.std.proofs.Common.{◌≡◌, ◌-◌, ◌<◌, take}
use Rattle.class_forest.specs.Classes.{class_of}
use Rattle.class_forest.specs.Kept.{end_of}
use Rattle.class_forest.proofs.forest.ClassForest.class_before.Given as goal

abbrev pub invariant-loop-end : goal.invariant-loop-end
invariant-loop-end l = record {
  class_in : l.class < l.self.nodes;
  end : l.end ≡ end_of l.self.log l.class;
  same : class_of (take l.number l.self.log) l.class ≡ class_of (take l.number l.self.log) l.node;
}

abbrev pub decreases-loop-end : goal.decreases-loop-end
decreases-loop-end l = l.number - l.end
