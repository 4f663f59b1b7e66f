use Rattle.std.proofs.Common.{arith}
use Rattle.class_forest.proofs.Marking.{AreMarks-none}
use Rattle.class_forest.proofs.marks.Marks.new.Goals as goal

pub invariant_of-result : goal.invariant_of-result
invariant_of-result c = (rw (c.in_ok-is_marked.ensures.items_if_clones_equal, c.in_ok-marks.ensures.items) (AreMarks-none c.args.room), omega (arith, c.in_ok-is_marked.ensures.len, c.in_ok-marks.ensures.capacity))
