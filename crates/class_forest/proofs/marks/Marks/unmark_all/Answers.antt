use Rattle.std.proofs.Common.{arith}
use Rattle.class_forest.proofs.Marking.{AreMarks-pop}
use Rattle.class_forest.proofs.marks.Marks.unmark_all.Goals as goal

pub loop-number-preserved : goal.loop-number-preserved
loop-number-preserved c =
    let invariant = c.loop-number.invariant in
    record {
      marks = AreMarks-pop c.loop-number.self-inside.is_marked.items c.pop.new.self.items c.in-Some.number (rw c.in-Some.ensures.items at invariant.marks);
      room = omega (arith, c.in-Some.ensures.capacity);
      length = invariant.length;
    }
