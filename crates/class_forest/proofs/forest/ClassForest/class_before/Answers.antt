use Rattle.std.proofs.Common.{sym, ◌∙◌, arith}
use Rattle.class_forest.proofs.Endings.{class_of-before_end}
use Rattle.class_forest.proofs.Walks.{get_or-slice_get, Up-stayed}
use Rattle.class_forest.proofs.forest.ClassForest.class_before.Goals as goal

pub end-end-requires-in-loop-end : goal.end-end-requires-in-loop-end
end-end-requires-in-loop-end c =
    let invariant = c.loop-end.invariant in
    let read = get_or-slice_get _ _ _ (rw invariant.end at c.merge_at-class.ensures) in
    (Up-stayed _ _ c.requires.valid c.loop-end.class c.merge_at-class.result invariant.class_in read.0 (sym read.1)).within

pub loop-end-smaller : goal.loop-end-smaller
loop-end-smaller c =
    let invariant = c.loop-end.invariant in
    let read = get_or-slice_get _ _ _ (rw invariant.end at c.merge_at-class.ensures) in
    let up = Up-stayed _ _ c.requires.valid c.loop-end.class c.merge_at-class.result invariant.class_in read.0 (sym read.1) in
    omega (arith, up.later, c.end-end-in-loop-end.ensures)

pub loop-end-preserved : goal.loop-end-preserved
loop-end-preserved c =
    let invariant = c.loop-end.invariant in
    let read = get_or-slice_get _ _ _ (rw invariant.end at c.merge_at-class.ensures) in
    let up = Up-stayed _ _ c.requires.valid c.loop-end.class c.merge_at-class.result invariant.class_in read.0 (sym read.1) in
    record { class_in = up.within; end = c.end-end-in-loop-end.ensures; same = up.same c.args.number (omega arith) ∙ invariant.same }

pub returns : goal.returns
returns c = sym (class_of-before_end c.args.self.now.log c.loop-end.class c.args.number (omega arith)) ∙ c.loop-end.invariant.same
