use Rattle.std.proofs.Common.{◌<◌, ◌≤◌, sym, ◌∙◌, subst, arith}
use Rattle.class_forest.specs.Kept.{end_of}
use Rattle.class_forest.specs.Path.{joined_at}
use Rattle.class_forest.proofs.Endings.{end_of-le}
use Rattle.class_forest.proofs.Walks.{apart_before, end_of-later, ends_differ, get_or-slice_get, joined_at-least, Step-up, Up-stayed}
use Rattle.class_forest.proofs.forest.ClassForest.joined_after.Goals as goal

pub merge_at-one-requires : goal.merge_at-one-requires
merge_at-one-requires c =
    let log = c.args.self.now.log in
    omega (arith, end_of-le log c.loop-one.other, c.end-one_end.ensures, c.end-other_end.ensures)

pub loop-one-smaller-then-one_end-other_end : goal.loop-one-smaller-then-one_end-other_end
loop-one-smaller-then-one_end-other_end c =
    let log = c.args.self.now.log in
    let invariant = c.loop-one.invariant in
    let read = get_or-slice_get log (end_of log c.loop-one.one) c.merge_at-one.result (rw c.end-one_end.ensures at c.merge_at-one.ensures) in
    let late : c.loop-one.count ≤ end_of log c.loop-one.one = subst (λ one. c.loop-one.count ≤ end_of log one) (sym invariant.one) (end_of-later _ log c.requires.valid c.loop-one.count c.args.x invariant.count_in) in
    omega (arith, c.end-one_end.ensures, read.0, late)

pub loop-one-preserved-then-one_end-other_end : goal.loop-one-preserved-then-one_end-other_end
loop-one-preserved-then-one_end-other_end c =
    let log = c.args.self.now.log in
    let invariant = c.loop-one.invariant in
    let less : end_of log c.loop-one.one < end_of log c.loop-one.other = omega (arith, c.end-one_end.ensures, c.end-other_end.ensures) in
    let read = get_or-slice_get log (end_of log c.loop-one.one) c.merge_at-one.result (rw c.end-one_end.ensures at c.merge_at-one.ensures) in
    let up = Up-stayed _ log c.requires.valid c.loop-one.one c.merge_at-one.result invariant.one_in read.0 (sym read.1) in
    let step = Step-up _ log c.requires.valid c.args.x c.args.y (joined_at log c.args.x c.args.y) c.loop-one.count c.loop-one.one c.loop-one.other c.merge_at-one.result (apart_before _ log c.requires.valid c.args.x c.args.y c.requires.joined) invariant.count_in invariant.one invariant.other c.loop-one-test.true less (sym read.1) in
    rw c.end-one_end.ensures (record { one = step.goes; other = step.stays; one_in = up.within; other_in = invariant.other_in; count_in = omega arith; least = step.more })

pub merge_at-other-requires : goal.merge_at-other-requires
merge_at-other-requires c =
    let log = c.args.self.now.log in
    let invariant = c.loop-one.invariant in
    let differ = ends_differ _ log c.requires.valid c.loop-one.count c.args.x c.args.y c.loop-one.one c.loop-one.other invariant.count_in c.requires.joined invariant.one invariant.other c.loop-one-test.true in
    let less : end_of log c.loop-one.other < end_of log c.loop-one.one = omega (arith, differ, c.end-one_end.ensures, c.end-other_end.ensures) in
    omega (arith, end_of-le log c.loop-one.one, c.end-other_end.ensures)

pub overflow_add-count-else-one_end-other_end : goal.overflow_add-count-else-one_end-other_end
overflow_add-count-else-one_end-other_end c =
    let log = c.args.self.now.log in
    let invariant = c.loop-one.invariant in
    let differ = ends_differ _ log c.requires.valid c.loop-one.count c.args.x c.args.y c.loop-one.one c.loop-one.other invariant.count_in c.requires.joined invariant.one invariant.other c.loop-one-test.true in
    let less : end_of log c.loop-one.other < end_of log c.loop-one.one = omega (arith, differ, c.end-one_end.ensures, c.end-other_end.ensures) in
    omega (arith, c.end-one_end.ensures, c.end-other_end.ensures)

pub loop-one-smaller : goal.loop-one-smaller
loop-one-smaller c =
    let log = c.args.self.now.log in
    let invariant = c.loop-one.invariant in
    let read = get_or-slice_get log (end_of log c.loop-one.other) c.merge_at-other.result (rw c.end-other_end.ensures at c.merge_at-other.ensures) in
    let late : c.loop-one.count ≤ end_of log c.loop-one.other = subst (λ other. c.loop-one.count ≤ end_of log other) (sym invariant.other) (end_of-later _ log c.requires.valid c.loop-one.count c.args.y invariant.count_in) in
    omega (arith, c.end-other_end.ensures, read.0, late)

pub loop-one-preserved : goal.loop-one-preserved
loop-one-preserved c =
    let log = c.args.self.now.log in
    let invariant = c.loop-one.invariant in
    let differ = ends_differ _ log c.requires.valid c.loop-one.count c.args.x c.args.y c.loop-one.one c.loop-one.other invariant.count_in c.requires.joined invariant.one invariant.other c.loop-one-test.true in
    let less : end_of log c.loop-one.other < end_of log c.loop-one.one = omega (arith, differ, c.end-one_end.ensures, c.end-other_end.ensures) in
    let read = get_or-slice_get log (end_of log c.loop-one.other) c.merge_at-other.result (rw c.end-other_end.ensures at c.merge_at-other.ensures) in
    let up = Up-stayed _ log c.requires.valid c.loop-one.other c.merge_at-other.result invariant.other_in read.0 (sym read.1) in
    let step = Step-up _ log c.requires.valid c.args.y c.args.x (joined_at log c.args.x c.args.y) c.loop-one.count c.loop-one.other c.loop-one.one c.merge_at-other.result (λ k apart. apart_before _ log c.requires.valid c.args.x c.args.y c.requires.joined k (λ same. apart (sym same))) invariant.count_in invariant.other invariant.one (λ same. c.loop-one-test.true (sym same)) less (sym read.1) in
    rw c.end-other_end.ensures (record { one = step.stays; other = step.goes; one_in = invariant.one_in; other_in = up.within; count_in = omega arith; least = step.more })

pub returns : goal.returns
returns c =
    let log = c.args.self.now.log in
    let invariant = c.loop-one.invariant in
    let most = joined_at-least log c.loop-one.count c.args.x c.args.y (sym invariant.one ∙ (c.loop-one-test.false ∙ invariant.other)) in
    omega (arith, invariant.least)
