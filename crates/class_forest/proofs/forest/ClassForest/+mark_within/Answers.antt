use Rattle.std.proofs.Common.{◌≡◌, ◌-◌, ◌<◌, suc, Some, refl, sym, ap, ◌∙◌, subst, arith}
use Rattle.std.specs.Prelude.{slice_get}
use Rattle.class_forest.specs.Joined.{IsLinked}
use Rattle.class_forest.specs.Joined.IsLinked.{equal, along}
use Rattle.class_forest.specs.Path.{joined_at}
use Rattle.class_forest.proofs.Marking.{GrowsBelow-none}
use Rattle.class_forest.proofs.Turns.{joined_within, left_within, Halved-of, Marking-turn}
use Rattle.class_forest.proofs.Walks.{apart_before, joined_at-length}
use Rattle.class_forest.proofs.forest.ClassForest.+mark_within.Goals as goal

pub loop-from-init : goal.loop-from-init
loop-from-init t c =
    record { nodes = refl; log = refl; from_in = c.requires.x_within; to_in = c.requires.y_within; small = c.requires.small; before = omega arith; grown = GrowsBelow-none _ _; front = equal refl; back = equal refl }

pub joined_after-number-requires-clause-joined : goal.joined_after-number-requires-clause-joined
joined_after-number-requires-clause-joined t c =
    let log = c.args.self.now.log in
    let invariant = c.loop-from.invariant in
    let joined = joined_within _ log c.requires.valid c.args.depth c.loop-from.from c.loop-from.to invariant.small in
    rw invariant.log joined

pub overflow_sub-number : goal.overflow_sub-number
overflow_sub-number t c =
    let log = c.args.self.now.log in
    let invariant = c.loop-from.invariant in
    let joined = joined_within _ log c.requires.valid c.args.depth c.loop-from.from c.loop-from.to invariant.small in
    let some : 0 < joined_at log c.loop-from.from c.loop-from.to = apart_before _ log c.requires.valid c.loop-from.from c.loop-from.to joined 0 c.loop-from-test.true in
    let found : c.joined_after-number.result ≡ joined_at log c.loop-from.from c.loop-from.to = rw invariant.log at c.joined_after-number.ensures in
    omega arith

pub merge_at-merge-requires : goal.merge_at-merge-requires
merge_at-merge-requires t c =
    let log = c.args.self.now.log in
    let invariant = c.loop-from.invariant in
    let joined = joined_within _ log c.requires.valid c.args.depth c.loop-from.from c.loop-from.to invariant.small in
    let some : 0 < joined_at log c.loop-from.from c.loop-from.to = apart_before _ log c.requires.valid c.loop-from.from c.loop-from.to joined 0 c.loop-from-test.true in
    let found : c.joined_after-number.result ≡ joined_at log c.loop-from.from c.loop-from.to = rw invariant.log at c.joined_after-number.ensures in
    let most = joined_at-length log c.loop-from.from c.loop-from.to joined in
    rw invariant.log (omega arith)

pub split-split-requires-clause-number_within : goal.split-split-requires-clause-number_within
split-split-requires-clause-number_within t c =
    let log = c.args.self.now.log in
    let invariant = c.loop-from.invariant in
    let joined = joined_within _ log c.requires.valid c.args.depth c.loop-from.from c.loop-from.to invariant.small in
    let some : 0 < joined_at log c.loop-from.from c.loop-from.to = apart_before _ log c.requires.valid c.loop-from.from c.loop-from.to joined 0 c.loop-from-test.true in
    let found : c.joined_after-number.result ≡ joined_at log c.loop-from.from c.loop-from.to = rw invariant.log at c.joined_after-number.ensures in
    let most = joined_at-length log c.loop-from.from c.loop-from.to joined in
    rw invariant.log (omega arith)

pub mark-requires : goal.mark-requires
mark-requires t c =
    let log = c.args.self.now.log in
    let invariant = c.loop-from.invariant in
    let joined = joined_within _ log c.requires.valid c.args.depth c.loop-from.from c.loop-from.to invariant.small in
    let some : 0 < joined_at log c.loop-from.from c.loop-from.to = apart_before _ log c.requires.valid c.loop-from.from c.loop-from.to joined 0 c.loop-from-test.true in
    let found : c.joined_after-number.result ≡ joined_at log c.loop-from.from c.loop-from.to = rw invariant.log at c.joined_after-number.ensures in
    let most = joined_at-length log c.loop-from.from c.loop-from.to joined in
    rw invariant.log (omega arith)

pub split-split-requires-clause-left_within : goal.split-split-requires-clause-left_within
split-split-requires-clause-left_within t c =
    let log = c.args.self.now.log in
    let invariant = c.loop-from.invariant in
    let joined = joined_within _ log c.requires.valid c.args.depth c.loop-from.from c.loop-from.to invariant.small in
    let number = c.joined_after-number.result - 1 in
    let read : slice_get log number ≡ Some c.merge_at-merge.result = rw invariant.log at c.merge_at-merge.ensures in
    rw invariant.nodes (left_within _ log c.requires.valid number c.merge_at-merge.result read)

pub overflow_sub-depth : goal.overflow_sub-depth
overflow_sub-depth t c =
    let log = c.args.self.now.log in
    let invariant = c.loop-from.invariant in
    let joined = joined_within _ log c.requires.valid c.args.depth c.loop-from.from c.loop-from.to invariant.small in
    let some : 0 < joined_at log c.loop-from.from c.loop-from.to = apart_before _ log c.requires.valid c.loop-from.from c.loop-from.to joined 0 c.loop-from-test.true in
    let found : c.joined_after-number.result ≡ joined_at log c.loop-from.from c.loop-from.to = rw invariant.log at c.joined_after-number.ensures in
    let number = c.joined_after-number.result - 1 in
    let read : slice_get log number ≡ Some c.merge_at-merge.result = rw invariant.log at c.merge_at-merge.ensures in
    let next : suc number ≡ joined_at log c.loop-from.from c.loop-from.to = omega arith in
    let halved = Halved-of _ log c.requires.valid number c.args.depth c.merge_at-merge.result c.loop-from.from c.loop-from.to c.split-split.result invariant.from_in invariant.to_in invariant.small next read (rw invariant.log at c.split-split.ensures) in
    halved.deep

pub mark_within-requires : goal.mark_within-requires
mark_within-requires t c =
    let log = c.args.self.now.log in
    let invariant = c.loop-from.invariant in
    let joined = joined_within _ log c.requires.valid c.args.depth c.loop-from.from c.loop-from.to invariant.small in
    let some : 0 < joined_at log c.loop-from.from c.loop-from.to = apart_before _ log c.requires.valid c.loop-from.from c.loop-from.to joined 0 c.loop-from-test.true in
    let found : c.joined_after-number.result ≡ joined_at log c.loop-from.from c.loop-from.to = rw invariant.log at c.joined_after-number.ensures in
    let number = c.joined_after-number.result - 1 in
    let read : slice_get log number ≡ Some c.merge_at-merge.result = rw invariant.log at c.merge_at-merge.ensures in
    let next : suc number ≡ joined_at log c.loop-from.from c.loop-from.to = omega arith in
    let halved = Halved-of _ log c.requires.valid number c.args.depth c.merge_at-merge.result c.loop-from.from c.loop-from.to c.split-split.result invariant.from_in invariant.to_in invariant.small next read (rw invariant.log at c.split-split.ensures) in
    let log_now : c.mark.new.self.log ≡ log = ap (λ f. f.log) c.mark.ensures ∙ invariant.log in
    let nodes_now : c.mark.new.self.nodes ≡ c.args.self.now.nodes = ap (λ f. f.nodes) c.mark.ensures ∙ invariant.nodes in
    (omega (arith, halved.deep), (rw (nodes_now, log_now) c.requires.valid, (rw nodes_now halved.turn.from_in, (rw nodes_now halved.turn.to_in, rw log_now halved.part))))

pub loop-from-smaller : goal.loop-from-smaller
loop-from-smaller t c =
    let log = c.args.self.now.log in
    let invariant = c.loop-from.invariant in
    let joined = joined_within _ log c.requires.valid c.args.depth c.loop-from.from c.loop-from.to invariant.small in
    let some : 0 < joined_at log c.loop-from.from c.loop-from.to = apart_before _ log c.requires.valid c.loop-from.from c.loop-from.to joined 0 c.loop-from-test.true in
    let found : c.joined_after-number.result ≡ joined_at log c.loop-from.from c.loop-from.to = rw invariant.log at c.joined_after-number.ensures in
    let number = c.joined_after-number.result - 1 in
    let read : slice_get log number ≡ Some c.merge_at-merge.result = rw invariant.log at c.merge_at-merge.ensures in
    let next : suc number ≡ joined_at log c.loop-from.from c.loop-from.to = omega arith in
    let halved = Halved-of _ log c.requires.valid number c.args.depth c.merge_at-merge.result c.loop-from.from c.loop-from.to c.split-split.result invariant.from_in invariant.to_in invariant.small next read (rw invariant.log at c.split-split.ensures) in
    omega (arith, halved.rest_before)

pub loop-from-preserved : goal.loop-from-preserved
loop-from-preserved t c =
    let log = c.args.self.now.log in
    let invariant = c.loop-from.invariant in
    let joined = joined_within _ log c.requires.valid c.args.depth c.loop-from.from c.loop-from.to invariant.small in
    let some : 0 < joined_at log c.loop-from.from c.loop-from.to = apart_before _ log c.requires.valid c.loop-from.from c.loop-from.to joined 0 c.loop-from-test.true in
    let found : c.joined_after-number.result ≡ joined_at log c.loop-from.from c.loop-from.to = rw invariant.log at c.joined_after-number.ensures in
    let number = c.joined_after-number.result - 1 in
    let read : slice_get log number ≡ Some c.merge_at-merge.result = rw invariant.log at c.merge_at-merge.ensures in
    let next : suc number ≡ joined_at log c.loop-from.from c.loop-from.to = omega arith in
    let halved = Halved-of _ log c.requires.valid number c.args.depth c.merge_at-merge.result c.loop-from.from c.loop-from.to c.split-split.result invariant.from_in invariant.to_in invariant.small next read (rw invariant.log at c.split-split.ensures) in
    let log_now : c.mark.new.self.log ≡ log = ap (λ f. f.log) c.mark.ensures ∙ invariant.log in
    let nodes_now : c.mark.new.self.nodes ≡ c.args.self.now.nodes = ap (λ f. f.nodes) c.mark.ensures ∙ invariant.nodes in
    let log_after : c.mark_within.new.self.log ≡ log = ap (λ f. f.log) c.mark_within.ensures.merges ∙ log_now in
    let nodes_after : c.mark_within.new.self.nodes ≡ c.args.self.now.nodes = ap (λ f. f.nodes) c.mark_within.ensures.merges ∙ nodes_now in
    let marking = Marking-turn _ log number c.args.depth (joined_at log c.args.x c.args.y) c.merge_at-merge.result c.args.x c.loop-from.from c.loop-from.to c.args.y c.split-split.result c.args.self.now.marks c.loop-from.self.marks c.mark.new.self.marks c.mark_within.new.self.marks halved (omega (arith, invariant.before)) (record { grown = invariant.grown; front = invariant.front; behind = invariant.back }) (ap (λ f. f.marks) c.mark.ensures) (rw log_now at c.mark_within.ensures.below) (rw log_now at c.mark_within.ensures.linked) in
    record { nodes = nodes_after; log = log_after; from_in = halved.turn.x_in; to_in = halved.turn.y_in; small = halved.rest; before = omega (arith, halved.rest_before, invariant.before); grown = marking.grown; front = marking.front; back = marking.behind }

pub returns-clause-linked : goal.returns-clause-linked
returns-clause-linked t c =
    let invariant = c.loop-from.invariant in
    along c.loop-from.from invariant.front (subst (λ z. IsLinked c.args.self.now.log c.loop-from.self.marks z c.args.y) (sym c.loop-from-test.false) invariant.back)
