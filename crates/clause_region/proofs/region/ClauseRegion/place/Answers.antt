use Rattle.std.proofs.Common.{arith, length-append}
use Rattle.clause_region.proofs.InOrder.{AreInOrder-push, KeepsRuns-from_reads, part-append}
use Rattle.clause_region.proofs.region.ClauseRegion.place.Goals as goal

pub returns-clause-others : goal.returns-clause-others
returns-clause-others c =
    let old = c.self.inside.lits.items in
    let items = rw c.unwrap.ensures at c.extend_from_slice.ensures.items in
    rw (← c.self.view_is)
    (KeepsRuns-from_reads _ _ _ (rw (items, length-append) (omega arith)) (λ run within. rw items (part-append run old c.args.lits.now within)))

pub returns-clause-live : goal.returns-clause-live
returns-clause-live c =
    let items = rw c.unwrap.ensures at c.extend_from_slice.ensures.items in
    rw (← c.self.view_is, items, length-append) (λ runs live. AreInOrder-push _ _ _ _ runs (omega arith) c.requires.some live)
