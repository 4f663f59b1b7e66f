use Rattle.std.proofs.Common.{arith}
use Rattle.std.proofs.lemmas.List.{length-take-le}
use Rattle.clause_region.proofs.InOrder.{KeepsRuns-from_reads, part-take}
use Rattle.clause_region.proofs.region.ClauseRegion.release.Goals as goal

pub returns-clause-others : goal.returns-clause-others
returns-clause-others c =
    let old = c.self.inside.lits.items in
    let not_past = rw (← c.self.view_is) at c.requires in
    rw (← c.self.view_is)
    (KeepsRuns-from_reads c.args.mark.used _ _ (rw (c.truncate.ensures.items, length-take-le c.args.mark.used old not_past) (omega arith))
    (λ run within. rw c.truncate.ensures.items (part-take c.args.mark.used run old within)))
