use Rattle.std.proofs.Common.{sym}
use Rattle.clause_search.specs.Course.{truths_of}
use Rattle.clause_search.proofs.Growth.{Extends-atoms}
use Rattle.clause_search.proofs.Resolution.{IsConflict-unmentioned}
use Rattle.clause_search.proofs.going_back.turn.Goals as goal

pub returns-then-not-mentions-clause-conflict : goal.returns-then-not-mentions-clause-conflict
returns-then-not-mentions-clause-conflict g c =
    let theory = g.T.Theory in
    let unmentioned = rw c.as_slice.ensures at (sym c.if-not-mentions.ensures) in
    IsConflict-unmentioned (theory.lawful (theory.problem c.args.theory.now)) c.args.clauses.now (truths_of c.args.trail.now) c.args.lit
    c.args.conflict unmentioned c.requires.conflict

pub returns-clause-atoms : goal.returns-clause-atoms
returns-clause-atoms g c = Extends-atoms c.args.trail.now c.imply.new.trail c.imply.ensures.extends
