use Rattle.std.proofs.Common.{◌≡◌, length, arith}
use Rattle.clause_search.proofs.LastSteps.{HasNoModel-from_start}
use Rattle.clause_search.proofs.going_back.go_back.Goals as goal

pub returns-clause-none : goal.returns-clause-none
returns-clause-none g c =
    let theory = g.T.Theory in
    let none : length c.back.trail.steps ≡ 0 = omega arith in
    HasNoModel-from_start (theory.lawful (theory.problem c.back.theory)) c.args.clauses.now c.back.trail c.back.conflict none
    c.back.invariant.clash
