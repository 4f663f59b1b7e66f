use Rattle.std.proofs.Common.{◌≡◌}
use Rattle.clause_search.specs.Course.{Extends}
use Rattle.clause_search.specs.Standing.{IsSound, Stands}
use Rattle.clause_search.proofs.passes.propagate.Given as goal

abbrev pub invariant-loop-number : goal.invariant-loop-number
invariant-loop-number g l =
    let theory = g.T.Theory in
    record {
      same : theory.problem l.theory ≡ theory.problem l.fn.theory;
      stands : Stands theory l.theory l.trail;
      sound : IsSound (theory.lawful (theory.problem l.theory)) l.clauses l.trail;
      extends : Extends l.fn.trail l.trail;
    }
