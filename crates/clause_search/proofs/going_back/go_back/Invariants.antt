use Rattle.std.proofs.Common.{◌≡◌, ◌++◌, List, length}
use Rattle.clause_search.specs.Course.{truths_of}
use Rattle.clause_search.specs.Following.{IsConflict}
use Rattle.clause_search.specs.Standing.{Covers, IsSound}
use Rattle.clause_search.specs.declared.step.Step.{Step}
use Rattle.clause_search.proofs.going_back.go_back.Given as goal

abbrev pub invariant-back : goal.invariant-back
invariant-back g l =
    let theory = g.T.Theory in
    record {
      same : theory.problem l.theory ≡ theory.problem l.fn.theory;
      atoms : l.trail.atoms ≡ l.fn.trail.atoms;
      front : (rest : List Step) × (l.fn.trail.steps ≡ l.trail.steps ++ rest);
      covers : Covers theory l.theory l.trail;
      sound : IsSound (theory.lawful (theory.problem l.theory)) l.clauses l.trail;
      clash : IsConflict (theory.lawful (theory.problem l.theory)) l.clauses (truths_of l.trail) l.conflict;
    }

abbrev pub decreases-back : goal.decreases-back
decreases-back g l = length l.trail.steps
