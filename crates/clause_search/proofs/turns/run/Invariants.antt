use Rattle.std.proofs.Common.{◌≡◌, ◌-◌}
use Rattle.clause_search.specs.Rank.{power_of_three, rank_of}
use Rattle.clause_search.specs.Standing.{IsSound, Stands}
use Rattle.clause_search.proofs.turns.run.Given as goal

abbrev pub invariant-turns : goal.invariant-turns
invariant-turns g l =
    let theory = g.T.Theory in
    record {
      same : theory.problem l.theory ≡ theory.problem l.fn.theory;
      atoms : l.trail.atoms ≡ l.fn.trail.atoms;
      stands : Stands theory l.theory l.trail;
      sound : IsSound (theory.lawful (theory.problem l.theory)) l.clauses l.trail;
    }

abbrev pub decreases-turns : goal.decreases-turns
decreases-turns g l = power_of_three l.trail.atoms - rank_of l.trail
