use Rattle.std.proofs.Common.{◌≡◌, true, take}
use Rattle.clause_search.specs.Course.{truths_of, Extends}
use Rattle.clause_search.specs.Standing.{IsSound, Stands}
use Rattle.clause_search.specs.Truths.{decided_on}
use Rattle.clause_search.proofs.passes.fill_clause.Given as goal

abbrev pub invariant-loop-lit : goal.invariant-loop-lit
invariant-loop-lit g l =
    let theory = g.T.Theory in
    record {
      same : theory.problem l.theory ≡ theory.problem l.fn.theory;
      stands : Stands theory l.theory l.trail;
      sound : IsSound (theory.lawful (theory.problem l.theory)) l.clauses l.trail;
      extends : Extends l.fn.trail l.trail;
      decided : decided_on (truths_of l.trail) (take l.lit-index l.clause) ≡ true;
    }
