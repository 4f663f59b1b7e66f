use Rattle.std.proofs.Common.{◌<◌, All, List, subst}
use Rattle.std.proofs.lemmas.List.{take_all}
use Rattle.mbqi_values.specs.Clauses.{AreBelow}
use Rattle.mbqi_values.specs.declared.lit.Lit.{Lit}
use Rattle.clause_search.proofs.Passing.{below_more, clause_within}
use Rattle.clause_search.proofs.turns.atom_count.Goals as goal

pub returns-in_err-count-clause-none : goal.returns-in_err-count-clause-none
returns-in_err-count-clause-none c =
    let clauses = c.args.clauses.now in
    rw c.from_residual.ensures
    (λ limit each. c.in_err-count.ensures.none limit (rw c.as_slice.ensures
    (clause_within clauses limit c.loop-clause.clause-index c.clause-item.result c.loop-clause-test.true c.clause-item.is each)))

pub loop-clause-preserved : goal.loop-clause-preserved
loop-clause-preserved c =
    let clauses = c.args.clauses.now in
    let at = c.loop-clause.clause-index in
    let clause = c.clause-item.result in
    let next = c.in_ok-count.count in
    let here : All (λ (l : Lit). l.atom < next) clause = rw c.as_slice.ensures at c.in_ok-count.ensures.below in
    record {
      below = below_more clauses c.loop-clause.count next at clause c.loop-clause-test.true c.clause-item.is c.in_ok-count.ensures.above
          here c.loop-clause.invariant.below;
      least = λ limit each. c.in_ok-count.ensures.least limit (c.loop-clause.invariant.least limit each)
          (rw c.as_slice.ensures (clause_within clauses limit at clause c.loop-clause-test.true c.clause-item.is each));
    }

pub returns-clause-below : goal.returns-clause-below
returns-clause-below c =
    let clauses = c.args.clauses.now in
    subst (λ (cs : List (List Lit)). AreBelow c.loop-clause.count cs) (take_all c.loop-clause.clause-index clauses c.loop-clause-test.false)
    c.loop-clause.invariant.below
