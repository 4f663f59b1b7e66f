use Rattle.std.proofs.Common.{◌≡◌, ◌∙◌, true}
use Rattle.clause_search.specs.Course.{truths_of}
use Rattle.clause_search.specs.Truths.{decided_on}
use Rattle.clause_search.proofs.Growth.{Extends-trans}
use Rattle.clause_search.proofs.Passing.{all_decided_turn}
use Rattle.clause_search.proofs.passes.fill.Goals as goal

pub loop-clause-preserved : goal.loop-clause-preserved
loop-clause-preserved g c =
    let old = c.loop-clause.trail in
    let new = c.fill_clause.new.trail in
    let clause = c.clause-item.result in
    let shown : decided_on (truths_of new) c.as_slice.result.now ≡ true = rw c.in_default.is at c.in_ok-conflict.ensures.decided in
    let here : decided_on (truths_of new) clause ≡ true = rw c.as_slice.ensures at shown in
    record {
      same = c.fill_clause.ensures.problem ∙ c.loop-clause.invariant.same;
      stands = c.fill_clause.ensures.stands;
      sound = c.fill_clause.ensures.sound;
      extends = Extends-trans c.args.trail.now old new c.loop-clause.invariant.extends c.fill_clause.ensures.extends;
      decided = all_decided_turn old new c.args.clauses.now c.loop-clause.clause-index clause c.fill_clause.ensures.extends
          c.is_fresh.ensures c.loop-clause-test.true c.clause-item.is c.loop-clause.invariant.decided here;
    }
