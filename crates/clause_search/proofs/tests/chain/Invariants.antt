use Rattle.mbqi_values.specs.Clauses.{AreBelow}
use Rattle.clause_search.proofs.tests.chain.Given as goal

abbrev pub invariant-loop-atom : goal.invariant-loop-atom
invariant-loop-atom l = AreBelow 1000 l.clauses
