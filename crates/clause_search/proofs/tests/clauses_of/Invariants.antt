use Rattle.mbqi_values.specs.Clauses.{AreBelow}
use Rattle.clause_search.proofs.tests.clauses_of.Given as goal

abbrev pub invariant-loop-row : goal.invariant-loop-row
invariant-loop-row l = AreBelow l.atoms l.clauses
