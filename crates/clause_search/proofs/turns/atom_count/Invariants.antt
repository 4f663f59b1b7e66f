use Rattle.std.proofs.Common.{ℕ, ◌≤◌, take}
use Rattle.mbqi_values.specs.Clauses.{AreBelow}
use Rattle.clause_search.proofs.turns.atom_count.Given as goal

abbrev pub invariant-loop-clause : goal.invariant-loop-clause
invariant-loop-clause l = record {
  below : AreBelow l.count (take l.clause-index l.clauses);
  least : (limit : ℕ) → AreBelow limit l.clauses → l.count ≤ limit;
}
