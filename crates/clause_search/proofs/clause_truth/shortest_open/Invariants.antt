use Rattle.std.proofs.Common.{◌≡◌, true, false, Contains, IfSome, IfNone, take}
use Rattle.std.specs.List.{list_all}
use Rattle.clause_search.specs.Truths.{true_on}
use Rattle.clause_search.proofs.clause_truth.shortest_open.Given as goal

abbrev pub invariant-loop-clause : goal.invariant-loop-clause
invariant-loop-clause l = record {
  none : IfNone l.shortest (list_all (true_on l.truths) (take l.clause-index l.clauses) ≡ true);
  some : IfSome l.shortest (λ clause. Contains l.clauses clause.now);
  not_true : IfSome l.shortest (λ clause. true_on l.truths clause.now ≡ false);
}
