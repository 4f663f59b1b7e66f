-- The choices so far are those of the numbers as far as the loop has come, and the tuple is as before.
use Rattle.std.proofs.Common.{◌≡◌, [], ◌∷◌, ◌++◌, ◌-◌, length, map}
use Rattle.tuple_check.specs.Failing.{choice_of, fails_at}
use Rattle.tuple_check.specs.Tuples.{joined_below, tuples_where}
use Rattle.tuple_check.proofs.failing.+push_failing.Given as goal

abbrev pub decreases-push_failing : goal.decreases-push_failing
decreases-push_failing l = l.more

abbrev pub invariant-loop-number : goal.invariant-loop-number
invariant-loop-number l = record {
  choices : l.into ≡ l.fn.into ++ map (choice_of l.pool.terms l.rule)
      (joined_below (λ i. tuples_where (fails_at l.pool l.table l.truths l.clause) (length l.pool.terms) (l.more - 1) (l.fn.tuple.items ++ i ∷ [])) l.number);
  tuple : l.tuple.items ≡ l.fn.tuple.items;
}
