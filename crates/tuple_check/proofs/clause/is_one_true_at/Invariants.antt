-- None of the literals so far is true.
use Rattle.std.proofs.Common.{◌≡◌, false, take}
use Rattle.std.specs.List.{list_any}
use Rattle.tuple_check.specs.Failing.{truth_at}
use Rattle.tuple_check.proofs.clause.is_one_true_at.Given as goal

abbrev pub invariant-loop-literal : goal.invariant-loop-literal
invariant-loop-literal l = list_any (λ f. truth_at l.pool l.table l.truths f l.tuple) (take l.literal-index l.literals) ≡ false
