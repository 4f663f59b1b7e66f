-- Arguments come before the term that they stand in.
use Rattle.std.proofs.Common.{◌≡◌, ◌+◌, ◌*◌, map, take}
use Rattle.function_model.specs.Narrowing.{rows_for}
use Rattle.function_model.specs.Tabled.{stored_value}
use Rattle.function_model.proofs.eval_ids.+ids.Given as goal

abbrev pub decreases-value_of_id : goal.decreases-value_of_id
decreases-value_of_id l = 3 * l.id.0 + 2

abbrev pub decreases-value_of_head : goal.decreases-value_of_head
decreases-value_of_head l = 3 * l.before.0 + 1

abbrev pub decreases-value_of_args : goal.decreases-value_of_args
decreases-value_of_args l = 3 * l.before.0

abbrev pub invariant-value_of_args-loop-place : goal.invariant-value_of_args-loop-place
invariant-value_of_args-loop-place l = l.rows ≡ rows_for l.table (map (stored_value l.model l.store) (take l.place l.args))
