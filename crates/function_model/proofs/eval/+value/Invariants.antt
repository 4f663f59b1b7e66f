-- The rows that agree with the values of the arguments so far.
use Rattle.std.proofs.Common.{◌≡◌, map, take}
use Rattle.function_model.specs.Narrowing.{rows_for}
use Rattle.function_model.specs.Points.{point_of}
use Rattle.function_model.specs.ValueOf.{value_of}
use Rattle.function_model.proofs.eval.+value.Given as goal

abbrev pub invariant-value_of_table-loop-place : goal.invariant-value_of_table-loop-place
invariant-value_of_table-loop-place l =
    l.rows ≡ rows_for l.table (map (λ t. value_of l.model t (point_of l.binders l.point)) (take l.place l.args))
