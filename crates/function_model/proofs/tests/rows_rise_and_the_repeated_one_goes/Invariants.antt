use Rattle.std.proofs.Common.{◌≡◌, true, All}
use Rattle.mbqi_values.specs.declared.value.Value.TheVariants.{Truth}
use Rattle.function_model.specs.declared.model.Row.{Row}
use Rattle.function_model.proofs.tests.rows_rise_and_the_repeated_one_goes.Given as goal

abbrev pub invariant-loop-place : goal.invariant-loop-place
invariant-loop-place g l = All (λ (row : Row). row.value ≡ Truth true) l.rows.items
