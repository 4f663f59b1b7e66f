use Rattle.std.proofs.Common.{true}
use Rattle.mbqi_values.specs.declared.value.Value.TheVariants.{Truth}
use Rattle.function_model.proofs.RowOrder.{agree_by}
use Rattle.function_model.proofs.tests.rows_rise_and_the_repeated_one_goes.Goals as goal

pub rising_rows-requires : goal.rising_rows-requires
rising_rows-requires g c = agree_by (λ places. Truth true) c.loop-place.rows.items c.loop-place.invariant
