use Rattle.std.proofs.Common.{◌≡◌, ◌++◌, map, take}
use Rattle.smtlib_printer.specs.Text.{spaced_rest}
use Rattle.mbqi_app.specs.ModelText.{value_text}
use Rattle.mbqi_app.proofs.model_text.write_more_values.Given as goal

abbrev pub invariant-loop-value : goal.invariant-loop-value
invariant-loop-value l = l.into.items ≡ l.fn.into.items ++ spaced_rest (map value_text (take l.value-index l.values))
