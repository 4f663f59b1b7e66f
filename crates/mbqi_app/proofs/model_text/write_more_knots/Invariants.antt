use Rattle.std.proofs.Common.{◌≡◌, ◌++◌, map, take}
use Rattle.smtlib_printer.specs.Text.{spaced_rest}
use Rattle.mbqi_app.specs.ModelText.{values_text}
use Rattle.mbqi_app.proofs.model_text.write_more_knots.Given as goal

abbrev pub invariant-loop-values : goal.invariant-loop-values
invariant-loop-values l = l.into.items ≡ l.fn.into.items ++ spaced_rest (map values_text (take l.values-index l.knots))
