use Rattle.std.proofs.Common.{◌≡◌, ◌++◌, map, take}
use Rattle.smtlib_printer.specs.Text.{spaced_rest}
use Rattle.mbqi_app.specs.ModelText.{row_text}
use Rattle.mbqi_app.proofs.model_text.write_more_rows.Given as goal

abbrev pub invariant-loop-row : goal.invariant-loop-row
invariant-loop-row l = l.into.items ≡ l.fn.into.items ++ spaced_rest (map row_text (take l.row-index l.rows))
