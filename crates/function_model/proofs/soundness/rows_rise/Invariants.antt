use Rattle.std.proofs.Common.{◌≡◌, drop}
use Rattle.function_model.specs.Soundness.{rows_rise_behind}
use Rattle.function_model.proofs.soundness.rows_rise.Given as goal

-- the rows so far rise
abbrev pub invariant-loop-row : goal.invariant-loop-row
invariant-loop-row l = rows_rise_behind l.last (drop l.row-index l.others) ≡ rows_rise_behind l.initial.last l.others
