use Rattle.std.proofs.Common.{◌≡◌, drop}
use Rattle.function_model.specs.Lookup.{value_at}
use Rattle.function_model.proofs.look_up.value_at.Given as goal

-- no row so far is at the knots
abbrev pub invariant-loop-row : goal.invariant-loop-row
invariant-loop-row l = value_at (drop l.row-index l.rows) l.knots l.args l.default ≡ value_at l.rows l.knots l.args l.default
