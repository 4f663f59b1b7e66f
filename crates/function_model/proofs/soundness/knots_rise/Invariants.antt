use Rattle.std.proofs.Common.{◌≡◌, drop}
use Rattle.function_model.specs.Soundness.{knots_rise_behind}
use Rattle.function_model.proofs.soundness.knots_rise.Given as goal

-- the knots so far rise
abbrev pub invariant-loop-knot : goal.invariant-loop-knot
invariant-loop-knot l = knots_rise_behind l.last (drop l.knot-index l.others) ≡ knots_rise_behind l.initial.last l.others
