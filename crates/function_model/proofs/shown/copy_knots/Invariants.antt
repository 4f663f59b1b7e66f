use Rattle.std.proofs.Common.{◌≡◌, take}
use Rattle.function_model.proofs.shown.copy_knots.Given as goal

abbrev pub invariant-loop-values : goal.invariant-loop-values
invariant-loop-values l = l.copies ≡ take l.values-index l.knots
