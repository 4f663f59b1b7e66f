use Rattle.std.proofs.Common.{◌≡◌, drop}
use Rattle.function_model.specs.Lookup.{greatest_up_to}
use Rattle.function_model.proofs.look_up.greatest_up_to.Given as goal

abbrev pub invariant-loop-knot : goal.invariant-loop-knot
invariant-loop-knot l = greatest_up_to l.best (drop l.knot-index l.knots) l.value ≡ greatest_up_to l.fn.least l.knots l.value
