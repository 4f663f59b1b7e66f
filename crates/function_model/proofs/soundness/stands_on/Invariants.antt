use Rattle.std.proofs.Common.{◌≡◌, drop}
use Rattle.function_model.specs.Soundness.{stands_on}
use Rattle.function_model.proofs.soundness.stands_on.Given as goal

-- each place so far is a knot
abbrev pub invariant-loop-at : goal.invariant-loop-at
invariant-loop-at l = stands_on (drop l.at l.knots) (drop l.at l.places) ≡ stands_on l.knots l.places
