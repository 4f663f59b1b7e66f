use Rattle.std.proofs.Common.{◌≡◌, drop}
use Rattle.function_model.specs.Lookup.{is_at}
use Rattle.function_model.proofs.look_up.is_at.Given as goal

-- each place so far is its knot
abbrev pub invariant-loop-at : goal.invariant-loop-at
invariant-loop-at l = is_at (drop l.at l.places) (drop l.at l.knots) (drop l.at l.args) ≡ is_at l.places l.knots l.args
