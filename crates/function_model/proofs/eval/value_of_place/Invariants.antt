use Rattle.std.proofs.Common.{◌≡◌, drop}
use Rattle.function_model.specs.Points.{point_of}
use Rattle.function_model.proofs.eval.value_of_place.Given as goal

-- no binder so far has the place
abbrev pub invariant-loop-at : goal.invariant-loop-at
invariant-loop-at l = point_of (drop l.at l.binders) (drop l.at l.point) l.place ≡ point_of l.binders l.point l.place
