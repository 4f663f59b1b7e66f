use Rattle.std.proofs.Common.{◌≡◌, drop}
use Rattle.function_model.specs.Fits.{rank_of_places}
use Rattle.function_model.proofs.rising.rank_places.Given as goal

-- the places so far are the same
abbrev pub invariant-loop-at : goal.invariant-loop-at
invariant-loop-at l = rank_of_places (drop l.at l.left) (drop l.at l.right) ≡ rank_of_places l.left l.right
