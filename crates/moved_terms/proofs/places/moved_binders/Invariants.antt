-- What was moved is the list as far as the loop has come.
use Rattle.std.proofs.Common.{◌≡◌, map, take}
use Rattle.moved_terms.proofs.places.moved_binders.Given as goal
use Rattle.smtlib_terms.specs.Meaning.{shifted_binder}

abbrev pub invariant-loop-binder : goal.invariant-loop-binder
invariant-loop-binder l = l.moved ≡ map (shifted_binder l.shift.from l.shift.by) (take l.binder-index l.binders)
