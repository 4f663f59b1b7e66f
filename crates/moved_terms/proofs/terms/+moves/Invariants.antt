-- What was moved is the list as far as the loop has come.
use Rattle.std.proofs.Common.{◌≡◌, map, take}
use Rattle.moved_terms.proofs.terms.+moves.Given as goal
use Rattle.moved_terms.specs.Moves.{shifted_array}
use Rattle.smtlib_terms.specs.Meaning.{shifted_term}

abbrev pub invariant-moved_args-loop-t : goal.invariant-moved_args-loop-t
invariant-moved_args-loop-t l = l.moved ≡ map (shifted_term l.shift.from l.shift.by) (take l.t-index l.terms)

abbrev pub invariant-moved_arrays-loop-a : goal.invariant-moved_arrays-loop-a
invariant-moved_arrays-loop-a l = l.moved ≡ map (shifted_array l.shift.from l.shift.by) (take l.a-index l.arrays)
