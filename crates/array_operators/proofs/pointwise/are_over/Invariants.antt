-- The places and arguments that are left fit exactly where all do.
use Rattle.std.proofs.Common.{◌≡◌, length}
use Rattle.smtlib_terms.specs.Applying.{are_over}
use Rattle.operator_arguments.specs.Measured.{meanings_of}
use Rattle.array_operators.proofs.pointwise.are_over.Given as goal

abbrev pub invariant-loop-places : goal.invariant-loop-places
invariant-loop-places l = are_over l.index l.places (meanings_of l.args) ≡ are_over l.index l.fn.places (meanings_of l.fn.args)

abbrev pub decreases-loop-places : goal.decreases-loop-places
decreases-loop-places l = length l.places
