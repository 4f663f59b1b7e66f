-- The array terms so far, with those of the arguments that are left, are those of all.
use Rattle.std.proofs.Common.{◌≡◌, ◌++◌, length}
use Rattle.smtlib_terms.specs.Applying.{arrays_of}
use Rattle.operator_arguments.specs.Measured.{meanings_of}
use Rattle.array_operators.proofs.pointwise.arrays_of.Given as goal

abbrev pub invariant-loop-m : goal.invariant-loop-m
invariant-loop-m l = l.arrays ++ arrays_of (meanings_of l.args) ≡ arrays_of (meanings_of l.fn.args)

abbrev pub decreases-loop-m : goal.decreases-loop-m
decreases-loop-m l = length l.args
