-- What was read, with what the arguments that are left mean, is what all mean.
use Rattle.std.proofs.Common.{◌≡◌, length}
use Rattle.smtlib_terms.specs.Operators.{as_integers}
use Rattle.smtlib_terms.specs.Steps.{behind}
use Rattle.operator_arguments.specs.Measured.{meanings_of}
use Rattle.operator_arguments.proofs.arguments.as_integers.Given as goal

abbrev pub invariant-loop-m : goal.invariant-loop-m
invariant-loop-m l = as_integers (meanings_of l.fn.args) ≡ behind l.integers (as_integers (meanings_of l.args))

abbrev pub decreases-loop-m : goal.decreases-loop-m
decreases-loop-m l = length l.args
