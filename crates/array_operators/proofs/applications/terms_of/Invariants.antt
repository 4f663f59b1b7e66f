-- The terms so far, with those of the arguments that are left, are those of all.
use Rattle.std.proofs.Common.{◌≡◌, length}
use Rattle.smtlib_terms.specs.Applying.{terms_of}
use Rattle.smtlib_terms.specs.Steps.{behind}
use Rattle.operator_arguments.specs.Measured.{meanings_of}
use Rattle.array_operators.proofs.applications.terms_of.Given as goal

abbrev pub invariant-loop-m : goal.invariant-loop-m
invariant-loop-m l = terms_of (meanings_of l.fn.args) ≡ behind l.terms (terms_of (meanings_of l.args))

abbrev pub decreases-loop-m : goal.decreases-loop-m
decreases-loop-m l = length l.args
