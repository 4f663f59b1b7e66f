-- The sorts and arguments that are left fit exactly where all do.
use Rattle.std.proofs.Common.{◌≡◌, length}
use Rattle.smtlib_terms.specs.Applying.{have_sorts}
use Rattle.operator_arguments.specs.Measured.{meanings_of}
use Rattle.array_operators.proofs.applications.have_sorts.Given as goal

abbrev pub invariant-loop-sorts : goal.invariant-loop-sorts
invariant-loop-sorts l = have_sorts l.sorts (meanings_of l.args) ≡ have_sorts l.fn.sorts (meanings_of l.fn.args)

abbrev pub decreases-loop-sorts : goal.decreases-loop-sorts
decreases-loop-sorts l = length l.sorts
