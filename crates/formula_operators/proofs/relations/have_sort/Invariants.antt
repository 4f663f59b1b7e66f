-- The meanings that are left have the sort exactly where all do.
use Rattle.std.proofs.Common.{◌≡◌, drop}
use Rattle.smtlib_terms.specs.Operators.{have_sort}
use Rattle.operator_arguments.specs.Measured.{meanings_of}
use Rattle.formula_operators.proofs.relations.have_sort.Given as goal

abbrev pub invariant-loop-m : goal.invariant-loop-m
invariant-loop-m l = have_sort l.sort (meanings_of (drop l.m-index l.args)) ≡ have_sort l.sort (meanings_of l.args)
