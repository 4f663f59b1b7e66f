-- The formulas so far, with those of the meanings that are left, are those of all.
use Rattle.std.proofs.Common.{◌≡◌, ◌++◌, length}
use Rattle.smtlib_terms.specs.Operators.{inequality, pairs}
use Rattle.operator_arguments.specs.Measured.{meanings_of}
use Rattle.formula_operators.proofs.relations.inequalities.Given as goal

abbrev pub invariant-loop-rest : goal.invariant-loop-rest
invariant-loop-rest l = l.parts ++ pairs inequality (meanings_of l.rest) ≡ pairs inequality (meanings_of l.args)

abbrev pub decreases-loop-rest : goal.decreases-loop-rest
decreases-loop-rest l = length l.rest
