-- The formulas so far, with those of the meanings that are left, are those of all.
use Rattle.std.proofs.Common.{◌≡◌, ◌++◌, map, drop}
use Rattle.smtlib_terms.specs.Operators.{inequality}
use Rattle.operator_arguments.specs.Measured.{meaning_of, meanings_of}
use Rattle.formula_operators.proofs.relations.differences.Given as goal

abbrev pub invariant-loop-n : goal.invariant-loop-n
invariant-loop-n l =
    l.parts ++ map (inequality (meaning_of l.m)) (meanings_of (drop l.n-index l.others))
    ≡ l.initial.parts ++ map (inequality (meaning_of l.m)) (meanings_of l.others)
