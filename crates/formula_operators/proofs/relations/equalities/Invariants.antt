-- The formulas so far, with those of the meanings that are left, are those of all.
use Rattle.std.proofs.Common.{◌≡◌, ◌++◌, drop}
use Rattle.smtlib_terms.specs.Operators.{chained, equality}
use Rattle.operator_arguments.specs.Measured.{meaning_of, meanings_of}
use Rattle.formula_operators.proofs.relations.equalities.Given as goal

abbrev pub invariant-loop-next : goal.invariant-loop-next
invariant-loop-next l =
    l.parts ++ chained equality (meaning_of l.last) (meanings_of (drop l.next-index l.others))
    ≡ chained equality (meaning_of l.initial.last) (meanings_of l.others)
