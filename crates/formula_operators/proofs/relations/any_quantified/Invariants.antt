-- A quantifier stands in the meanings that are left exactly where one stands in all.
use Rattle.std.proofs.Common.{◌≡◌, drop}
use Rattle.std.specs.List.{list_any}
use Rattle.smtlib_terms.specs.Operators.{is_quantified_meaning}
use Rattle.operator_arguments.specs.Measured.{meanings_of}
use Rattle.formula_operators.proofs.relations.any_quantified.Given as goal

abbrev pub invariant-loop-m : goal.invariant-loop-m
invariant-loop-m l = list_any is_quantified_meaning (meanings_of (drop l.m-index l.args)) ≡ list_any is_quantified_meaning (meanings_of l.args)
