-- A number past its limit stands in the meanings that are left exactly where one stands in all.
use Rattle.std.proofs.Common.{◌≡◌, drop}
use Rattle.std.specs.List.{list_any}
use Rattle.smtlib_terms.specs.Operators.{is_wide}
use Rattle.operator_arguments.specs.Measured.{meanings_of}
use Rattle.term_operators.proofs.by_word.any_wide.Given as goal

abbrev pub invariant-loop-m : goal.invariant-loop-m
invariant-loop-m l = list_any is_wide (meanings_of (drop l.m-index l.args)) ≡ list_any is_wide (meanings_of l.args)
