-- The formulas so far, with those of the integers that are left, are those of all.
use Rattle.std.proofs.Common.{◌≡◌, ◌++◌, drop}
use Rattle.smtlib_terms.specs.Operators.{chained}
use Rattle.formula_operators.specs.Steps.{order_of}
use Rattle.formula_operators.proofs.relations.order_chain.Given as goal

abbrev pub invariant-loop-next : goal.invariant-loop-next
invariant-loop-next l = l.parts ++ chained (order_of l.word) l.last (drop l.next-index l.others) ≡ chained (order_of l.word) l.initial.last l.others
