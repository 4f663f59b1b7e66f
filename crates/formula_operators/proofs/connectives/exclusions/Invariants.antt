-- What was joined, with the formulas that are left, is the whole.
use Rattle.std.proofs.Common.{◌≡◌, length}
use Rattle.smtlib_terms.specs.Operators.{unlike}
use Rattle.formula_operators.proofs.connectives.exclusions.Given as goal

abbrev pub invariant-loop-f : goal.invariant-loop-f
invariant-loop-f l = unlike l.joined l.others ≡ unlike l.fn.first l.fn.others

abbrev pub decreases-loop-f : goal.decreases-loop-f
decreases-loop-f l = length l.others
