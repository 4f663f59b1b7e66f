-- What was gathered, with what is left, is the list.
use Rattle.std.proofs.Common.{◌≡◌, ◌++◌, length}
use Rattle.formula_operators.proofs.connectives.gathered.Given as goal

abbrev pub invariant-loop-f : goal.invariant-loop-f
invariant-loop-f l = l.parts ++ l.formulas ≡ l.fn.formulas

abbrev pub decreases-loop-f : goal.decreases-loop-f
decreases-loop-f l = length l.formulas
