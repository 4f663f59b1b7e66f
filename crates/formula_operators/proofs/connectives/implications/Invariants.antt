-- The formulas that are left, with what was joined as the last one, mean what all mean.
use Rattle.std.proofs.Common.{◌≡◌, ◌++◌, [], ◌∷◌, vec_len}
use Rattle.smtlib_terms.specs.Operators.{implication_of}
use Rattle.formula_operators.proofs.connectives.implications.Given as goal

abbrev pub invariant-loop-f : goal.invariant-loop-f
invariant-loop-f l = implication_of (l.formulas.items ++ l.joined ∷ []) ≡ implication_of (l.fn.formulas ++ l.fn.last ∷ [])

abbrev pub decreases-loop-f : goal.decreases-loop-f
decreases-loop-f l = vec_len l.formulas
