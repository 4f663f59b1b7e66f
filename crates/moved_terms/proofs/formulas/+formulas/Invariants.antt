-- What was moved is the list as far as the loop has come.
use Rattle.std.proofs.Common.{◌≡◌, map, take}
use Rattle.moved_terms.proofs.formulas.+formulas.Given as goal
use Rattle.smtlib_terms.specs.Meaning.{shifted_formula}

abbrev pub invariant-moved_formulas-loop-f : goal.invariant-moved_formulas-loop-f
invariant-moved_formulas-loop-f l = l.moved ≡ map (shifted_formula l.shift.from l.shift.by) (take l.f-index l.formulas)
