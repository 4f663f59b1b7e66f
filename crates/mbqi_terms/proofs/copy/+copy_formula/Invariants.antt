-- What was copied is the list as far as the loop has come.
use Rattle.std.proofs.Common.{◌≡◌, take}
use Rattle.mbqi_terms.proofs.copy.+copy_formula.Given as goal

abbrev pub invariant-copy_formulas-loop-f : goal.invariant-copy_formulas-loop-f
invariant-copy_formulas-loop-f l = l.copies ≡ take l.f-index l.formulas
