use Rattle.std.proofs.Common.{◌≡◌, ◌++◌, map, take}
use Rattle.smtlib_printer.specs.Text.{formula_text_with, spaced_rest}
use Rattle.smtlib_printer.proofs.formulas.+write_formula.Given as goal

abbrev pub invariant-write_more_formulas-loop-f : goal.invariant-write_more_formulas-loop-f
invariant-write_more_formulas-loop-f l = l.into.items ≡ l.fn.into.items ++ spaced_rest (map (formula_text_with l.script l.marks) (take l.f-index l.formulas))
