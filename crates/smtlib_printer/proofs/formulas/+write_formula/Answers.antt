-- Each text by its kind's lemma, given the parts.
use Rattle.std.proofs.Common.{codes, ap, ◌∙◌}
use Rattle.smtlib_printer.specs.Text.{formula_text_with}
use Rattle.smtlib_printer.proofs.Pieces.{five_pieces, of_part, seven_pieces, written}
use Rattle.smtlib_printer.proofs.FormulaTexts.{choose_text, iff_text}
use Rattle.smtlib_printer.proofs.formulas.+write_formula.Goals as goal

pub write_formula_with-returns-in_ok-write_formula_with-in-Iff-2-clause-ok :
    goal.write_formula_with-returns-in_ok-write_formula_with-in-Iff-2-clause-ok
write_formula_with-returns-in_ok-write_formula_with-in-Iff-2-clause-ok t c =
    written c.extend_from_slice-in-Iff-3.result _ _ _ _ c.extend_from_slice-in-Iff-3.ensures.items
    (five_pieces c.args.into.now.items
    c.extend_from_slice-in-Iff.new.self.items c.write_formula_with-in-Iff.new.into.items c.extend_from_slice-in-Iff-2.new.self.items c.write_formula_with-in-Iff-2.new.into.items
    (codes "(= ") (formula_text_with c.args.script.now c.args.marks c.in-Iff.f) (codes " ") (formula_text_with c.args.script.now c.args.marks c.in-Iff.g) (codes ")") _
    c.in_ok-extend_from_slice-in-Iff.ensures.items
    (of_part (formula_text_with c.args.script.now c.args.marks) c.get-in-Iff.result.now c.in-Iff.f c.extend_from_slice-in-Iff.new.self.items c.write_formula_with-in-Iff.new.into.items c.in_ok-write_formula_with-in-Iff.ensures.ok c.get-in-Iff.ensures)
    c.in_ok-extend_from_slice-in-Iff-2.ensures.items
    (of_part (formula_text_with c.args.script.now c.args.marks) c.get-in-Iff-2.result.now c.in-Iff.g c.extend_from_slice-in-Iff-2.new.self.items c.write_formula_with-in-Iff-2.new.into.items c.in_ok-write_formula_with-in-Iff-2.ensures.ok c.get-in-Iff-2.ensures)
    (ap (formula_text_with c.args.script.now c.args.marks) c.in-Iff.is ∙ iff_text c.args.script.now c.args.marks c.in-Iff.f c.in-Iff.g))

pub write_formula_with-returns-in_ok-write_formula_with-in-Choose-3-clause-ok :
    goal.write_formula_with-returns-in_ok-write_formula_with-in-Choose-3-clause-ok
write_formula_with-returns-in_ok-write_formula_with-in-Choose-3-clause-ok t c =
    written c.extend_from_slice-in-Choose-4.result _ _ _ _ c.extend_from_slice-in-Choose-4.ensures.items
    (seven_pieces c.args.into.now.items
    c.extend_from_slice-in-Choose.new.self.items c.write_formula_with-in-Choose.new.into.items c.extend_from_slice-in-Choose-2.new.self.items c.write_formula_with-in-Choose-2.new.into.items c.extend_from_slice-in-Choose-3.new.self.items c.write_formula_with-in-Choose-3.new.into.items
    (codes "(ite ") (formula_text_with c.args.script.now c.args.marks c.in-Choose.c) (codes " ") (formula_text_with c.args.script.now c.args.marks c.in-Choose.f) (codes " ") (formula_text_with c.args.script.now c.args.marks c.in-Choose.g) (codes ")") _
    c.in_ok-extend_from_slice-in-Choose.ensures.items
    (of_part (formula_text_with c.args.script.now c.args.marks) c.get-in-Choose.result.now c.in-Choose.c c.extend_from_slice-in-Choose.new.self.items c.write_formula_with-in-Choose.new.into.items c.in_ok-write_formula_with-in-Choose.ensures.ok c.get-in-Choose.ensures)
    c.in_ok-extend_from_slice-in-Choose-2.ensures.items
    (of_part (formula_text_with c.args.script.now c.args.marks) c.get-in-Choose-2.result.now c.in-Choose.f c.extend_from_slice-in-Choose-2.new.self.items c.write_formula_with-in-Choose-2.new.into.items c.in_ok-write_formula_with-in-Choose-2.ensures.ok c.get-in-Choose-2.ensures)
    c.in_ok-extend_from_slice-in-Choose-3.ensures.items
    (of_part (formula_text_with c.args.script.now c.args.marks) c.get-in-Choose-3.result.now c.in-Choose.g c.extend_from_slice-in-Choose-3.new.self.items c.write_formula_with-in-Choose-3.new.into.items c.in_ok-write_formula_with-in-Choose-3.ensures.ok c.get-in-Choose-3.ensures)
    (ap (formula_text_with c.args.script.now c.args.marks) c.in-Choose.is ∙ choose_text c.args.script.now c.args.marks c.in-Choose.c c.in-Choose.f c.in-Choose.g))
