-- Each text by its kind's lemma, given the parts.
use Rattle.std.proofs.Common.{arith, codes, ap, ◌∙◌}
use Rattle.std.proofs.lemmas.Grind.{common_steps}
use Rattle.smtlib_printer.specs.Text.{array_text_with, sort_text, term_text_with}
use Rattle.smtlib_printer.proofs.Pieces.{five_pieces, of_part, seven_pieces, written}
use Rattle.smtlib_printer.proofs.TermTexts.{const_text, map_is_text, store_text}
use Rattle.smtlib_printer.proofs.terms.+write.Goals as goal

pub write_array_with-returns-in_ok-write_term_with-in-Const-clause-ok :
    goal.write_array_with-returns-in_ok-write_term_with-in-Const-clause-ok
write_array_with-returns-in_ok-write_term_with-in-Const-clause-ok t c =
    written c.extend_from_slice-in-Const-3.result _ _ _ _ c.extend_from_slice-in-Const-3.ensures.items
    (five_pieces c.args.into.now.items
    c.extend_from_slice-in-Const.new.self.items c.write_sort.new.into.items c.extend_from_slice-in-Const-2.new.self.items c.write_term_with-in-Const.new.into.items
    (codes "((as const ") (sort_text c.args.script.now c.in-Const.sort) (codes ") ") (term_text_with c.args.script.now c.args.marks c.in-Const.v) (codes ")") _
    c.in_ok-extend_from_slice-in-Const.ensures.items
    c.in_ok-write_sort-in-Const.ensures.ok
    c.in_ok-extend_from_slice-in-Const-2.ensures.items
    (of_part (term_text_with c.args.script.now c.args.marks) c.get-in-Const.result.now c.in-Const.v c.extend_from_slice-in-Const-2.new.self.items c.write_term_with-in-Const.new.into.items c.in_ok-write_term_with-in-Const.ensures.ok c.get-in-Const.ensures)
    (ap (array_text_with c.args.script.now c.args.marks) c.in-Const.is ∙ const_text c.args.script.now c.args.marks c.in-Const.sort c.in-Const.v))

pub write_array_with-returns-in_ok-write_more_arrays-in-Map-clause-ok :
    goal.write_array_with-returns-in_ok-write_more_arrays-in-Map-clause-ok
write_array_with-returns-in_ok-write_more_arrays-in-Map-clause-ok t c =
    let text = map_is_text c.args.script.now c.args.marks c.in-Map.op c.in-Map.arrays in
    grind (arith, common_steps)

pub write_array_with-returns-in_ok-write_term_with-in-Store-2-clause-ok :
    goal.write_array_with-returns-in_ok-write_term_with-in-Store-2-clause-ok
write_array_with-returns-in_ok-write_term_with-in-Store-2-clause-ok t c =
    written c.extend_from_slice-in-Store-3.result _ _ _ _ c.extend_from_slice-in-Store-3.ensures.items
    (seven_pieces c.args.into.now.items
    c.extend_from_slice.new.self.items c.write_array_with.new.into.items c.extend_from_slice-in-Store.new.self.items c.write_term_with.new.into.items c.extend_from_slice-in-Store-2.new.self.items c.write_term_with-in-Store.new.into.items
    (codes "(store ") (array_text_with c.args.script.now c.args.marks c.in-Store.a) (codes " ") (term_text_with c.args.script.now c.args.marks c.in-Store.i) (codes " ") (term_text_with c.args.script.now c.args.marks c.in-Store.v) (codes ")") _
    c.in_ok-extend_from_slice-in-Store.ensures.items
    (of_part (array_text_with c.args.script.now c.args.marks) c.get.result.now c.in-Store.a c.extend_from_slice.new.self.items c.write_array_with.new.into.items c.in_ok-write_array_with-in-Store.ensures.ok c.get.ensures)
    c.in_ok-extend_from_slice-in-Store-2.ensures.items
    (of_part (term_text_with c.args.script.now c.args.marks) c.get-in-Store.result.now c.in-Store.i c.extend_from_slice-in-Store.new.self.items c.write_term_with.new.into.items c.in_ok-write_term_with-in-Store.ensures.ok c.get-in-Store.ensures)
    c.in_ok-extend_from_slice-in-Store-3.ensures.items
    (of_part (term_text_with c.args.script.now c.args.marks) c.get-in-Store-2.result.now c.in-Store.v c.extend_from_slice-in-Store-2.new.self.items c.write_term_with-in-Store.new.into.items c.in_ok-write_term_with-in-Store-2.ensures.ok c.get-in-Store-2.ensures)
    (ap (array_text_with c.args.script.now c.args.marks) c.in-Store.is ∙ store_text c.args.script.now c.args.marks c.in-Store.a c.in-Store.i c.in-Store.v))
