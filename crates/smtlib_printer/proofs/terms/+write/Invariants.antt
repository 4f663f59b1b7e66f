use Rattle.std.proofs.Common.{◌≡◌, ◌++◌, map, take}
use Rattle.smtlib_printer.specs.Text.{array_text_with, spaced_rest, term_text_with}
use Rattle.smtlib_printer.proofs.terms.+write.Given as goal

abbrev pub invariant-write_more_arrays-loop-a : goal.invariant-write_more_arrays-loop-a
invariant-write_more_arrays-loop-a l = l.into.items ≡ l.fn.into.items ++ spaced_rest (map (array_text_with l.script l.marks) (take l.a-index l.arrays))

abbrev pub invariant-write_more_terms-loop-t : goal.invariant-write_more_terms-loop-t
invariant-write_more_terms-loop-t l = l.into.items ≡ l.fn.into.items ++ spaced_rest (map (term_text_with l.script l.marks) (take l.t-index l.terms))
