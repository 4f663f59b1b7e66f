-- The numbers so far are those of the terms as far as the loop has come.
use Rattle.std.proofs.Common.{take}
use Rattle.std.specs.List.{AllZip}
use Rattle.element_atoms.specs.Numbering.{IsNumberOf}
use Rattle.element_atoms.proofs.clauses.numbers_of.Given as goal

abbrev pub invariant-loop-term : goal.invariant-loop-term
invariant-loop-term l = AllZip (IsNumberOf l.pool.terms) l.ids (take l.term-index l.terms)
