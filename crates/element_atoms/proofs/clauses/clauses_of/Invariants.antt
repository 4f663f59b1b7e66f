-- The clauses so far are those of the formulas as far as the loop has come.
use Rattle.std.proofs.Common.{take, All}
use Rattle.std.specs.List.{AllZip}
use Rattle.element_atoms.specs.Atoms.{IsOver, formulas_in}
use Rattle.element_atoms.specs.Numbering.{Extends, IsClauseOf}
use Rattle.element_atoms.proofs.clauses.clauses_of.Given as goal

abbrev pub invariant-loop-line : goal.invariant-loop-line
invariant-loop-line l = record {
  clauses : AllZip (IsClauseOf l.pool.terms l.table) l.clauses (take l.line-index (formulas_in l.lines));
  over : All (IsOver l.functions l.pool.terms) l.table;
  kept : Extends l.fn.table l.table;
}
