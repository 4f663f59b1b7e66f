-- The literals so far are those of the formulas as far as the loop has come.
use Rattle.std.proofs.Common.{take, All}
use Rattle.std.specs.List.{AllZip}
use Rattle.element_atoms.specs.Atoms.{IsOver}
use Rattle.element_atoms.specs.Numbering.{Extends, IsLitOf}
use Rattle.element_atoms.proofs.clauses.lits_of.Given as goal

abbrev pub invariant-loop-literal : goal.invariant-loop-literal
invariant-loop-literal l = record {
  lits : AllZip (IsLitOf l.pool.terms l.table) l.lits (take l.literal-index l.literals);
  over : All (IsOver l.functions l.pool.terms) l.table;
  kept : Extends l.fn.table l.table;
}
