-- The literals so far are those of the formulas as far as the loop has come.
use Rattle.std.proofs.Common.{◌≡◌, length, take}
use Rattle.std.specs.List.{AllZip, flat_map}
use Rattle.ground_form.specs.Clauses.{GrowsBy, IsLitOf}
use Rattle.ground_form.specs.Definitions.{parts_in}
use Rattle.ground_form.proofs.clauses.lits_of.Given as goal

abbrev pub invariant-loop-part : goal.invariant-loop-part
invariant-loop-part l = record {
  grows : GrowsBy (flat_map parts_in l.parts) l.fn.table l.table;
  lits : AllZip (IsLitOf l.table) l.lits (take l.part-index l.parts);
  count : length l.lits ≡ l.part-index;
}
