-- The clauses that define the formulas as far as the loop has come stand behind those that were there.
use Rattle.std.proofs.Common.{take}
use Rattle.std.specs.List.{AllZip, flat_map}
use Rattle.ground_form.specs.Clauses.{AddsClauses, GrowsBy, IsLitOf}
use Rattle.ground_form.specs.Definitions.{definitions_in, parts_in}
use Rattle.ground_form.proofs.clauses.+definitions.Given as goal

abbrev pub invariant-push_all_definitions-loop-at : goal.invariant-push_all_definitions-loop-at
invariant-push_all_definitions-loop-at l = record {
  grows : GrowsBy (flat_map parts_in l.parts) l.fn.table l.table;
  clauses : AllZip (IsLitOf l.fn.table) l.lits l.parts → AddsClauses l.table l.fn.clauses l.clauses (flat_map definitions_in (take l.at l.parts));
}
