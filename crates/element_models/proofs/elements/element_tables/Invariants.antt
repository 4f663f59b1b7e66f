use Rattle.std.proofs.Common.{◌≡◌, ◌≤◌, ◌++◌, drop}
use Rattle.element_models.specs.Elements.{no_rows, tables_from}
use Rattle.element_models.proofs.elements.element_tables.Given as goal

-- the tables so far and those of the functions to come are all
abbrev pub invariant-loop-number : goal.invariant-loop-number
invariant-loop-number l = record {
  all : l.tables.items ++ tables_from no_rows l.number l.element l.size (drop l.number l.functions) ≡ tables_from no_rows 0 0 l.size l.functions;
  few : l.element ≤ l.number;
}
