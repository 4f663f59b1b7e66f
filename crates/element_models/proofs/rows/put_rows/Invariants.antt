use Rattle.std.proofs.Common.{◌≡◌, length, drop}
use Rattle.element_models.specs.Filling.{with_rows}
use Rattle.element_models.proofs.rows.put_rows.Given as goal

-- what is put so far, with the rows to come, is all
abbrev pub invariant-loop-at : goal.invariant-loop-at
invariant-loop-at l = record {
  all : with_rows l.tables.items (drop l.at l.atoms) (drop l.at l.truths) ≡ with_rows l.fn.tables.items l.atoms l.truths;
  many : length l.tables.items ≡ length l.fn.tables.items;
}
