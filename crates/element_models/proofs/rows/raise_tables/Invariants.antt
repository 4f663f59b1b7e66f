use Rattle.std.proofs.Common.{◌≡◌, ℕ, ◌<◌, ◌≤◌, length, get_or}
use Rattle.function_model.specs.declared.model.Table.{Table}
use Rattle.element_models.specs.Filling.{IsRaised}
use Rattle.element_models.proofs.rows.raise_tables.Given as goal

-- the tables so far are raised, and the others are as before
abbrev pub invariant-loop-table : goal.invariant-loop-table
invariant-loop-table l = record {
  raised : (k : ℕ) → k < l.table-index → (d : Table) → IsRaised (get_or l.fn.tables.items k d) (get_or l.table-items k d);
  given : (k : ℕ) → l.table-index ≤ k → (d : Table) → get_or l.table-items k d ≡ get_or l.fn.tables.items k d;
  many : length l.table-items ≡ length l.fn.tables.items;
}
