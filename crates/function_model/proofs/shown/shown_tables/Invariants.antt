use Rattle.std.proofs.Common.{◌≡◌, take}
use Rattle.std.specs.Prelude.{filter}
use Rattle.function_model.specs.Shown.{is_shown}
use Rattle.function_model.proofs.shown.shown_tables.Given as goal

abbrev pub invariant-loop-table : goal.invariant-loop-table
invariant-loop-table l = l.copies ≡ filter (λ table. is_shown table.name) (take l.table-index l.tables)
