use Rattle.std.proofs.Common.{◌≡◌, ◌++◌, drop}
use Rattle.std.specs.Io.{StartsWith}
use Rattle.mbqi_app.specs.ModelText.{tables_text}
use Rattle.mbqi_app.proofs.model_text.write_tables.Given as goal

-- the lines so far and those to come are all, behind what was held
abbrev pub invariant-loop-at : goal.invariant-loop-at
invariant-loop-at l =
    (l.into.items ++ tables_text (drop l.at l.functions) (drop l.at l.tables) ≡ l.fn.into.items ++ tables_text l.functions l.tables)
    × StartsWith l.into.items l.fn.into.items
