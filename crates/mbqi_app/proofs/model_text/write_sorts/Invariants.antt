use Rattle.std.proofs.Common.{◌≡◌, ◌++◌, drop}
use Rattle.std.specs.Io.{StartsWith}
use Rattle.mbqi_app.specs.ModelText.{sorts_text}
use Rattle.mbqi_app.proofs.model_text.write_sorts.Given as goal

-- the lines so far and those to come are all, behind what was held
abbrev pub invariant-loop-at : goal.invariant-loop-at
invariant-loop-at l =
    (l.into.items ++ sorts_text (drop l.at l.names) (drop l.at l.sizes) ≡ l.fn.into.items ++ sorts_text l.names l.sizes)
    × StartsWith l.into.items l.fn.into.items
