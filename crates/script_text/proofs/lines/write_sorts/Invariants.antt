use Rattle.std.proofs.Common.{◌≡◌, ◌++◌, take}
use Rattle.std.specs.List.{flat_map}
use Rattle.script_text.specs.Text.{sort_line}
use Rattle.script_text.proofs.lines.write_sorts.Given as goal

abbrev pub invariant-loop-name : goal.invariant-loop-name
invariant-loop-name l = l.into.items ≡ l.fn.into.items ++ flat_map sort_line (take l.name-index l.names)
