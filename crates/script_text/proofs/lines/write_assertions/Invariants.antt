use Rattle.std.proofs.Common.{◌≡◌, ◌++◌, take}
use Rattle.std.specs.List.{flat_map}
use Rattle.script_text.specs.Text.{assertion_line}
use Rattle.script_text.proofs.lines.write_assertions.Given as goal

abbrev pub invariant-loop-assertion : goal.invariant-loop-assertion
invariant-loop-assertion l = l.into.items ≡ l.fn.into.items ++ flat_map (assertion_line l.script l.marks) (take l.assertion-index l.assertions)
