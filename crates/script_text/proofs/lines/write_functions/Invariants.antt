use Rattle.std.proofs.Common.{◌≡◌, ◌++◌, take}
use Rattle.std.specs.List.{flat_map}
use Rattle.script_text.specs.Text.{function_line}
use Rattle.script_text.proofs.lines.write_functions.Given as goal

abbrev pub invariant-loop-function : goal.invariant-loop-function
invariant-loop-function l = l.into.items ≡ l.fn.into.items ++ flat_map (function_line l.script) (take l.function-index l.functions)
