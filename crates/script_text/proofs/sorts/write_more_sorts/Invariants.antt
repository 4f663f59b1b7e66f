use Rattle.std.proofs.Common.{◌≡◌, ◌++◌, map, take}
use Rattle.smtlib_printer.specs.Text.{sort_text, spaced_rest}
use Rattle.script_text.proofs.sorts.write_more_sorts.Given as goal

abbrev pub invariant-loop-sort : goal.invariant-loop-sort
invariant-loop-sort l = l.into.items ≡ l.fn.into.items ++ spaced_rest (map (sort_text l.script) (take l.sort-index l.sorts))
