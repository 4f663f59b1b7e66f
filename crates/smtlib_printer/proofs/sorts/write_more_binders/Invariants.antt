use Rattle.std.proofs.Common.{◌≡◌, ◌++◌, map, take}
use Rattle.smtlib_printer.specs.Text.{binder_text, spaced_rest}
use Rattle.smtlib_printer.proofs.sorts.write_more_binders.Given as goal

abbrev pub invariant-loop-binder : goal.invariant-loop-binder
invariant-loop-binder l = l.into.items ≡ l.fn.into.items ++ spaced_rest (map (binder_text l.script l.marks) (take l.binder-index l.binders))
