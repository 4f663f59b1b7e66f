use Rattle.std.proofs.Common.{◌≡◌, ◌++◌, replicate}
use Rattle.smtlib_printer.proofs.names.write_variable.Given as goal

abbrev pub invariant-loop-at : goal.invariant-loop-at
invariant-loop-at l = l.into.items ≡ l.fn.into.items ++ replicate l._at 63
