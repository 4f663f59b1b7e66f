use Rattle.std.proofs.Common.{◌≡◌, ◌-◌}
use Rattle.smtlib_printer.specs.Names.{first_free, is_begun}
use Rattle.smtlib_printer.proofs.names.marks_of.Given as goal

-- the first free number from here on is the one from the start on
abbrev pub invariant-loop-marks : goal.invariant-loop-marks
invariant-loop-marks l = first_free (is_begun l.script) (l.end - l.marks) l.marks ≡ first_free (is_begun l.script) (l.end - 1) 1
