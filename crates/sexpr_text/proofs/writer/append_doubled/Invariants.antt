use Rattle.std.proofs.Common.{◌≡◌, ◌++◌, take}
use Rattle.sexpr_text.specs.Text.{doubled}
use Rattle.sexpr_text.proofs.writer.append_doubled.Given as goal

abbrev pub invariant-loop-byte : goal.invariant-loop-byte
invariant-loop-byte l = l.into.items ≡ l.initial.into.items ++ doubled (take l.byte-index l.text)
