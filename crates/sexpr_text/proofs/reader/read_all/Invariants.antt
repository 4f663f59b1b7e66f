use Rattle.std.proofs.Common.{◌≡◌, ◌≤◌, ◌-◌, length, drop}
use Rattle.sexpr_text.specs.Lexis.{lexed, lexed_from}
use Rattle.sexpr_text.specs.Reading.{read_from}
use Rattle.sexpr_text.proofs.reader.read_all.Given as goal

abbrev pub invariant-loop-at : goal.invariant-loop-at
invariant-loop-at l =
    (l.at ≤ length l.bytes) × (read_from l.initial.reader (lexed l.bytes) ≡ read_from l.reader (lexed_from 0 l.at (drop l.at l.bytes)))

abbrev pub decreases-loop-at : goal.decreases-loop-at
decreases-loop-at l = length l.bytes - l.at
