use Rattle.std.proofs.Common.{◌≡◌, ◌+◌, ◌-◌, ◌≤◌, length, drop}
use Rattle.sexpr_text.specs.Front.{content_len}
use Rattle.sexpr_text.proofs.lexer.content_len.Given as goal

abbrev pub invariant-loop-quote : goal.invariant-loop-quote
invariant-loop-quote l = (l.at ≤ length l.rest) × (content_len l.rest ≡ l.at + content_len (drop l.at l.rest))

abbrev pub decreases-loop-quote : goal.decreases-loop-quote
decreases-loop-quote l = length l.rest - l.at
