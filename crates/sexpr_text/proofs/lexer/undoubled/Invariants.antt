use Rattle.std.proofs.Common.{◌≡◌, ◌++◌, ◌-◌, length, drop}
use Rattle.sexpr_text.specs.Front.{undoubled}
use Rattle.sexpr_text.proofs.lexer.undoubled.Given as goal

abbrev pub invariant-loop-at : goal.invariant-loop-at
invariant-loop-at l = l.text.items ++ undoubled (drop l.at l.content) ≡ undoubled l.content

abbrev pub decreases-loop-at : goal.decreases-loop-at
decreases-loop-at l = length l.content - l.at
