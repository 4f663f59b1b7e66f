use Rattle.std.proofs.Common.{◌≡◌, length, take}
use Rattle.sexpr_text.proofs.equality.+same.Given as goal

abbrev pub invariant-same_trees-loop-i : goal.invariant-same_trees-loop-i
invariant-same_trees-loop-i l = (length l.left ≡ length l.right) × (take l.i l.left ≡ take l.i l.right)
