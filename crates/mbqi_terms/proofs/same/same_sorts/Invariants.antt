-- The lists are of one length, and they agree as far as the loop has come.
use Rattle.std.proofs.Common.{◌≡◌, length, take}
use Rattle.mbqi_terms.proofs.same.same_sorts.Given as goal

abbrev pub invariant-loop-i : goal.invariant-loop-i
invariant-loop-i l = (length l.a ≡ length l.b) × (take l.i l.a ≡ take l.i l.b)
