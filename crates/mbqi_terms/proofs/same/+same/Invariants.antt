-- The lists are of one length, and they agree as far as the loop has come.
use Rattle.std.proofs.Common.{◌≡◌, length, take}
use Rattle.mbqi_terms.proofs.same.+same.Given as goal

abbrev pub invariant-same_array_terms-loop-i : goal.invariant-same_array_terms-loop-i
invariant-same_array_terms-loop-i l = (length l.a ≡ length l.b) × (take l.i l.a ≡ take l.i l.b)

abbrev pub invariant-same_terms-loop-i : goal.invariant-same_terms-loop-i
invariant-same_terms-loop-i l = (length l.a ≡ length l.b) × (take l.i l.a ≡ take l.i l.b)
