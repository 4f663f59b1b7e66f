-- The pair is at none of the places passed.
use Rattle.std.proofs.Common.{◌≢◌, ℕ, ◌<◌, Some, slice_get}
use Rattle.mbqi_terms.proofs.store.parts.place_of_pair.Given as goal

abbrev pub invariant-loop-i : goal.invariant-loop-i
invariant-loop-i l = (k : ℕ) → k < l.i → slice_get l.pairs k ≢ Some (record { left = l.left; right = l.right })
