-- What was copied is the list as far as the loop has come.
use Rattle.std.proofs.Common.{◌≡◌, take}
use Rattle.moved_terms.proofs.copies.+copies.Given as goal

abbrev pub invariant-copied_arrays-loop-a : goal.invariant-copied_arrays-loop-a
invariant-copied_arrays-loop-a l = l.copies ≡ take l.a-index l.arrays

abbrev pub invariant-copied_terms-loop-t : goal.invariant-copied_terms-loop-t
invariant-copied_terms-loop-t l = l.copies ≡ take l.t-index l.terms
