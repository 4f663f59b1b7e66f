-- What was copied is the list as far as the loop has come.
use Rattle.std.proofs.Common.{◌≡◌, take}
use Rattle.mbqi_terms.proofs.copy.+copy.Given as goal

abbrev pub invariant-copy_array_terms-loop-a : goal.invariant-copy_array_terms-loop-a
invariant-copy_array_terms-loop-a l = l.copies ≡ take l.a-index l.arrays

abbrev pub invariant-copy_terms-loop-t : goal.invariant-copy_terms-loop-t
invariant-copy_terms-loop-t l = l.copies ≡ take l.t-index l.terms
