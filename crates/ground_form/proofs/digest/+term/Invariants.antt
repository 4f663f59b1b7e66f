-- The digest so far with those of the trees to come is that of all.
use Rattle.std.proofs.Common.{◌≡◌, drop, map}
use Rattle.ground_form.specs.Digests.{array_digest, mixed_all, term_digest}
use Rattle.ground_form.proofs.digest.+term.Given as goal

abbrev pub invariant-arrays_digest-loop-array : goal.invariant-arrays_digest-loop-array
invariant-arrays_digest-loop-array l = mixed_all l.digest (map array_digest (drop l.array-index l.arrays)) ≡ mixed_all l.start (map array_digest l.arrays)

abbrev pub invariant-terms_digest-loop-term : goal.invariant-terms_digest-loop-term
invariant-terms_digest-loop-term l = mixed_all l.digest (map term_digest (drop l.term-index l.terms)) ≡ mixed_all l.start (map term_digest l.terms)
