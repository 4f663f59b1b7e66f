-- The digest so far with those of the parts to come is that of all.
use Rattle.std.proofs.Common.{◌≡◌, drop, map}
use Rattle.ground_form.specs.Digests.{digest_of, mixed_all}
use Rattle.ground_form.proofs.digest.+formula.Given as goal

abbrev pub invariant-formulas_digest-loop-part : goal.invariant-formulas_digest-loop-part
invariant-formulas_digest-loop-part l = mixed_all l.digest (map digest_of (drop l.part-index l.parts)) ≡ mixed_all l.start (map digest_of l.parts)
