-- What was left out is behind the next place, which is the last of the digest before some place.
use Rattle.std.proofs.Common.{◌≡◌, ◌≤◌, ℕ, length}
use Rattle.ground_form.specs.Chains.{formulas_of, last_before}
use Rattle.ground_form.specs.Digests.{digest_of}
use Rattle.ground_form.proofs.Chains.{IsBehind, room}
use Rattle.ground_form.proofs.table.place_of.Given as goal

abbrev pub invariant-loop-next : goal.invariant-loop-next
invariant-loop-next l =
    (bound : ℕ) × (bound ≤ length l.entries) × (l.next ≡ last_before (formulas_of l.entries) (digest_of l.f) bound) × IsBehind l.entries l.f bound

abbrev pub decreases-loop-next : goal.decreases-loop-next
decreases-loop-next l = room l.next
