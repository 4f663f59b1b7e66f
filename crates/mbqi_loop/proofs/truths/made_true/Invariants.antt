use Rattle.std.proofs.Common.{◌≡◌, ◌<◌, ℕ, length, take}
use Rattle.mbqi_loop.specs.Assigned.{is_made_true, truth_at}
use Rattle.mbqi_loop.proofs.truths.made_true.Given as goal

-- The atoms so far are true by the literals so far.
abbrev pub invariant-loop-lit : goal.invariant-loop-lit
invariant-loop-lit l = record {
  length : length l.truths.items ≡ l.atoms;
  made : (atom : ℕ) → atom < l.atoms → truth_at l.truths.items atom ≡ is_made_true (take l.lit-index l.lits) atom;
}
