use Rattle.std.proofs.Common.{ℕ, ◌<◌, ◌≤◌, All, take}
use Rattle.clause_search.proofs.turns.counted.Given as goal

abbrev pub invariant-loop-lit : goal.invariant-loop-lit
invariant-loop-lit l = record {
  above : l.start ≤ l.count;
  below : All (λ lit. lit.atom < l.count) (take l.lit-index l.clause);
  least : (limit : ℕ) → l.start ≤ limit → All (λ lit. lit.atom < limit) l.clause → l.count ≤ limit;
}
