use Rattle.std.proofs.Common.{◌≡◌}
use Rattle.class_forest.proofs.tests.a_chain_is_joined_from_both_ends_and_undone.Given as goal

abbrev pub invariant-loop-step : goal.invariant-loop-step
invariant-loop-step g l = l.forest.nodes ≡ 1000

abbrev pub invariant-loop-node : goal.invariant-loop-node
invariant-loop-node g l = l.forest.nodes ≡ 1000

abbrev pub invariant-loop : goal.invariant-loop
invariant-loop g l = l.forest.nodes ≡ 1000

abbrev pub invariant-loop-node-2 : goal.invariant-loop-node-2
invariant-loop-node-2 g l = l.forest.nodes ≡ 1000
