-- The terms so far are those of the arguments as far as the loop has come.
use Rattle.std.proofs.Common.{◌≡◌, map, take}
use Rattle.mbqi_terms.specs.Store.{tree_at, trees_of}
use Rattle.mbqi_terms.proofs.store.term_store.TermStore.+tree.Given as goal

abbrev pub invariant-loop-arg : goal.invariant-loop-arg
invariant-loop-arg l = l.args ≡ map (tree_at (trees_of l.fn.self.lists l.fn.self.nodes)) (take l.arg-index l.node.args)

abbrev pub decreases-tree : goal.decreases-tree
decreases-tree l = l.id.0
