use Rattle.std.proofs.Common.{◌≡◌, ℕ, Option, Some, None, position, slice_get, IfSome, sym, ap, ◌∙◌, is_some}
use Rattle.mbqi_terms.specs.contracts.store.node.NodePartialEq.TheImpl as node
use Rattle.mbqi_terms.proofs.NodeTest.{same_nodes, own_node}
use Rattle.mbqi_terms.proofs.Places.{nowhere, position_is}
use Rattle.mbqi_terms.proofs.store.node_set.NodeSet.place_of.Goals as goal

pub returns-clause-found : goal.returns-clause-found
returns-clause-found c = by c.get_index_of.result c.get_index_of.ensures.index
  where
    by : (r : Option ℕ) → r ≡ position (node.ghosts.eq c.args.node.now) c.self.inside.nodes.keys → IfSome r (λ place. slice_get c.args.self.now place ≡ Some c.args.node.now)
    by None e = tt
    by (Some i) e = rw (← c.self.view_is) (position_is node.ghosts.eq same_nodes own_node _ c.args.node.now i (sym e))

pub returns-clause-missing : goal.returns-clause-missing
returns-clause-missing c none = rw (← c.self.view_is) (nowhere node.ghosts.eq same_nodes own_node _ c.args.node.now (sym c.get_index_of.ensures.found ∙ ap is_some none))
