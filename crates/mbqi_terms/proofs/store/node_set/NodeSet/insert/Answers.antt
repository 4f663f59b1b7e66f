use Rattle.mbqi_terms.specs.contracts.store.node.NodePartialEq.TheImpl as node
use Rattle.mbqi_terms.proofs.NodeTest.{same_nodes, own_node}
use Rattle.mbqi_terms.proofs.Places.{inserted}
use Rattle.mbqi_terms.proofs.store.node_set.NodeSet.insert.Goals as goal

pub returns-clause-ok : goal.returns-clause-ok
returns-clause-ok c =
    let put = c.in_ok-place.ensures in
    rw (← c.self.view_is) (inserted node.ghosts.eq same_nodes own_node _ _ c.args.node put.stored.0 _ put.keys put.stored.1 put.stored.2 put.unique)
