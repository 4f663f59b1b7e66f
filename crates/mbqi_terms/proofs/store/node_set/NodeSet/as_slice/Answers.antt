use Rattle.mbqi_terms.specs.contracts.store.node.NodePartialEq.TheImpl as node
use Rattle.mbqi_terms.proofs.NodeTest.{same_nodes, own_node}
use Rattle.mbqi_terms.proofs.Places.{places_distinct}
use Rattle.mbqi_terms.proofs.store.node_set.NodeSet.as_slice.Goals as goal

pub returns-clause-distinct : goal.returns-clause-distinct
returns-clause-distinct c = rw (← c.self.view_is) (places_distinct node.ghosts.eq same_nodes own_node _ c.as_slice.ensures.unique)
