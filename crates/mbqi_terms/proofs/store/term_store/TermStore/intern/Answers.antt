use Rattle.std.proofs.Common.{sym, subst}
use Rattle.mbqi_terms.specs.Store.{Store, IsNode, HasTree, Interns, tree_of_node}
use Rattle.mbqi_terms.proofs.Growth.{sound-put, put_interns, put_node, put_tree}
use Rattle.mbqi_terms.proofs.store.term_store.TermStore.intern.Goals as goal

fits : (c : goal.In_ok-place) → IsNode (record { lists = c.self.inside.lists; nodes = c.self.inside.nodes }) c.args.node
fits c = let P : Store → Type 0 = λ s. IsNode s c.args.node in subst P (sym c.self.view_is) c.requires

pub invariant_of-self-2 : goal.invariant_of-self-2
invariant_of-self-2 c =
    sound-put c.self.inside.lists c.self.inside.nodes c.self.invariant c.args.node c.in_ok-place.place c.insert.new.self (fits c) c.in_ok-place.ensures.ok

pub returns-clause-node : goal.returns-clause-node
returns-clause-node c =
    put_node c.self.inside.lists c.self.inside.nodes c.self.invariant c.args.node c.in_ok-place.place c.insert.new.self c.in_ok-place.ensures.ok

pub returns-clause-tree : goal.returns-clause-tree
returns-clause-tree c =
    let P : Store → Type 0 =
    λ s. HasTree (record { lists = c.self.inside.lists; nodes = c.insert.new.self }) (record { 0 = c.in_ok-place.place }) (tree_of_node s c.args.node) in
    subst P c.self.view_is
    (put_tree c.self.inside.lists c.self.inside.nodes c.self.invariant c.args.node c.in_ok-place.place c.insert.new.self c.in_ok-place.ensures.ok)

pub returns-clause-store : goal.returns-clause-store
returns-clause-store c =
    let new : Store = record { lists = c.self.inside.lists; nodes = c.insert.new.self } in
    let P : Store → Type 0 = λ s. Interns s c.args.node (record { 0 = c.in_ok-place.place }) new in
    subst P c.self.view_is
    (put_interns c.self.inside.lists c.self.inside.nodes c.self.invariant c.args.node (record { 0 = c.in_ok-place.place }) c.insert.new.self (fits c) c.in_ok-place.ensures.ok)
