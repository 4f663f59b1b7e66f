use Rattle.std.proofs.Common.{◌≡◌, ◌<◌, length, sym, subst}
use Rattle.std.specs.List.{All}
use Rattle.mbqi_terms.specs.Store.{Store, HasTree, HasShape, IsAbsent, tree_of_node}
use Rattle.mbqi_terms.proofs.Growth.{has_tree}
use Rattle.mbqi_terms.proofs.Finding.{node_absent}
use Rattle.mbqi_terms.proofs.store.term_store.TermStore.number_of_node.Goals as goal

pub returns-in_err-place-clause-missing : goal.returns-in_err-place-clause-missing
returns-in_err-place-clause-missing c none =
    let s : Store = record { lists = c.self.inside.lists; nodes = c.self.inside.nodes } in
    let P : Store → Type 0 = λ s. IsAbsent s (tree_of_node s c.args.node.now) in
    let is : s ≡ c.args.self.now = c.self.view_is in
    let Q : Store → Type 0 = λ s. All (λ id. id.0 < length s.nodes) c.args.node.now.args in
    let R : Store → Type 0 = λ s. HasShape s.lists c.args.node.now.head c.args.node.now.args in
    let stored = subst Q (sym is) c.requires.stored in
    let shape = subst R (sym is) c.requires.shape in
    subst P is (node_absent s c.self.invariant c.args.node.now stored shape (c.place_of.ensures.missing c.in_err-place.was))

pub returns-clause-found : goal.returns-clause-found
returns-clause-found c =
    let s : Store = record { lists = c.self.inside.lists; nodes = c.self.inside.nodes } in
    let P : Store → Type 0 = λ s. HasTree s (record { 0 = c.in_ok-place.place }) (tree_of_node s c.args.node.now) in
    let is : s ≡ c.args.self.now = c.self.view_is in
    subst P is (has_tree s c.self.invariant c.in_ok-place.place c.args.node.now c.in_ok-place.ensures.found)
