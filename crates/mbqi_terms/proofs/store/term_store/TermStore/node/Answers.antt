use Rattle.std.proofs.Common.{◌≡◌, ◌<◌, length, Some, slice_get, refl, sym, ap, subst, ◌∙◌, arith}
use Rattle.std.proofs.lemmas.Option.{slice_get_read}
use Rattle.mbqi_terms.specs.Store.{Store, IsNode, HasTree, tree_of_node}
use Rattle.mbqi_terms.specs.Store.{trees_of, tree_at}
use Rattle.std.proofs.Common.{map}
use Rattle.mbqi_terms.proofs.Growth.{before, has_tree, stored_node}
use Rattle.mbqi_terms.proofs.Heads.{number-applied}
use Rattle.mbqi_terms.proofs.store.term_store.TermStore.node.Goals as goal

stored : (c : goal.After-index-as_slice-id) → slice_get c.self.inside.nodes c.args.id.0 ≡ Some c.index-as_slice-id.result
stored c =
    let shown = c.as_slice.ensures.nodes in
    let sizes : length c.as_slice.result.now ≡ length c.args.self.now.nodes = ap length shown ∙ ap (λ (s : Store). length s.nodes) c.self.view_is in
    let within : c.args.id.0 < length c.as_slice.result.now = omega (arith, sizes, c.requires) in
    ap (λ xs. slice_get xs c.args.id.0) (sym shown)
    ∙ slice_get_read c.as_slice.result.now (length c.as_slice.result.now) c.args.id.0 c.index-as_slice-id.result refl within c.index-as_slice-id.is

pub returns-clause-form : goal.returns-clause-form
returns-clause-form c =
    let P : Store → Type 0 = λ s. IsNode s c.index-as_slice-id.result in
    subst P c.self.view_is (stored_node _ c.self.invariant c.args.id.0 c.index-as_slice-id.result (stored c))

pub returns-clause-before : goal.returns-clause-before
returns-clause-before c = before _ c.self.invariant c.args.id.0 c.index-as_slice-id.result (stored c)

pub returns-clause-tree : goal.returns-clause-tree
returns-clause-tree c =
    let P : Store → Type 0 = λ s. HasTree s c.args.id (tree_of_node s c.index-as_slice-id.result) in
    subst P c.self.view_is (has_tree _ c.self.invariant c.args.id.0 c.index-as_slice-id.result (stored c))

pub returns-clause-plus : goal.returns-clause-plus
returns-clause-plus c =
    let s = c.args.self.now in
    let n = c.index-as_slice-id.result in
    number-applied s.lists n.head (map (tree_at (trees_of s.lists s.nodes)) n.args) n.plus
