use Rattle.std.proofs.Common.{◌≡◌, map, sym, ap, ◌∙◌}
use Rattle.mbqi_terms.specs.Lists.{layer_sort, sort_of_term}
use Rattle.mbqi_terms.specs.Store.{Store, head_layer, tree_of_node, trees_of, tree_at}
use Rattle.mbqi_terms.proofs.Sorted.{sort-applied}
use Rattle.mbqi_terms.proofs.store.term_store.TermStore.sort_of.Goals as goal

pub returns : goal.returns
returns c t e =
    let s = c.args.self.now in
    let n = c.node.result.now in
    let us = map (tree_at (trees_of s.lists s.nodes)) n.args in
    let same : t ≡ tree_of_node s n = cc (e, c.node.ensures.tree) in
    let lists : c.self.inside.lists ≡ s.lists = ap (λ (x : Store). x.lists) c.self.view_is in
    ap (sort_of_term s.lists) same
    ∙ (sort-applied s.lists n.head us n.plus ∙ (ap (λ l. layer_sort l (head_layer l n.head us)) (sym lists) ∙ sym (c.in-Some.ensures us)))
