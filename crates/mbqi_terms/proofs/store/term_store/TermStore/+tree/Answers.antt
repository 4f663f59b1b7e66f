use Rattle.std.proofs.Common.{◌≡◌, ◌<◌, ◌++◌, [], ◌∷◌, length, map, take, pos, Some, slice_get, get_or, add-one, sym, ap, ◌∙◌, arith}
use Rattle.std.proofs.lemmas.Option.{slice_get-get_or, get_or_from_slice_get}
use Rattle.mbqi_terms.specs.declared.term.Term.TheVariants as term
use Rattle.mbqi_terms.specs.declared.term_id.TermId.{TermId}
use Rattle.mbqi_terms.specs.Store.{tree_at, trees_of}
use Rattle.mbqi_terms.proofs.Trees.{map-take}
use Rattle.mbqi_terms.proofs.store.term_store.TermStore.+tree.Goals as goal

pub loop-arg-preserved : goal.loop-arg-preserved
loop-arg-preserved t c =
    let s = c.args.self.now in
    let ids = c.node-node.result.now.args in
    let i = c.loop-arg.arg-index in
    let f = tree_at (trees_of s.lists s.nodes) in
    let d : TermId = record { 0 = 0 } in
    let shown : c.as_slice-arg-items.result.now ≡ ids = c.as_slice-arg-items.ensures in
    let x = get_or c.as_slice-arg-items.result.now i d in
    let within : i < length c.as_slice-arg-items.result.now = omega arith in
    let at : slice_get ids i ≡ Some x = ap (λ xs. slice_get xs i) (sym shown) ∙ slice_get-get_or c.as_slice-arg-items.result.now i d within in
    let tree : f x ≡ c.in_ok-tree.field-0 = get_or_from_slice_get (trees_of s.lists s.nodes) x.0 c.in_ok-tree.field-0 (term.Num (pos 0)) c.in_ok-tree.ensures in
    c.in_ok-push.ensures.ok
    ∙ ((λ j. c.loop-arg.invariant j ++ sym tree j ∷ []) ∙ (sym (map-take f ids i x at) ∙ ap (λ k. map f (take k ids)) (sym (add-one i))))
