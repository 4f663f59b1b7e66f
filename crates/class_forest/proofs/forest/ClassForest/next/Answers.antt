use Rattle.std.proofs.Common.{◌∙◌, ap}
use Rattle.std.specs.Prelude.{slice_get}
use Rattle.index_lists.specs.Lists.{behind, items_of}
use Rattle.class_forest.proofs.Keeping.{list_of-kept}
use Rattle.class_forest.proofs.Members.{class_of-within}
use Rattle.class_forest.proofs.forest.ClassForest.next.Goals as goal

pub returns : goal.returns
returns c =
    let node_in = rw (← c.self.view_is) at c.requires in
    let kept = c.self.invariant.0 in
    let class_in = class_of-within _ _ kept.valid c.args.node node_in in
    rw (← c.self.view_is) (c.next.ensures.value ∙ ap (λ items. slice_get (behind c.args.node items) 0) (ap (items_of c.self.inside.lists) (list_of-kept _ _ _ _ _ c.args.node kept node_in) ∙ kept.members_at _ class_in))
