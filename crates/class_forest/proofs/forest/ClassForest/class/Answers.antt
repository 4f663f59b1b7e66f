use Rattle.std.proofs.Common.{◌∙◌}
use Rattle.class_forest.proofs.Keeping.{list_of-kept}
use Rattle.class_forest.proofs.forest.ClassForest.class.Goals as goal

pub returns-clause-value : goal.returns-clause-value
returns-clause-value c =
    let node_in = rw (← c.self.view_is) at c.requires in
    rw (← c.self.view_is) (c.list_of.ensures.value ∙ list_of-kept _ _ _ _ _ c.args.node c.self.invariant.0 node_in)
