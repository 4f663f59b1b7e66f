use Rattle.class_forest.proofs.Members.{IsMerge-merge_of}
use Rattle.class_forest.proofs.forest.ClassForest.merge.Goals as goal

pub join-requires : goal.join-requires
join-requires c = IsMerge-merge_of _ _ c.args.left c.args.right c.args.reason c.merge_of-merge.result c.requires.left_within c.requires.right_within c.requires.apart c.merge_of-merge.ensures
