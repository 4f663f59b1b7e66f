use Rattle.class_forest.proofs.Turns.{IsWithin-whole}
use Rattle.class_forest.proofs.Marking.{GrowsBelow-wider}
use Rattle.class_forest.proofs.Walks.{joined_at-least}
use Rattle.class_forest.proofs.forest.ClassForest.mark_path.Goals as goal

pub mark_within-requires-clause-small : goal.mark_within-requires-clause-small
mark_within-requires-clause-small c = IsWithin-whole c.args.self.now.log 64 c.args.x c.args.y c.requires.joined (c.class_sizes.ensures.small c.args.x c.requires.x_within)

pub returns-clause-below : goal.returns-clause-below
returns-clause-below c = λ count one. GrowsBelow-wider _ count _ _ (joined_at-least c.args.self.now.log count c.args.x c.args.y one) c.mark_within.ensures.below
