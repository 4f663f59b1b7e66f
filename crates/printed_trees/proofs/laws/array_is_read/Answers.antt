use Rattle.printed_trees.proofs.ReadTerms.{array_means}
use Rattle.printed_trees.proofs.Spelled.{array_is_spelled}
use Rattle.printed_trees.proofs.laws.array_is_read.Goals as goal

pub returns-clause-spelled : goal.returns-clause-spelled
returns-clause-spelled c = array_is_spelled

pub returns-clause-meaning : goal.returns-clause-meaning
returns-clause-meaning c = array_means
