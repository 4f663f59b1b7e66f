use Rattle.printed_trees.proofs.ReadTerms.{atom_means, truth_is_meant}
use Rattle.printed_trees.proofs.Spelled.{term_spelled}
use Rattle.printed_trees.proofs.laws.term_is_read.Goals as goal

pub returns-clause-spelled : goal.returns-clause-spelled
returns-clause-spelled c = term_spelled

pub returns-clause-meaning : goal.returns-clause-meaning
returns-clause-meaning c = atom_means

pub returns-clause-truth : goal.returns-clause-truth
returns-clause-truth c = truth_is_meant
