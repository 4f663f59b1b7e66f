use Rattle.printed_trees.proofs.Assertions.{assertion_form, assertion_means, assertion_spelled}
use Rattle.printed_trees.proofs.laws.formula_is_read.Goals as goal

pub returns-clause-spelled : goal.returns-clause-spelled
returns-clause-spelled c = assertion_spelled

pub returns-clause-form : goal.returns-clause-form
returns-clause-form c = assertion_form

pub returns-clause-meaning : goal.returns-clause-meaning
returns-clause-meaning c = assertion_means
