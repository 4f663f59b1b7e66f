use Rattle.function_model.proofs.ShownParts.{fitting_is_not_full, full_is_full, shown_is_not_full}
use Rattle.function_model.proofs.laws.full_by_far.Goals as goal

pub returns-clause-full : goal.returns-clause-full
returns-clause-full c = full_is_full

pub returns-clause-shown : goal.returns-clause-shown
returns-clause-shown c = fitting_is_not_full

pub returns-clause-part : goal.returns-clause-part
returns-clause-part c = shown_is_not_full
