use Rattle.function_model.proofs.ShownTruth.{shown_truth, shown_value}
use Rattle.function_model.proofs.laws.shown_keeps_truth.Goals as goal

pub returns-clause-values : goal.returns-clause-values
returns-clause-values c = shown_value

pub returns-clause-truths : goal.returns-clause-truths
returns-clause-truths c functions model = shown_truth functions model
