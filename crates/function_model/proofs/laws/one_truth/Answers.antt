use Rattle.function_model.proofs.OneTruth.{one_truth}
use Rattle.function_model.proofs.laws.one_truth.Goals as goal

pub returns : goal.returns
returns c = one_truth
