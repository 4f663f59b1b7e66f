use Rattle.function_model.proofs.Projections.{projected_is}
use Rattle.function_model.proofs.laws.number_goes_to_greatest.Goals as goal

pub returns : goal.returns
returns c = projected_is
