use Rattle.function_model.proofs.RowOrder.{rows_fit}
use Rattle.function_model.proofs.rising.rows_fit.Goals as goal

pub returns : goal.returns
returns c = rows_fit
