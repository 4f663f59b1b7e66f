use Rattle.function_model.proofs.EvaluableForms.{variable_is}
use Rattle.function_model.proofs.eval_tests.variable.Goals as goal

pub returns : goal.returns
returns c = variable_is c.args.place
