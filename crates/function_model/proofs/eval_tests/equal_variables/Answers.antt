use Rattle.function_model.proofs.EvaluableForms.{is_equal}
use Rattle.function_model.proofs.eval_tests.equal_variables.Goals as goal

pub returns : goal.returns
returns c = is_equal c.variable.result c.variable-2.result (c.variable.ensures, c.variable-2.ensures)
