use Rattle.function_model.proofs.EvaluableForms.{is_at_most, numeral_is}
use Rattle.function_model.proofs.eval_tests.at_most_three.Goals as goal

pub returns : goal.returns
returns c = is_at_most c.variable.result _ (c.variable.ensures, numeral_is _)
