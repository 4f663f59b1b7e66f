use Rattle.std.proofs.Common.{subst}
use Rattle.function_model.specs.Evaluable.{IsEvaluableFormula}
use Rattle.function_model.proofs.FormulaTruths.{not_part}
use Rattle.function_model.proofs.parts.negation_parts.Goals as goal

pub returns : goal.returns
returns c = not_part c.args.part.now (subst IsEvaluableFormula c.requires.whole c.requires.formula)
