use Rattle.std.proofs.Common.{subst}
use Rattle.function_model.specs.Evaluable.{IsEvaluableFormula}
use Rattle.function_model.proofs.FormulaTruths.{all_parts}
use Rattle.function_model.proofs.parts.conjunction_parts.Goals as goal

pub returns : goal.returns
returns c = all_parts c.args.parts.now (subst IsEvaluableFormula c.requires.whole c.requires.formula)
