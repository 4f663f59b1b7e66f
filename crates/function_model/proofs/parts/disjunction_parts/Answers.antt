use Rattle.std.proofs.Common.{subst}
use Rattle.function_model.specs.Evaluable.{IsEvaluableFormula}
use Rattle.function_model.proofs.FormulaTruths.{any_parts}
use Rattle.function_model.proofs.parts.disjunction_parts.Goals as goal

pub returns : goal.returns
returns c = any_parts c.args.parts.now (subst IsEvaluableFormula c.requires.whole c.requires.formula)
