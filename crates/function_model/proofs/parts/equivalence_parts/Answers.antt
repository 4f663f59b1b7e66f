use Rattle.std.proofs.Common.{subst}
use Rattle.function_model.specs.Evaluable.{IsEvaluableFormula}
use Rattle.function_model.proofs.FormulaTruths.{iff_parts}
use Rattle.function_model.proofs.parts.equivalence_parts.Goals as goal

pub returns-clause-left : goal.returns-clause-left
returns-clause-left c = (iff_parts c.args.left.now c.args.right.now (subst IsEvaluableFormula c.requires.whole c.requires.formula)).0

pub returns-clause-right : goal.returns-clause-right
returns-clause-right c = (iff_parts c.args.left.now c.args.right.now (subst IsEvaluableFormula c.requires.whole c.requires.formula)).1
