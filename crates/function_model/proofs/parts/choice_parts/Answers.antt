use Rattle.std.proofs.Common.{subst}
use Rattle.function_model.specs.Evaluable.{IsEvaluableFormula}
use Rattle.function_model.proofs.FormulaTruths.{choose_parts}
use Rattle.function_model.proofs.parts.choice_parts.Goals as goal

pub returns-clause-condition : goal.returns-clause-condition
returns-clause-condition c = (choose_parts c.args.condition.now c.args.yes.now c.args.no.now (subst IsEvaluableFormula c.requires.whole c.requires.formula)).0

pub returns-clause-yes : goal.returns-clause-yes
returns-clause-yes c = (choose_parts c.args.condition.now c.args.yes.now c.args.no.now (subst IsEvaluableFormula c.requires.whole c.requires.formula)).1

pub returns-clause-no : goal.returns-clause-no
returns-clause-no c = (choose_parts c.args.condition.now c.args.yes.now c.args.no.now (subst IsEvaluableFormula c.requires.whole c.requires.formula)).2
