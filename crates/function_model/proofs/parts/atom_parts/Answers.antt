use Rattle.std.proofs.Common.{subst}
use Rattle.function_model.specs.Evaluable.{IsEvaluableFormula}
use Rattle.function_model.proofs.FormulaTruths.{atom_part}
use Rattle.function_model.proofs.parts.atom_parts.Goals as goal

pub returns : goal.returns
returns c = atom_part c.args.t.now (subst IsEvaluableFormula c.requires.atom c.requires.formula)
