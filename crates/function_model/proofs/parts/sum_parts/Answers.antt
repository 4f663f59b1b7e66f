use Rattle.function_model.proofs.TermParts.{sum_base, sum_level}
use Rattle.function_model.proofs.parts.sum_parts.Goals as goal

pub returns-clause-term : goal.returns-clause-term
returns-clause-term c = sum_base c.args.sum.now c.args.base.now c.args.number c.requires.sum c.requires.term

pub returns-clause-base : goal.returns-clause-base
returns-clause-base c = (sum_level c.args.sum.now c.args.base.now c.args.number c.requires.sum c.requires.term).0

pub returns-clause-number : goal.returns-clause-number
returns-clause-number c = (sum_level c.args.sum.now c.args.base.now c.args.number c.requires.sum c.requires.term).1
