use Rattle.function_model.proofs.TermParts.{arguments}
use Rattle.function_model.proofs.parts.application_parts.Goals as goal

pub returns : goal.returns
returns c = arguments c.args.whole.now c.args.symbol.now c.args.args.now c.requires.whole c.requires.term
