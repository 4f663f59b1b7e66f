use Rattle.function_model.proofs.TermParts.{read_index, read_level}
use Rattle.function_model.proofs.parts.read_parts.Goals as goal

pub returns-clause-name : goal.returns-clause-name
returns-clause-name c = read_level c.args.read.now c.args.index.now c.args.array.now c.requires.read c.requires.term

pub returns-clause-index : goal.returns-clause-index
returns-clause-index c = read_index c.args.read.now c.args.index.now c.args.array.now c.requires.read c.requires.term
