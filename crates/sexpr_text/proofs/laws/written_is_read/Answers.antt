use Rattle.sexpr_text.proofs.ReadBack.{read_back, read_lines}
use Rattle.sexpr_text.proofs.laws.written_is_read.Goals as goal

pub returns-clause-tree : goal.returns-clause-tree
returns-clause-tree c = read_back

pub returns-clause-lines : goal.returns-clause-lines
returns-clause-lines c = read_lines
