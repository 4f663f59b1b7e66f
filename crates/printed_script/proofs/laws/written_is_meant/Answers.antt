use Rattle.printed_script.proofs.Commands.{text_means}
use Rattle.printed_script.proofs.laws.written_is_meant.Goals as goal

pub returns : goal.returns
returns c = text_means
