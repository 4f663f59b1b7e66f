use Rattle.read_in_form.proofs.ScriptsRead.{read_in_form}
use Rattle.read_in_form.proofs.laws.read_is_in_form.Goals as goal

pub returns : goal.returns
returns c = read_in_form
