use Rattle.printed_script.proofs.Commands.{text_means}
use Rattle.printed_script.proofs.Lengths.{few_variables}
use Rattle.printed_script.proofs.laws.printed_means_the_same.Goals as goal

pub returns : goal.returns
returns c = λ bytes script means short shallow.
    let form = c.read_is_in_form.ensures bytes script means in
    text_means script form (few_variables script form short) shallow
