use Rattle.function_model.proofs.ShownParts.{shown_has_skolem}
use Rattle.function_model.proofs.shown.shown_has_skolem.Goals as goal

pub returns : goal.returns
returns c = shown_has_skolem
