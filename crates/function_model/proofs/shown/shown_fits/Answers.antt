use Rattle.function_model.proofs.ShownParts.{shown_fits}
use Rattle.function_model.proofs.shown.shown_fits.Goals as goal

pub returns : goal.returns
returns c = shown_fits
