use Rattle.function_model.proofs.FittingModels.{fitting_sorts, fitting_sound, plain_sorts}
use Rattle.function_model.proofs.sound.fitting_is_sound.Goals as goal

pub returns-clause-sound : goal.returns-clause-sound
returns-clause-sound c = fitting_sound

pub returns-clause-sorts : goal.returns-clause-sorts
returns-clause-sorts c = fitting_sorts

pub returns-clause-plain_sorts : goal.returns-clause-plain_sorts
returns-clause-plain_sorts c script model fit = plain_sorts script model (fitting_sorts script model fit)
