use Rattle.function_model.proofs.FittingModels.{full_sorts, full_sound, plain_sorts}
use Rattle.function_model.proofs.sound.full_is_sound.Goals as goal

pub returns-clause-sound : goal.returns-clause-sound
returns-clause-sound c = full_sound

pub returns-clause-sorts : goal.returns-clause-sorts
returns-clause-sorts c = full_sorts

pub returns-clause-plain_sorts : goal.returns-clause-plain_sorts
returns-clause-plain_sorts c script model fit = plain_sorts script model (full_sorts script model fit)
