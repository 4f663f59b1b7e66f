use Rattle.std.proofs.Common.{sym, ◌∙◌}
use Rattle.function_model.proofs.SoundTests.{model_is}
use Rattle.function_model.proofs.model.FunctionModel.is_sound.Goals as goal

pub returns-clause-sound : goal.returns-clause-sound
returns-clause-sound c passed = model_is c.args.self.now (sym c.passes.ensures ∙ passed)
