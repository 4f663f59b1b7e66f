use Rattle.std.proofs.Common.{sym, ◌∙◌}
use Rattle.function_model.proofs.SoundTests.{table_is}
use Rattle.function_model.proofs.model.Table.is_sound.Goals as goal

pub returns-clause-sound : goal.returns-clause-sound
returns-clause-sound c passed = table_is c.args.self.now (sym c.passes.ensures ∙ passed)
