use Rattle.std.proofs.Common.{◌≡◌, drop}
use Rattle.function_model.specs.Soundness.{are_sound_from}
use Rattle.function_model.proofs.model.FunctionModel.passes.Given as goal

-- each table so far is sound and has its number
abbrev pub invariant-loop-at : goal.invariant-loop-at
invariant-loop-at l = are_sound_from l.at (drop l.at l.self.tables) ≡ are_sound_from 0 l.self.tables
