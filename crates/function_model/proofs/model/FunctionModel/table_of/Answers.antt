use Rattle.std.proofs.Common.{subst, sym}
use Rattle.std.specs.Prelude.{IfSome}
use Rattle.mbqi_terms.specs.declared.term.Symbol.{out-Symbol}
use Rattle.function_model.specs.Sound.{IsSoundTable}
use Rattle.function_model.proofs.SmallValues.{layer_sound}
use Rattle.function_model.proofs.model.FunctionModel.table_of.Goals as goal

pub returns-clause-sound : goal.returns-clause-sound
returns-clause-sound c =
    subst (λ o. IfSome o IsSoundTable) (sym c.table_by_name.ensures) (layer_sound c.args.self.now c.requires (out-Symbol c.args.symbol.now))
