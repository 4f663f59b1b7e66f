use Rattle.std.proofs.Common.{subst, sym}
use Rattle.std.specs.Prelude.{IfSome}
use Rattle.function_model.specs.Sound.{IsSoundTable}
use Rattle.function_model.proofs.StoreValues.{head_sound}
use Rattle.function_model.proofs.model.FunctionModel.table_of_head.Goals as goal

pub returns-clause-sound : goal.returns-clause-sound
returns-clause-sound c =
    subst (λ o. IfSome o IsSoundTable) (sym c.table_by_head.ensures)
    (head_sound c.args.self.now c.args.store.now.lists c.requires.sound c.args.head)
