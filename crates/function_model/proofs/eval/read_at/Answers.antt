use Rattle.std.proofs.Common.{subst, sym}
use Rattle.std.specs.Prelude.{IfSome}
use Rattle.function_model.specs.Lookup.{is_declared}
use Rattle.function_model.specs.Sound.{IsSoundTable}
use Rattle.function_model.proofs.SmallValues.{named_sound}
use Rattle.function_model.proofs.eval.read_at.Goals as goal

pub look_up_by_halves-requires : goal.look_up_by_halves-requires
look_up_by_halves-requires c = subst (λ o. IfSome o IsSoundTable) (sym c.in-Some.ensures) (named_sound c.args.model.now c.requires (is_declared c.args.function))
