use Rattle.std.proofs.Common.{length, sym, subst}
use Rattle.element_atoms.specs.Profile.{IsArgument}
use Rattle.rule_form.proofs.instances.arguments_at.Goals as goal

pub argument_at-requires : goal.argument_at-requires
argument_at-requires c =
    subst (IsArgument c.args.functions.now (length c.args.terms.now)) (sym c.arg-item.is)
    (c.requires c.loop-arg.arg-index c.arg-item.result c.loop-arg-test.true)
