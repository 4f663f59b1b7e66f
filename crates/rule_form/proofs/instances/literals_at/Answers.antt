use Rattle.std.proofs.Common.{length, sym, subst}
use Rattle.element_atoms.specs.Profile.{IsArgument, IsLiteral}
use Rattle.rule_form.proofs.instances.literals_at.Goals as goal

pub literal_at-requires : goal.literal_at-requires
literal_at-requires c =
    subst (IsLiteral c.args.functions.now (IsArgument c.args.functions.now (length c.args.terms.now))) (sym c.literal-item.is)
    (c.requires c.loop-literal.literal-index c.literal-item.result c.loop-literal-test.true)
