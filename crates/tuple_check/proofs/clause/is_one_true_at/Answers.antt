use Rattle.std.proofs.Common.{length, sym, subst}
use Rattle.element_atoms.specs.Profile.{IsArgument, IsLiteral}
use Rattle.tuple_check.proofs.clause.is_one_true_at.Goals as goal

pub is_literal_true_at-requires-clause-literal : goal.is_literal_true_at-requires-clause-literal
is_literal_true_at-requires-clause-literal c =
    subst (IsLiteral c.args.functions.now (IsArgument c.args.functions.now (length c.args.tuple.now))) (sym c.literal-item.is)
    (c.requires.literals c.loop-literal.literal-index c.literal-item.result c.loop-literal-test.true)
