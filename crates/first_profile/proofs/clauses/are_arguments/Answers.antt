use Rattle.element_atoms.specs.Profile.{IsArgument}
use Rattle.first_profile.proofs.Deciding.{all_more}
use Rattle.first_profile.proofs.clauses.are_arguments.Goals as goal

pub loop-t-preserved : goal.loop-t-preserved
loop-t-preserved c =
    all_more (IsArgument c.args.functions.now c.args.variables) c.args.terms.now c.loop-t.t-index c.t-item.result c.loop-t-test.true c.t-item.is
    (c.is_argument.ensures.0 (cc)) c.loop-t.invariant
