use Rattle.std.proofs.Common.{length}
use Rattle.tuple_check.proofs.Arguments.{all_placed}
use Rattle.tuple_check.proofs.clause.atom_at.Goals as goal

pub ids_at-requires : goal.ids_at-requires
ids_at-requires c =
    all_placed c.args.functions.now c.args.pool.now c.requires.pool (length c.args.tuple.now) c.args.t.now c.declared-predicate.result.0 c.declared-predicate.result.1.now
    c.requires.atom c.declared-predicate.ensures
