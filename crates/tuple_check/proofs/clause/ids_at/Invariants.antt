use Rattle.std.proofs.Common.{◌≡◌, map, take}
use Rattle.tuple_check.specs.Failing.{id_of}
use Rattle.tuple_check.proofs.clause.ids_at.Given as goal

abbrev pub invariant-loop-arg : goal.invariant-loop-arg
invariant-loop-arg l = l.ids ≡ map (id_of l.pool l.tuple) (take l.arg-index l.args)
