use Rattle.std.proofs.Common.{◌≡◌, map, take}
use Rattle.tuple_check.specs.Failing.{term_in}
use Rattle.tuple_check.proofs.failing.terms_of.Given as goal

abbrev pub invariant-loop-number : goal.invariant-loop-number
invariant-loop-number l = l.terms ≡ map (term_in l.pool.terms) (take l.number-index l.tuple)
