use Rattle.std.proofs.Common.{◌≡◌, ◌++◌, take}
use Rattle.clause_search.specs.Resolvent.{without, missing_in}
use Rattle.clause_search.proofs.resolvent.resolvent.Given as goal

abbrev pub invariant-loop-lit : goal.invariant-loop-lit
invariant-loop-lit l =
    l.lits.items ≡ without l.atom l.left ++ missing_in l.left (take l.lit-index l.lit-items)
