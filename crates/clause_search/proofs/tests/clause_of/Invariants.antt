use Rattle.std.proofs.Common.{◌<◌, All}
use Rattle.clause_search.proofs.tests.clause_of.Given as goal

abbrev pub invariant-loop-number : goal.invariant-loop-number
invariant-loop-number l = All (λ lit. lit.atom < l.atoms) l.lits.items
