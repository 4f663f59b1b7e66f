-- The clause has the first literal and the others as far as the loop has come.
use Rattle.std.proofs.Common.{◌≡◌, ◌∷◌, take}
use Rattle.ground_form.proofs.clauses.push_behind.Given as goal

abbrev pub invariant-loop-lit : goal.invariant-loop-lit
invariant-loop-lit l = l.clause ≡ l.fn.first ∷ take l.lit-index l.lits
