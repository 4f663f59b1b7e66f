-- The clause has the first literal and the negations of the others as far as the loop has come.
use Rattle.std.proofs.Common.{◌≡◌, ◌∷◌, map, take}
use Rattle.ground_form.specs.Clauses.{negated}
use Rattle.ground_form.proofs.clauses.push_negated_behind.Given as goal

abbrev pub invariant-loop-lit : goal.invariant-loop-lit
invariant-loop-lit l = l.clause ≡ l.fn.first ∷ map negated (take l.lit-index l.lits)
