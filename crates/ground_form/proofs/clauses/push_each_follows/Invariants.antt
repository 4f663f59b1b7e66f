-- The clauses of the literals as far as the loop has come stand behind those that were there.
use Rattle.std.proofs.Common.{◌≡◌, [], ◌∷◌, ◌++◌, map, take}
use Rattle.ground_form.proofs.clauses.push_each_follows.Given as goal

abbrev pub invariant-loop-lit : goal.invariant-loop-lit
invariant-loop-lit l = l.clauses ≡ l.fn.clauses ++ map (λ lit. l.first ∷ lit ∷ []) (take l.lit-index l.lits)
