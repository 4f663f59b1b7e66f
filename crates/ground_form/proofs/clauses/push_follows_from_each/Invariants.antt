-- The clauses of the literals as far as the loop has come stand behind those that were there.
use Rattle.std.proofs.Common.{◌≡◌, [], ◌∷◌, ◌++◌, map, take}
use Rattle.ground_form.specs.Clauses.{negated}
use Rattle.ground_form.proofs.clauses.push_follows_from_each.Given as goal

abbrev pub invariant-loop-lit : goal.invariant-loop-lit
invariant-loop-lit l = l.clauses ≡ l.fn.clauses ++ map (λ lit. l.first ∷ negated lit ∷ []) (take l.lit-index l.lits)
