use Rattle.std.proofs.Common.{◌≡◌, ◌∷◌, length}
use Rattle.clause_search.specs.Course.{choices_from}
use Rattle.clause_search.proofs.turns.close.Given as goal

abbrev pub invariant-steps : goal.invariant-steps
invariant-steps g l =
    let theory = g.T.Theory in
    record {
      same : theory.problem l.theory ≡ theory.problem l.fn.theory;
      frames : theory.frames l.theory ≡ 0 ∷ choices_from 0 l.trail.steps;
    }

abbrev pub decreases-steps : goal.decreases-steps
decreases-steps g l = length l.trail.steps
