use Rattle.std.proofs.Common.{ℕ, ◌≡◌, Bool, false, List, [], ◌∷◌, ◌++◌, Option}
use Rattle.mbqi_values.specs.declared.lit.Lit.{Lit}
use Rattle.mbqi_values.specs.declared.value.Value.{Value}
use Rattle.clause_search.specs.Course.{is_chosen, truths_after, with_lit}
use Rattle.clause_search.specs.Standing.{AreImplied, Implies}
use Rattle.clause_search.specs.declared.step.Step.{Step}

-- Steps that are chosen, or implied by their reasons.

module _ (lawful : List Value → (ℕ → Bool) → Type 0) (clauses : List (List Lit)) where
  pub AreImplied-push : (truths : List (Option Bool)) (steps : List Step) (step : Step) → AreImplied lawful clauses truths steps
      → (is_chosen step.reason ≡ false → Implies lawful clauses (truths_after truths steps) step.lit step.reason)
      → AreImplied lawful clauses truths (steps ++ step ∷ [])
  AreImplied-push truths [] step sound implied = (implied, tt)
  AreImplied-push truths (s ∷ steps) step sound implied = (sound.0, AreImplied-push (with_lit truths s.lit) steps step sound.1 implied)

  pub AreImplied-front : (truths : List (Option Bool)) (steps more : List Step) → AreImplied lawful clauses truths (steps ++ more)
      → AreImplied lawful clauses truths steps
  AreImplied-front truths [] more sound = tt
  AreImplied-front truths (s ∷ steps) more sound = (sound.0, AreImplied-front (with_lit truths s.lit) steps more sound.1)

  pub AreImplied-last : (truths : List (Option Bool)) (steps : List Step) (step : Step)
      → AreImplied lawful clauses truths (steps ++ step ∷ []) → is_chosen step.reason ≡ false
      → Implies lawful clauses (truths_after truths steps) step.lit step.reason
  AreImplied-last truths [] step sound = sound.0
  AreImplied-last truths (s ∷ steps) step sound = AreImplied-last (with_lit truths s.lit) steps step sound.1
