use Rattle.std.proofs.Common.{ℕ, ◌≡◌, ◌<◌, Bool, true, false, List, [], ◌∷◌, ◌++◌, length, Option, None, Some, Result, Ok, Err, IfOk}
use Rattle.std.proofs.Common.{IfNone, refl, sym, ap, ◌∙◌, subst, arith}
use Rattle.mbqi_values.specs.declared.lit.Lit.{Lit}
use Rattle.mbqi_values.specs.declared.value.Value.{Value}
use Rattle.clause_search.specs.Course.{is_chosen, no_truths, reason_lits, truths_after, truths_of, with_lit, with_step, Course}
use Rattle.clause_search.specs.Following.{HasNoModel, IsConflict}
use Rattle.clause_search.specs.Rank.{rank_of}
use Rattle.clause_search.specs.Resolvent.{resolved_by}
use Rattle.clause_search.specs.Standing.{AreImplied, Implies, IsSound}
use Rattle.clause_search.specs.declared.step.Reason.{Reason}
use Rattle.clause_search.specs.declared.step.Step.{Step}
use Rattle.clause_search.proofs.FreshSteps.{length-truths, truths_after-push}
use Rattle.clause_search.proofs.Growth.{rank-rises}
use Rattle.clause_search.proofs.Resolution.{HasNoModel-from_conflict, IsConflict-resolved}
use Rattle.clause_search.proofs.SoundSteps.{AreImplied-front, AreImplied-last}

-- A trail whose last step goes.

module _ (lawful : List Value → (ℕ → Bool) → Type 0) (clauses : List (List Lit)) (old new : Course) (last : Step)
    (atoms : new.atoms ≡ old.atoms) (steps : old.steps ≡ new.steps ++ last ∷ []) where
  sound_parts : IsSound lawful clauses old → AreImplied lawful clauses (no_truths new.atoms) (new.steps ++ last ∷ [])
  sound_parts sound =
      subst (λ (n : ℕ). AreImplied lawful clauses (no_truths n) (new.steps ++ last ∷ [])) (sym atoms)
      (subst (λ (ss : List Step). AreImplied lawful clauses (no_truths old.atoms) ss) steps sound)

  -- The steps before it are sound, and its reason implies it if it wasn't chosen.
  pub IsSound-front : IsSound lawful clauses old → IsSound lawful clauses new
  IsSound-front sound = AreImplied-front lawful clauses (no_truths new.atoms) new.steps (last ∷ []) (sound_parts sound)

  pub Implies-last : IsSound lawful clauses old → is_chosen last.reason ≡ false
      → Implies lawful clauses (truths_of new) last.lit last.reason
  Implies-last sound implied = AreImplied-last lawful clauses (no_truths new.atoms) new.steps last (sound_parts sound) implied

  -- The truths with it are those before it and its own.
  truths_of-last : truths_of old ≡ with_lit (truths_of new) last.lit
  truths_of-last =
      ap (λ (n : ℕ). truths_after (no_truths n) old.steps) (sym atoms)
      ∙ (ap (truths_after (no_truths new.atoms)) steps ∙ truths_after-push (no_truths new.atoms) new.steps last)

  pub IsConflict-last : (conflict : List Lit) → IsConflict lawful clauses (truths_of old) conflict
      → IsConflict lawful clauses (with_lit (truths_of new) last.lit) conflict
  IsConflict-last conflict is = subst (λ (ts : List (Option Bool)). IsConflict lawful clauses ts conflict) truths_of-last is

  -- What is left of a conflict when an implied step goes.
  pub IsConflict-before : (conflict : List Lit) → IsSound lawful clauses old → is_chosen last.reason ≡ false → last.lit.atom < new.atoms
      → IsConflict lawful clauses (truths_of old) conflict
      → IsConflict lawful clauses (truths_of new) (resolved_by conflict (reason_lits clauses last.reason) last.lit.atom)
  IsConflict-before conflict sound implied within is =
      IsConflict-resolved lawful clauses (truths_of new) last.lit last.reason conflict
      (subst (λ (n : ℕ). last.lit.atom < n) (sym (length-truths new.atoms new.steps)) within)
      (Implies-last sound implied) (IsConflict-last conflict is)

-- Where no step is left, a conflict says that there is no model.
pub HasNoModel-from_start : (lawful : List Value → (ℕ → Bool) → Type 0) (clauses : List (List Lit)) (trail : Course) (conflict : List Lit)
    → length trail.steps ≡ 0 → IsConflict lawful clauses (truths_of trail) conflict → HasNoModel lawful clauses
HasNoModel-from_start lawful clauses trail conflict none is =
    HasNoModel-from_conflict lawful clauses trail.atoms conflict
    (subst (λ (ss : List Step). IsConflict lawful clauses (truths_after (no_truths trail.atoms) ss) conflict) (empty trail.steps none) is)
  where
    empty : (steps : List Step) → length steps ≡ 0 → steps ≡ []
    empty [] is_none = refl
    empty (step ∷ more) is_none = absurd (omega arith)

-- Once a choice is turned, the rank is above that of each trail that began with it.
pub turned_rises : {E : Type 0} (result : Result (Option (List Lit)) E) (old front new : Course) (last : Step) (turned : Lit)
    (reason : Reason)
    → front.atoms ≡ old.atoms → old.steps ≡ front.steps ++ last ∷ [] → length front.steps < front.atoms → is_chosen last.reason ≡ true
    → is_chosen reason ≡ false → IfOk result (λ next. IfNone next (new ≡ with_step front turned reason))
    → IfOk result (λ next. IfNone next ((rest : List Step) → rank_of (record old { steps = old.steps ++ rest }) < rank_of new))
turned_rises (Ok None) old front new last turned reason atoms steps room chosen implied is =
    rank-rises old front new last turned reason atoms steps is room chosen implied
turned_rises (Ok (Some next)) old front new last turned reason atoms steps room chosen implied is = tt
turned_rises (Err error) old front new last turned reason atoms steps room chosen implied is = tt
