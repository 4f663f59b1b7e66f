use Rattle.std.proofs.Common.{ℕ, ◌≡◌, ◌+◌, ◌-◌, ◌<◌, ◌≤◌, Bool, true, false, List, [], ◌∷◌, ◌++◌, length, Option, None, Some, Result, Ok}
use Rattle.std.proofs.Common.{Err, IfOk, IfNone, is_some, sym, ap, ◌∙◌, subst, arith, append_assoc, length-append}
use Rattle.std.proofs.Common.{get_or-set_same}
use Rattle.mbqi_values.specs.declared.lit.Lit.{Lit}
use Rattle.mbqi_values.specs.declared.value.Value.{Value}
use Rattle.clause_search.specs.Course.{is_chosen, no_truths, truths_of, with_lit, with_step, AreFresh, Course, Extends}
use Rattle.clause_search.specs.Rank.{power_of_three, rank_from, rank_of}
use Rattle.clause_search.specs.Standing.{Implies, IsSound}
use Rattle.clause_search.specs.Truths.{atom_on}
use Rattle.clause_search.specs.declared.step.Reason.{Reason}
use Rattle.clause_search.specs.declared.step.Step.{Step}
use Rattle.clause_search.proofs.FreshSteps.{length-truths, steps_fit, truths_after-push}
use Rattle.clause_search.proofs.Ranks.{rank-append, rank-below, rank-more, rank-turned}
use Rattle.clause_search.proofs.SoundSteps.{AreImplied-push}

-- Trails that grow.

pub Extends-trans : (old between new : Course) → Extends old between → Extends between new → Extends old new
Extends-trans old between new first then_ = (
  first.0 ++ then_.0,
  then_.1 ∙ (ap (λ (t : Course). record t { steps = t.steps ++ then_.0 }) first.1
      ∙ (λ i. record old { steps = append_assoc old.steps first.0 then_.0 i })),
)

pub Extends-atoms : (old new : Course) → Extends old new → new.atoms ≡ old.atoms
Extends-atoms old new extends = ap (λ (t : Course). t.atoms) extends.1

steps-extended : (old new : Course) (extends : Extends old new) → new.steps ≡ old.steps ++ extends.0
steps-extended old new extends = ap (λ (t : Course). t.steps) extends.1

-- One more step: the truths, and that its atom has one.
pub truths_of-step : (trail : Course) (lit : Lit) (reason : Reason)
    → truths_of (with_step trail lit reason) ≡ with_lit (truths_of trail) lit
truths_of-step trail lit reason =
    truths_after-push (no_truths trail.atoms) trail.steps (record { lit = lit; reason = reason })

pub step_decides : (old new : Course) (lit : Lit) (reason : Reason) → new ≡ with_step old lit reason → lit.atom < old.atoms
    → is_some (atom_on (truths_of new) lit.atom) ≡ true
step_decides old new lit reason same within =
    let inside : lit.atom < length (truths_of old) = subst (λ (n : ℕ). lit.atom < n) (sym (length-truths old.atoms old.steps)) within in
    let truths : truths_of new ≡ with_lit (truths_of old) lit = ap truths_of same ∙ truths_of-step old lit reason in
    ap (λ (ts : List (Option Bool)). is_some (atom_on ts lit.atom)) truths
    ∙ ap is_some (get_or-set_same (truths_of old) lit.atom (Some lit.yes) None inside)

-- A step that is implied, or chosen, keeps the others sound.
pub IsSound-step : (lawful : List Value → (ℕ → Bool) → Type 0) (clauses : List (List Lit)) (old new : Course) (lit : Lit) (reason : Reason)
    → new ≡ with_step old lit reason → IsSound lawful clauses old
    → (is_chosen reason ≡ false → Implies lawful clauses (truths_of old) lit reason) → IsSound lawful clauses new
IsSound-step lawful clauses old new lit reason same sound implied =
    subst (IsSound lawful clauses) (sym same)
    (AreImplied-push lawful clauses (no_truths old.atoms) old.steps (record { lit = lit; reason = reason }) sound implied)

-- The rank doesn't fall as the trail grows, and rises where it has more steps.
pub rank-extends : (old new : Course) → Extends old new → rank_of old ≤ rank_of new
rank-extends old new extends =
    subst (λ (t : Course). rank_of old ≤ rank_of t) (sym extends.1) (rank-append old.atoms old.steps extends.0)

pub rank-grows : (old new : Course) → Extends old new → AreFresh (no_truths new.atoms) new.steps → length old.steps < length new.steps
    → rank_of old < rank_of new
rank-grows old new extends fresh more =
    let all : length new.steps ≡ length old.steps + length extends.0 = ap length (steps-extended old new extends)
    ∙ length-append old.steps extends.0 in
    let fits = steps_fit new.atoms new.steps fresh in
    let same = Extends-atoms old new extends in
    subst (λ (t : Course). rank_of old < rank_of t) (sym extends.1) (rank-more old.atoms old.steps extends.0 (omega arith) (omega arith))

-- A choice is turned: the rank is above that of each trail that began with the choice.
pub rank-rises : (old front new : Course) (last : Step) (turned : Lit) (reason : Reason) → front.atoms ≡ old.atoms
    → old.steps ≡ front.steps ++ last ∷ [] → new ≡ with_step front turned reason → length front.steps < front.atoms
    → is_chosen last.reason ≡ true → is_chosen reason ≡ false → (rest : List Step)
    → rank_of (record old { steps = old.steps ++ rest }) < rank_of new
rank-rises old front new last turned reason atoms steps same room chosen implied rest =
    let next : Step = record { lit = turned; reason = reason } in
    let rises : rank_from front.atoms (front.steps ++ last ∷ rest) < rank_from front.atoms (front.steps ++ next ∷ []) =
    rank-turned front.atoms front.steps last next rest room chosen implied in
    let before : old.steps ++ rest ≡ front.steps ++ last ∷ rest = ap (λ (ss : List Step). ss ++ rest) steps
    ∙ append_assoc front.steps (last ∷ []) rest in
    let moved : rank_from old.atoms (old.steps ++ rest) < rank_from front.atoms (front.steps ++ next ∷ []) =
    subst (λ (n : ℕ). rank_from n (old.steps ++ rest) < rank_from front.atoms (front.steps ++ next ∷ [])) atoms
    (subst (λ (ss : List Step). rank_from front.atoms ss < rank_from front.atoms (front.steps ++ next ∷ [])) (sym before) rises) in
    subst (λ (t : Course). rank_of (record old { steps = old.steps ++ rest }) < rank_of t) (sym same) moved

-- As the rank rises, it comes nearer to its bound.
pub rank-nearer : (old new : Course) → new.atoms ≡ old.atoms → rank_of old < rank_of new
    → power_of_three new.atoms - rank_of new < power_of_three old.atoms - rank_of old
rank-nearer old new atoms rises =
    let below : rank_of new < power_of_three new.atoms = rank-below new.atoms new.steps in
    let same : power_of_three new.atoms ≡ power_of_three old.atoms = ap power_of_three atoms in
    omega arith

pub decided_by_step : {E : Type 0} (result : Result (Option (List Lit)) E) (old new : Course) (lit : Lit) (reason : Reason) (atom : ℕ)
    → lit.atom ≡ atom → lit.atom < old.atoms → IfOk result (λ conflict. IfNone conflict (new ≡ with_step old lit reason))
    → IfOk result (λ conflict. IfNone conflict (is_some (atom_on (truths_of new) atom) ≡ true))
decided_by_step (Ok None) old new lit reason atom same within added =
    subst (λ (a : ℕ). is_some (atom_on (truths_of new) a) ≡ true) same (step_decides old new lit reason added within)
decided_by_step (Ok (Some conflict)) old new lit reason atom same within added = tt
decided_by_step (Err error) old new lit reason atom same within added = tt
