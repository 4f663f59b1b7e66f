use Rattle.std.proofs.Common.{ℕ, ◌≡◌, ◌<◌, Bool, true, List, [], ◌∷◌, ◌++◌, map, Option, None, Some, Result, IfOk}
use Rattle.std.proofs.Common.{IfSome, OnSome, sym, subst}
use Rattle.std.proofs.lemmas.List.{length-replicate}
use Rattle.std.proofs.lemmas.Result.{IfOk-weaker}
use Rattle.mbqi_values.specs.declared.lit.Lit.{Lit}
use Rattle.mbqi_values.specs.declared.value.Value.{Value}
use Rattle.theory_trait.specs.Content.{AreAmong}
use Rattle.theory_trait.specs.Valuation.{HasNone}
use Rattle.clause_search.specs.Course.{lits_of, no_truths, reason_lits, truths_of, with_lit, AreFresh, Course}
use Rattle.clause_search.specs.Following.{IsConflict, IsLemma}
use Rattle.clause_search.specs.Resolvent.{negation, resolvent_of}
use Rattle.clause_search.specs.Standing.{Implies}
use Rattle.clause_search.specs.Truths.{atom_on, false_on}
use Rattle.clause_search.specs.declared.step.Reason.{Reason}
use Rattle.clause_search.proofs.FreshSteps.{length-truths}
use Rattle.clause_search.proofs.Refusals.{refusal_false, IsLemma-negations}
use Rattle.clause_search.proofs.Resolution.{IsConflict-resolvent}

-- Where conflicts and reasons come from.

-- What a value has, a result has that is this value.
pub IfOk-at : {X E : Type 0} (r : Result X E) (x : X) (P : X → Type 0) → IfOk r (λ y. y ≡ x) → P x → IfOk r P
IfOk-at r x P is holds = IfOk-weaker r (λ y. y ≡ x) P (λ y same. subst P (sym same) holds) is

-- After a clash the negation of what is lent holds in the theory, and is false once the literal is true.
pub refusal_holds : (lawful : List Value → (ℕ → Bool) → Type 0) (clashed : Option Lit) (lit : Lit) (lent : List Lit) → clashed ≡ Some lit
    → OnSome clashed (HasNone lawful lent) → IsLemma lawful (map negation lent)
refusal_holds lawful clashed lit lent is none =
    IsLemma-negations lawful lent (subst (λ (o : Option Lit). OnSome o (HasNone lawful lent)) is none)

pub refusal_fails : (trail : Course) (clashed : Option Lit) (lit : Lit) (content lent : List Lit)
    → AreFresh (no_truths trail.atoms) trail.steps → lit.atom < trail.atoms → atom_on (truths_of trail) lit.atom ≡ None
    → content ≡ lits_of trail.steps → clashed ≡ Some lit → IfSome clashed (λ l. AreAmong (content ++ l ∷ []) lent)
    → false_on (with_lit (truths_of trail) lit) (map negation lent) ≡ true
refusal_fails trail clashed lit content lent fresh within free are is part =
    let None' : Option Bool = None in
    let among : AreAmong (content ++ lit ∷ []) lent =
    subst (λ (o : Option Lit). IfSome o (λ l. AreAmong (content ++ l ∷ []) lent)) is part in
    refusal_false (no_truths trail.atoms) trail.steps lit lent fresh
    (subst (λ (n : ℕ). lit.atom < n) (sym (length-replicate trail.atoms None')) within) free
    (subst (λ (lits : List Lit). AreAmong (lits ++ lit ∷ []) lent) are among)

-- A refused literal that was implied: the refusal is resolved with its reason.
pub refuted_conflict : (lawful : List Value → (ℕ → Bool) → Type 0) (clauses : List (List Lit)) (trail : Course) (lit : Lit)
    (reason : Reason) (clause : List Lit)
    → lit.atom < trail.atoms → IsLemma lawful clause → false_on (with_lit (truths_of trail) lit) clause ≡ true
    → Implies lawful clauses (truths_of trail) lit reason
    → IsConflict lawful clauses (truths_of trail) (resolvent_of clause (reason_lits clauses reason) lit.atom)
refuted_conflict lawful clauses trail lit reason clause within holds is implied =
    IsConflict-resolvent lawful clauses (truths_of trail) lit.atom lit.yes clause (reason_lits clauses reason)
    (subst (λ (n : ℕ). lit.atom < n) (sym (length-truths trail.atoms trail.steps)) within)
    (λ values v law _. holds values v law) implied.follows is implied.is_false
