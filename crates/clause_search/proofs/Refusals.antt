use Rattle.std.proofs.Common.{ℕ, ◌≡◌, ◌<◌, Bool, true, false, not, if◌then◌else◌, List, [], ◌∷◌, ◌++◌, length, map, All, Contains, Option}
use Rattle.std.proofs.Common.{None, Some, refl, subst, ⊎_elim}
use Rattle.std.specs.Option.{option_map}
use Rattle.std.proofs.lemmas.Bool.{and_from, and_cases, or_left, or_right}
use Rattle.std.proofs.lemmas.List.{map_push}
use Rattle.std.proofs.lemmas.List.Elements.{All-contains, All-head, All-tail, All-weaker}
use Rattle.mbqi_values.specs.Clauses.{clause_true, lit_true}
use Rattle.mbqi_values.specs.declared.lit.Lit.{Lit}
use Rattle.mbqi_values.specs.declared.value.Value.{Value}
use Rattle.theory_trait.specs.Content.{AreAmong}
use Rattle.theory_trait.specs.Valuation.{lits_true, HasNone}
use Rattle.clause_search.specs.Course.{lits_of, truths_after, with_lit, AreFresh}
use Rattle.clause_search.specs.Following.{IsLemma}
use Rattle.clause_search.specs.Resolvent.{negation}
use Rattle.clause_search.specs.Truths.{atom_on, lit_on, is_true, is_false, false_on}
use Rattle.clause_search.specs.declared.step.Reason.TheVariants.{Chosen}
use Rattle.clause_search.specs.declared.step.Step.{Step}
use Rattle.clause_search.proofs.FreshSteps.{lits_hold, truths_after-push, AreFresh-push}

-- The negations of literals that a theory refuses.

-- One of them is true where some literal is false.
lit_true-negation : (v : ℕ → Bool) (lit : Lit) → lit_true v lit ≡ false → lit_true v (negation lit) ≡ true
lit_true-negation v lit is =
    (elim lit.yes as (λ yes. (if yes then v lit.atom else not (v lit.atom)) ≡ false
    → (if not yes then v lit.atom else not (v lit.atom)) ≡ true) [
      | true ↦ λ h. rw h refl
      | false ↦ λ h. (elim (v lit.atom) as (λ t. not t ≡ false → t ≡ true) [ true ↦ λ _. refl | false ↦ λ no. cc ]) h
    ]) is

negations_true : (v : ℕ → Bool) (lits : List Lit) → lits_true v lits ≡ false → clause_true v (map negation lits) ≡ true
negations_true v [] is = cc
negations_true v (lit ∷ lits) is =
    ⊎_elim
    (λ (here : lit_true v lit ≡ false). or_left (lit_true v (negation lit)) (clause_true v (map negation lits))
    (lit_true-negation v lit here))
    (λ (there : lits_true v lits ≡ false). or_right (lit_true v (negation lit)) (clause_true v (map negation lits))
    (negations_true v lits there))
    (and_cases (lit_true v lit) (lits_true v lits) is)

pub IsLemma-negations : (lawful : List Value → (ℕ → Bool) → Type 0) (lits : List Lit) → HasNone lawful lits
    → IsLemma lawful (map negation lits)
IsLemma-negations lawful lits none values v law = negations_true v lits (none values v law)

-- Each is false where its literal is true.
opposite : (yes : Bool) (truth : Option Bool) → is_true (option_map (λ u. if yes then u else not u) truth) ≡ true
    → is_false (option_map (λ u. if not yes then u else not u) truth) ≡ true
opposite sign None is = cc
opposite true (Some true) is = refl
opposite true (Some false) is = cc
opposite false (Some true) is = cc
opposite false (Some false) is = refl

negations_false : (truths : List (Option Bool)) (lits : List Lit) → All (λ lit. is_true (lit_on truths lit) ≡ true) lits
    → false_on truths (map negation lits) ≡ true
negations_false truths [] hold = refl
negations_false truths (lit ∷ lits) hold =
    let IsTrueHere : Lit → Type 0 = λ l. is_true (lit_on truths l) ≡ true in
    and_from _ _ (opposite lit.yes (atom_on truths lit.atom) (All-head IsTrueHere lit lits hold))
    (negations_false truths lits (All-tail IsTrueHere lit lits hold))

-- What a theory lends after a clash is true on the trail with the literal that clashed.
pub refusal_false : (truths : List (Option Bool)) (steps : List Step) (lit : Lit) (lent : List Lit) → AreFresh truths steps
    → lit.atom < length truths → atom_on (truths_after truths steps) lit.atom ≡ None → AreAmong (lits_of steps ++ lit ∷ []) lent
    → false_on (with_lit (truths_after truths steps) lit) (map negation lent) ≡ true
refusal_false truths steps lit lent fresh within free among =
    let step : Step = record { lit = lit; reason = Chosen } in
    let IsTrueHere : Lit → Type 0 = λ l. is_true (lit_on (with_lit (truths_after truths steps) lit) l) ≡ true in
    let all = lits_hold truths (steps ++ step ∷ []) (AreFresh-push truths steps step fresh within free) in
    let on_trail : All IsTrueHere (lits_of (steps ++ step ∷ [])) =
    subst (λ (ts : List (Option Bool)). All (λ l. is_true (lit_on ts l) ≡ true) (lits_of (steps ++ step ∷ [])))
    (truths_after-push truths steps step) all in
    let with_last : All IsTrueHere (lits_of steps ++ lit ∷ []) =
    subst (All IsTrueHere) (map_push (λ (s : Step). s.lit) steps step) on_trail in
    negations_false (with_lit (truths_after truths steps) lit) lent
    (All-weaker (Contains (lits_of steps ++ lit ∷ [])) IsTrueHere
    (λ l member. All-contains IsTrueHere (lits_of steps ++ lit ∷ []) l with_last member) lent among)
