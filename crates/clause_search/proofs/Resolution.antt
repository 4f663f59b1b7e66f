use Rattle.std.proofs.Common.{ℕ, ◌≡◌, ◌<◌, ◌⊎◌, inl, inr, Bool, true, false, not, cond, ◌==◌, if◌then◌else◌, List, [], ◌∷◌, ◌++◌, length}
use Rattle.std.proofs.Common.{set, Contains, Option, Some, refl, sym, ap, ◌∙◌, subst, ⊎_elim, eqb, eq-eqb}
use Rattle.std.specs.List.{list_any}
use Rattle.std.proofs.lemmas.Bool.{cases_eq, ne_eqb, eqb-true, and_parts, or_cases, or_left, or_right, cases_Bool, false≢true, not-true}
use Rattle.std.proofs.lemmas.List.Folds.{list_any-append}
use Rattle.std.proofs.lemmas.List.Recursion.{and_at}
use Rattle.mbqi_values.specs.declared.lit.Lit.{Lit}
use Rattle.mbqi_values.specs.declared.value.Value.{Value}
use Rattle.clause_search.specs.Course.{no_truths, reason_lits, with_lit}
use Rattle.clause_search.specs.Following.{Follows, HasNoModel, IsConflict}
use Rattle.clause_search.specs.Standing.{Implies}
use Rattle.clause_search.specs.declared.step.Reason.{Reason}
use Rattle.clause_search.specs.Resolvent.{same_lit, contains_lit, without, missing_in, resolvent_of, resolved_by}
use Rattle.clause_search.specs.Truths.{lit_on, is_true, is_false, false_on}
use Rattle.clause_search.proofs.TruthsAt.{lit_on-set_same}
use Rattle.clause_search.proofs.FalseClauses.{false_on-none, false_on-resolvent, false_on-unmentioned}
use Rattle.mbqi_values.specs.Clauses.{lit_true, clause_true, all_true}

-- What follows from clauses.

-- A literal of an atom whose truth is the valuation's, and which is false with it, is false.
lit_true-false_on : (v : ℕ → Bool) (truths : List (Option Bool)) (truth : Bool) (lit : Lit) → lit.atom < length truths → v lit.atom ≡ truth
    → is_false (lit_on (set truths lit.atom (Some truth)) lit) ≡ true → lit_true v lit ≡ false
lit_true-false_on v truths truth lit within agrees is =
    rw agrees (not-true (if lit.yes then truth else not truth) (ap is_false (sym (lit_on-set_same truths truth lit within)) ∙ is))

-- Where the valuation gives the atom the truth of a branch, a clause that is false in that branch is true by its
-- other literals.
pub clause_true-without : (v : ℕ → Bool) (truths : List (Option Bool)) (atom : ℕ) (truth : Bool) (clause : List Lit) → atom < length truths
    → v atom ≡ truth → false_on (set truths atom (Some truth)) clause ≡ true → clause_true v clause ≡ true
    → clause_true v (without atom clause) ≡ true
clause_true-without v truths atom truth [] within agrees is_false_on is_true = is_true
clause_true-without v truths atom truth (lit ∷ clause) within agrees is_false_on is_true =
    let parts = and_parts (is_false (lit_on (set truths atom (Some truth)) lit)) (false_on (set truths atom (Some truth)) clause)
    is_false_on in
    let Goal : Bool → Type 0 = λ b. clause_true v (cond (not b) (lit ∷ without atom clause) (without atom clause)) ≡ true in
    ⊎_elim
    (λ (same : lit.atom ≡ atom).
    let Within : ℕ → Type 0 = λ a. a < length truths in
    let Agrees : ℕ → Type 0 = λ a. v a ≡ truth in
    let Fails : ℕ → Type 0 = λ a. is_false (lit_on (set truths a (Some truth)) lit) ≡ true in
    let fails = lit_true-false_on v truths truth lit (subst Within (sym same) within) (subst Agrees (sym same) agrees)
    (subst Fails (sym same) parts.0) in
    let by_others : clause_true v clause ≡ true = (rw fails at is_true) in
    subst Goal (sym (eq-eqb lit.atom atom same)) (clause_true-without v truths atom truth clause within agrees parts.1 by_others))
    (λ (other : lit.atom ≡ atom → ⊥).
    subst Goal (sym (ne_eqb lit.atom atom other)) (⊎_elim
    (λ (here : lit_true v lit ≡ true). or_left (lit_true v lit) (clause_true v (without atom clause)) here)
    (λ (there : clause_true v clause ≡ true). or_right (lit_true v lit) (clause_true v (without atom clause))
    (clause_true-without v truths atom truth clause within agrees parts.1 there))
    (or_cases (lit_true v lit) (clause_true v clause) is_true)))
    (cases_eq lit.atom atom)

-- Two truths of one sign.
same_sign : (a b : Bool) → (if a then b else not b) ≡ true → a ≡ b
same_sign true true is = refl
same_sign true false is = cc
same_sign false true is = cc
same_sign false false is = refl

-- A truth is another or its negation.
same_or_not : (a b : Bool) → (a ≡ b) ⊎ (a ≡ not b)
same_or_not true true = inl refl
same_or_not true false = inr refl
same_or_not false true = inr refl
same_or_not false false = inl refl

-- Literals that are the same are equal.
pub same_lit-equal : (a b : Lit) → same_lit a b ≡ true → a ≡ b
same_lit-equal a b same =
    let parts = and_parts (eqb a.atom b.atom) (if a.yes then b.yes else not b.yes) same in
    let atoms : a.atom ≡ b.atom = eqb-true a.atom b.atom parts.0 in
    let signs : a.yes ≡ b.yes = same_sign a.yes b.yes parts.1 in
    λ i. record { atom = atoms i; yes = signs i }

-- A literal that stands among those, and not with the atom, makes them true without the atom.
clause_true-contains : (v : ℕ → Bool) (atom : ℕ) (clause : List Lit) (lit : Lit) → contains_lit clause lit ≡ true
    → eqb lit.atom atom ≡ false → lit_true v lit ≡ true → clause_true v (without atom clause) ≡ true
clause_true-contains v atom [] lit member other is = absurd (false≢true member)
clause_true-contains v atom (head ∷ clause) lit member other is =
    ⊎_elim
    (λ (here : same_lit head lit ≡ true).
    let Goal : Lit → Type 0 = λ l. clause_true v (cond (not (eqb l.atom atom)) (l ∷ without atom clause) (without atom clause)) ≡ true in
    subst Goal (sym (same_lit-equal head lit here)) (rw other (or_left (lit_true v lit) (clause_true v (without atom clause)) is)))
    (λ (there : contains_lit clause lit ≡ true).
    let rest = clause_true-contains v atom clause lit there other is in
    elim (eqb head.atom atom) as (λ b. clause_true v (cond (not b) (head ∷ without atom clause) (without atom clause)) ≡ true)
    [ true ↦ rest | false ↦ or_right (lit_true v head) (clause_true v (without atom clause)) rest ])
    (or_cases (same_lit head lit) (contains_lit clause lit) member)

-- One literal more in the right clause.
missing-step : (v : ℕ → Bool) (atom : ℕ) (left right : List Lit) (lit : Lit) → eqb lit.atom atom ≡ false
    → (clause_true v (without atom right) ≡ true
    → (clause_true v (without atom left) ≡ true) ⊎ (clause_true v (missing_in left (without atom right)) ≡ true))
    → clause_true v (lit ∷ without atom right) ≡ true
    → (clause_true v (without atom left) ≡ true) ⊎ (clause_true v (missing_in left (lit ∷ without atom right)) ≡ true)
missing-step v atom left right lit other rest is =
    let others = missing_in left (without atom right) in
    let Goal : Bool → Type 0 = λ b. (clause_true v (without atom left) ≡ true) ⊎
    (clause_true v (cond (not b) (lit ∷ others) others) ≡ true) in
    (elim (contains_lit left lit) as (λ b. contains_lit left lit ≡ b → Goal b) [
      | true ↦ λ member. ⊎_elim
          (λ (here : lit_true v lit ≡ true). inl (clause_true-contains v atom left lit member other here))
          rest
          (or_cases (lit_true v lit) (clause_true v (without atom right)) is)
      | false ↦ λ _. ⊎_elim
          (λ (here : lit_true v lit ≡ true). inr (or_left (lit_true v lit) (clause_true v others) here))
          (λ (there : clause_true v (without atom right) ≡ true). ⊎_elim
          (λ (h : clause_true v (without atom left) ≡ true). inl h)
          (λ (h : clause_true v others ≡ true). inr (or_right (lit_true v lit) (clause_true v others) h))
          (rest there))
          (or_cases (lit_true v lit) (clause_true v (without atom right)) is)
    ]) refl

-- The right clause's true literal is in the resolvent.
clause_true-missing : (v : ℕ → Bool) (atom : ℕ) (left right : List Lit) → clause_true v (without atom right) ≡ true
    → (clause_true v (without atom left) ≡ true) ⊎ (clause_true v (missing_in left (without atom right)) ≡ true)
clause_true-missing v atom left [] is = inr is
clause_true-missing v atom left (lit ∷ right) is =
    let Goal : Bool → Type 0 = λ b. (clause_true v (cond (not b) (lit ∷ without atom right) (without atom right)) ≡ true)
    → (clause_true v (without atom left) ≡ true) ⊎ (clause_true v
    (missing_in left (cond (not b) (lit ∷ without atom right) (without atom right))) ≡ true) in
    let rest = clause_true-missing v atom left right in
    (elim (eqb lit.atom atom) as (λ b. eqb lit.atom atom ≡ b → Goal b)
    [ true ↦ λ _ h. rest h | false ↦ λ other h. missing-step v atom left right lit other rest h ]) refl is

-- Where two clauses are true, and false with one truth of the atom and with the other, their resolvent is true.
pub clause_true-resolvent : (v : ℕ → Bool) (truths : List (Option Bool)) (atom : ℕ) (sign : Bool) (left right : List Lit)
    → atom < length truths → clause_true v left ≡ true → clause_true v right ≡ true → false_on (set truths atom (Some sign)) left ≡ true
    → false_on (set truths atom (Some (not sign))) right ≡ true → clause_true v (resolvent_of left right atom) ≡ true
clause_true-resolvent v truths atom sign left right within left_true right_true left_is right_is =
    let others = without atom left in
    let missing = missing_in left (without atom right) in
    let join : (clause_true v others ≡ true) ⊎ (clause_true v missing ≡ true) → clause_true v (others ++ missing) ≡ true =
    λ parts. list_any-append (lit_true v) others missing
    ∙ ⊎_elim (λ (h : clause_true v others ≡ true). or_left _ _ h) (λ (h : clause_true v missing ≡ true). or_right _ _ h) parts in
    ⊎_elim
    (λ (agrees : v atom ≡ sign). join (inl (clause_true-without v truths atom sign left within agrees left_is left_true)))
    (λ (agrees : v atom ≡ not sign). join (clause_true-missing v atom left right
    (clause_true-without v truths atom (not sign) right within agrees right_is right_true)))
    (same_or_not (v atom) sign)

-- Each of the clauses follows.
pub Follows-member : (lawful : List Value → (ℕ → Bool) → Type 0) (clauses : List (List Lit)) (clause : List Lit) → Contains clauses clause
    → Follows lawful clauses clause
Follows-member lawful clauses clause member values v law is =
    subst (λ (c : List Lit). clause_true v c ≡ true) member.2
    (and_at (all_true v) (clause_true v) refl (λ _ _. refl) clauses member.0 clause member.1 is)

-- Two conflicts, one with each truth of an atom, give one before it has a truth.
pub IsConflict-resolvent : (lawful : List Value → (ℕ → Bool) → Type 0) (clauses : List (List Lit)) (truths : List (Option Bool)) (atom : ℕ)
    (sign : Bool) (left right : List Lit)
    → atom < length truths → Follows lawful clauses left → Follows lawful clauses right → false_on (set truths atom (Some sign)) left ≡ true
    → false_on (set truths atom (Some (not sign))) right ≡ true → IsConflict lawful clauses truths (resolvent_of left right atom)
IsConflict-resolvent lawful clauses truths atom sign left right within left_follows right_follows left_is right_is =
    record {
      follows = λ values v law holds. clause_true-resolvent v truths atom sign left right within (left_follows values v law holds)
          (right_follows values v law holds) left_is right_is;
      is_false = false_on-resolvent truths atom (Some sign) (Some (not sign)) left right left_is right_is;
    }

-- The reason of the last literal is resolved out of a conflict, if that has the literal.
pub IsConflict-resolved : (lawful : List Value → (ℕ → Bool) → Type 0) (clauses : List (List Lit)) (truths : List (Option Bool)) (lit : Lit)
    (reason : Reason) (conflict : List Lit)
    → lit.atom < length truths → Implies lawful clauses truths lit reason → IsConflict lawful clauses (with_lit truths lit) conflict
    → IsConflict lawful clauses truths (resolved_by conflict (reason_lits clauses reason) lit.atom)
IsConflict-resolved lawful clauses truths lit reason conflict within implied is =
    (elim (list_any (λ (l : Lit). eqb l.atom lit.atom) conflict) as (λ b. list_any (λ (l : Lit). eqb l.atom lit.atom) conflict ≡ b
    → IsConflict lawful clauses truths (cond b (resolvent_of conflict (reason_lits clauses reason) lit.atom) conflict)) [
      | true ↦ λ _. IsConflict-resolvent lawful clauses truths lit.atom lit.yes conflict (reason_lits clauses reason) within is.follows
          implied.follows is.is_false implied.is_false
      | false ↦ λ unmentioned. record {
        follows = is.follows;
        is_false = false_on-unmentioned truths lit.atom (Some lit.yes) conflict
            unmentioned is.is_false;
      }
    ]) refl

-- A conflict that hasn't the last literal was one before it.
pub IsConflict-unmentioned : (lawful : List Value → (ℕ → Bool) → Type 0) (clauses : List (List Lit)) (truths : List (Option Bool))
    (lit : Lit) (conflict : List Lit)
    → list_any (λ l. l.atom == lit.atom) conflict ≡ false → IsConflict lawful clauses (with_lit truths lit) conflict
    → IsConflict lawful clauses truths conflict
IsConflict-unmentioned lawful clauses truths lit conflict unmentioned is =
    record { follows = is.follows; is_false = false_on-unmentioned truths lit.atom (Some lit.yes) conflict unmentioned is.is_false }

-- Where a clause follows that is false without any truth, the clauses have no model.
pub HasNoModel-from_conflict : (lawful : List Value → (ℕ → Bool) → Type 0) (clauses : List (List Lit)) (atoms : ℕ) (conflict : List Lit)
    → IsConflict lawful clauses (no_truths atoms) conflict → HasNoModel lawful clauses
HasNoModel-from_conflict lawful clauses atoms conflict is values v law =
    let empty = false_on-none atoms conflict is.is_false in
    ⊎_elim
    (λ (holds : all_true v clauses ≡ true). absurd (false≢true (ap (clause_true v) (sym empty) ∙ is.follows values v law holds)))
    (λ (fails : all_true v clauses ≡ false). fails)
    (cases_Bool (all_true v clauses))
