use Rattle.std.proofs.Common.{ℕ, zero, suc, ◌≡◌, ◌<◌, Bool, true, false, not, cond, ◌==◌, List, [], ◌∷◌, filter, find, set, All, Contains}
use Rattle.std.proofs.Common.{Option, None, Some, refl, sym, ap, ◌∙◌, subst, ⊎_elim, eqb, eq-eqb}
use Rattle.std.specs.List.{list_any, list_all}
use Rattle.std.proofs.lemmas.Bool.{cases_eq, ne_eqb, and_parts, and_from, or_parts, false≢true}
use Rattle.std.proofs.lemmas.List.Folds.{list_all-append}
use Rattle.std.proofs.lemmas.List.Elements.{All-head, All-tail, All-contains}
use Rattle.mbqi_values.specs.declared.lit.Lit.{Lit}
use Rattle.mbqi_values.specs.Clauses.{AreBelow}
use Rattle.clause_search.specs.Course.{no_truths}
use Rattle.clause_search.specs.Resolvent.{contains_lit, without, missing_in, resolvent_of}
use Rattle.clause_search.specs.Truths.{atom_on, lit_on, is_true, is_false, is_free, true_on, false_on}
use Rattle.clause_search.proofs.TruthsAt.{lit_on-set_other, lit_on-kept, atom_on-free, some-from_false}

-- Clauses that are false.

-- A truth that is neither true nor none is false.
pub is_false-from : (truth : Option Bool) → is_true truth ≡ false → is_free truth ≡ false → is_false truth ≡ true
is_false-from None not_true not_free = cc
is_false-from (Some true) not_true not_free = cc
is_false-from (Some false) not_true not_free = refl

-- A test that finds nothing fails at the first element, and finds nothing in the rest.
find-none : {X : Type 0} (test : X → Bool) (x : X) (xs : List X) → find test (x ∷ xs) ≡ None → (test x ≡ false) × (find test xs ≡ None)
find-none test x xs none =
    elim (test x) as (λ b. cond b (Some x) (find test xs) ≡ None → (b ≡ false) × (find test xs ≡ None))
    [ true ↦ λ h. cc | false ↦ λ h. (refl, h) ] none

-- A clause that isn't true and has no free literal is false.
pub false_on-from_none : (truths : List (Option Bool)) (clause : List Lit) → true_on truths clause ≡ false
    → find (λ lit. is_free (lit_on truths lit)) clause ≡ None → false_on truths clause ≡ true
false_on-from_none truths [] not_true none = refl
false_on-from_none truths (lit ∷ clause) not_true none =
    let parts = or_parts (is_true (lit_on truths lit)) (true_on truths clause) not_true in
    let fails = find-none (λ (l : Lit). is_free (lit_on truths l)) lit clause none in
    and_from _ _ (is_false-from (lit_on truths lit) parts.0 fails.0) (false_on-from_none truths clause parts.1 fails.1)

-- What is found passes the test, and has what all elements have.
pub find-passes : {X : Type 0} (test : X → Bool) (xs : List X) (found : X) → find test xs ≡ Some found → test found ≡ true
find-passes test [] found is = cc
find-passes test (x ∷ xs) found is =
    (elim (test x) as (λ b. test x ≡ b → cond b (Some x) (find test xs) ≡ Some found → test found ≡ true) [
      | true ↦
          λ passes h. (let same : x ≡ found = cc in subst (λ (y : _). test y ≡ true) same passes)
      | false ↦
          λ fails h. find-passes test xs found h
    ]) refl is

pub find-All : {X : Type 0} (P : X → Type 0) (test : X → Bool) (xs : List X) (found : X) → All P xs → find test xs ≡ Some found → P found
find-All P test [] found each is = absurd (cc)
find-All P test (x ∷ xs) found each is =
    (elim (test x) as (λ b. cond b (Some x) (find test xs) ≡ Some found → P found) [
      | true ↦ λ h. (let same : x ≡ found = cc in subst P same (All-head P x xs each))
      | false ↦
          λ h. find-All P test xs found (All-tail P x xs each) h
    ]) is

-- A literal that is found free may be tried.
pub free_lit-within : (atoms : ℕ) (truths : List (Option Bool)) (clauses : List (List Lit)) (clause : List Lit) (lit : Lit)
    → AreBelow atoms clauses → Contains clauses clause → find (λ l. is_free (lit_on truths l)) clause ≡ Some lit → lit.atom < atoms
free_lit-within atoms truths clauses clause lit below member found =
    let free : Lit → Bool = λ l. is_free (lit_on truths l) in
    let IsBelow : Lit → Type 0 = λ l. l.atom < atoms in
    find-All IsBelow free clause lit (All-contains (All IsBelow) clauses clause below member) found

pub free_lit-free : (truths : List (Option Bool)) (clause : List Lit) (lit : Lit) → find (λ l. is_free (lit_on truths l)) clause ≡ Some lit
    → atom_on truths lit.atom ≡ None
free_lit-free truths clause lit found =
    let free : Lit → Bool = λ l. is_free (lit_on truths l) in
    atom_on-free truths lit (find-passes free clause lit found)

-- A false clause stays so when a free atom gets a truth.
pub false_on-kept : (truths : List (Option Bool)) (atom : ℕ) (truth : Option Bool) (clause : List Lit) → atom_on truths atom ≡ None
    → false_on truths clause ≡ true → false_on (set truths atom truth) clause ≡ true
false_on-kept truths atom truth [] free is = refl
false_on-kept truths atom truth (lit ∷ clause) free is =
    let parts = and_parts (is_false (lit_on truths lit)) (false_on truths clause) is in
    and_from _ _ (ap is_false (lit_on-kept truths atom truth lit free (some-from_false (lit_on truths lit) parts.0)) ∙ parts.0)
    (false_on-kept truths atom truth clause free parts.1)

-- Without the atom's literals, a clause is false before the atom got its truth.
pub false_on-without : (truths : List (Option Bool)) (atom : ℕ) (truth : Option Bool) (clause : List Lit)
    → false_on (set truths atom truth) clause ≡ true → false_on truths (without atom clause) ≡ true
false_on-without truths atom truth [] is = refl
false_on-without truths atom truth (lit ∷ clause) is =
    let parts = and_parts (is_false (lit_on (set truths atom truth) lit)) (false_on (set truths atom truth) clause) is in
    let rest = false_on-without truths atom truth clause parts.1 in
    let Goal : Bool → Type 0 = λ b. false_on truths (cond (not b) (lit ∷ without atom clause) (without atom clause)) ≡ true in
    ⊎_elim
    (λ (same : lit.atom ≡ atom). subst Goal (sym (eq-eqb lit.atom atom same)) rest)
    (λ (other : lit.atom ≡ atom → ⊥). subst Goal (sym (ne_eqb lit.atom atom other))
    (and_from _ _ (ap is_false (sym (lit_on-set_other truths atom truth lit other)) ∙ parts.0) rest))
    (cases_eq lit.atom atom)

-- A clause that doesn't mention the atom loses no literal.
without-unmentioned : (atom : ℕ) (clause : List Lit) → list_any (λ lit. lit.atom == atom) clause ≡ false → without atom clause ≡ clause
without-unmentioned atom [] is = refl
without-unmentioned atom (lit ∷ clause) is =
    let parts = or_parts (eqb lit.atom atom) (list_any (λ (l : Lit). l.atom == atom) clause) is in
    rw parts.0 (ap (λ (c : List Lit). lit ∷ c) (without-unmentioned atom clause parts.1))

pub false_on-unmentioned : (truths : List (Option Bool)) (atom : ℕ) (truth : Option Bool) (clause : List Lit)
    → list_any (λ lit. lit.atom == atom) clause ≡ false → false_on (set truths atom truth) clause ≡ true → false_on truths clause ≡ true
false_on-unmentioned truths atom truth clause unmentioned is =
    subst (λ (c : List Lit). false_on truths c ≡ true) (without-unmentioned atom clause unmentioned)
    (false_on-without truths atom truth clause is)

-- A part of a false clause is false.
list_all-filter : {X : Type 0} (test keep : X → Bool) (xs : List X) → list_all test xs ≡ true → list_all test (filter keep xs) ≡ true
list_all-filter test keep [] is = refl
list_all-filter test keep (x ∷ xs) is =
    let parts = and_parts (test x) (list_all test xs) is in
    let rest = list_all-filter test keep xs parts.1 in
    elim (keep x) as (λ b. list_all test (cond b (x ∷ filter keep xs) (filter keep xs)) ≡ true)
    [ true ↦ and_from _ _ parts.0 rest | false ↦ rest ]

-- The resolvent of clauses that are false with one truth of the atom and with the other is false before it has one.
pub false_on-resolvent : (truths : List (Option Bool)) (atom : ℕ) (one other : Option Bool) (left right : List Lit)
    → false_on (set truths atom one) left ≡ true → false_on (set truths atom other) right ≡ true
    → false_on truths (resolvent_of left right atom) ≡ true
false_on-resolvent truths atom one other left right left_is right_is =
    let test : Lit → Bool = λ lit. is_false (lit_on truths lit) in
    list_all-append test (without atom left) (missing_in left (without atom right))
    ∙ and_from _ _ (false_on-without truths atom one left left_is)
    (list_all-filter test (λ lit. not (contains_lit left lit)) (without atom right) (false_on-without truths atom other right right_is))

-- Without truths, no clause but the empty one is false.
none_on : (atoms atom : ℕ) → atom_on (no_truths atoms) atom ≡ None
none_on zero atom = refl
none_on (suc atoms) zero = refl
none_on (suc atoms) (suc atom) = none_on atoms atom

pub false_on-none : (atoms : ℕ) (clause : List Lit) → false_on (no_truths atoms) clause ≡ true → clause ≡ []
false_on-none atoms [] is = refl
false_on-none atoms (lit ∷ clause) is =
    let parts = and_parts (is_false (lit_on (no_truths atoms) lit)) (false_on (no_truths atoms) clause) is in
    absurd (false≢true (rw (none_on atoms lit.atom) at parts.0))
