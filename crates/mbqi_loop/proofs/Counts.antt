-- All choices over the pool in one list, which is as long as their count.
use Rattle.std.proofs.Common.{◌≡◌, ℕ, zero, suc, ◌+◌, ◌*◌, ◌≤◌, inl, inr, List, [], ◌∷◌, ◌++◌, length, map, Some, slice_get, refl, sym, ap, subst, ◌∙◌, arith, length-append}
use Rattle.std.specs.Prelude.{All, Contains}
use Rattle.std.specs.List.{flat_map}
use Rattle.std.proofs.lemmas.List.{length-map}
use Rattle.std.proofs.lemmas.List.Elements.{All-head, All-tail, recursion_from_All}
use Rattle.std.proofs.lemmas.Option.{slice_get_cases, slice_get_read}
use Rattle.mbqi_terms.specs.Distinct.{AreDistinct}
use Rattle.mbqi_terms.specs.declared.instance.InstanceLine.{InstanceLine}
use Rattle.mbqi_terms.specs.declared.script.Assertion.{Assertion}
use Rattle.mbqi_terms.specs.declared.script.Script.{Script}
use Rattle.mbqi_terms.specs.declared.term.Term.{Term}
use Rattle.mbqi_terms.proofs.Places.{all_at}
use Rattle.rule_form.specs.Rules.{IsChoice, count, count_from, formula_of, pool_terms, power, variables_of}
use Rattle.rule_form.specs.declared.choice.Choice.{Choice}
use Rattle.mbqi_loop.specs.Journal.{Lead, added_in}
use Rattle.mbqi_loop.specs.declared.outcome.Round.{Round}
use Rattle.mbqi_loop.proofs.Journals.{added_choices, added_distinct}

-- the element stands at some place
abbrev Stands : {X : Type 0} → List X → X → Type 0
Stands {X} xs x = (i : ℕ) × (slice_get xs i ≡ Some x)

stands_left : {X : Type 0} (xs ys : List X) (x : X) (i : ℕ) → slice_get xs i ≡ Some x → Stands (xs ++ ys) x
stands_left [] ys x i e = cc
stands_left (y ∷ xs) ys x zero e = (0, e)
stands_left (y ∷ xs) ys x (suc i) e = let h = stands_left xs ys x i e in (suc h.0, h.1)

stands_right : {X : Type 0} (xs ys : List X) (x : X) → Stands ys x → Stands (xs ++ ys) x
stands_right [] ys x there = there
stands_right (y ∷ xs) ys x there = let h = stands_right xs ys x there in (suc h.0, h.1)

stands_map : {X Y : Type 0} (f : X → Y) (xs : List X) (x : X) (i : ℕ) → slice_get xs i ≡ Some x → Stands (map f xs) (f x)
stands_map f [] x i e = cc
stands_map f (y ∷ xs) x zero e = let same : y ≡ x = cc in (0, ap (λ z. Some (f z)) same)
stands_map f (y ∷ xs) x (suc i) e = let h = stands_map f xs x i e in (suc h.0, h.1)

stands_flat : {X Y : Type 0} (f : X → List Y) (xs : List X) (x : X) (y : Y) (i : ℕ) → slice_get xs i ≡ Some x → Stands (f x) y → Stands (flat_map f xs) y
stands_flat f [] x y i e there = cc
stands_flat f (z ∷ xs) x y zero e there =
    let same : x ≡ z = cc in
    let here = subst (λ u. Stands (f u) y) same there in
    stands_left (f z) (flat_map f xs) y here.0 here.1
stands_flat f (z ∷ xs) x y (suc i) e there = stands_right (f z) (flat_map f xs) y (stands_flat f xs x y i e there)

-- the list without the element of a place
abbrev without : {X : Type 0} → ℕ → List X → List X
without j [] = []
without zero (y ∷ ys) = ys
without (suc j) (y ∷ ys) = y ∷ without j ys

length-without : {X : Type 0} (j : ℕ) (ys : List X) (x : X) → slice_get ys j ≡ Some x → length ys ≡ suc (length (without j ys))
length-without j [] x e = cc
length-without zero (y ∷ ys) x e = refl
length-without (suc j) (y ∷ ys) x e = ap suc (length-without j ys x e)

stands_without : {X : Type 0} (i j : ℕ) (ys : List X) (x : X) → slice_get ys i ≡ Some x → (i ≡ j → ⊥) → Stands (without j ys) x
stands_without i j [] x e other = cc
stands_without zero zero (y ∷ ys) x e other = absurd (other refl)
stands_without (suc i) zero (y ∷ ys) x e other = (i, e)
stands_without zero (suc j) (y ∷ ys) x e other = (0, e)
stands_without (suc i) (suc j) (y ∷ ys) x e other =
    let h = stands_without i j ys x e (λ same. other (ap suc same)) in (suc h.0, h.1)

-- distinct elements of a list are no more than the list has
fewer : {X : Type 0} (xs ys : List X) → AreDistinct xs → ((i : ℕ) (x : X) → slice_get xs i ≡ Some x → Stands ys x) → length xs ≤ length ys
fewer [] ys distinct there = omega arith
fewer {X} (x ∷ xs) ys distinct there =
    let here : Stands ys x = there 0 x refl in
    let rest : (i : ℕ) (y : X) → slice_get xs i ≡ Some y → Stands (without here.0 ys) y = λ i y e.
    let h : Stands ys y = there (suc i) y e in
    stands_without h.0 here.0 ys y h.1 (λ same.
    let one : x ≡ y = cc in
    let places : 0 ≡ suc i = distinct 0 (suc i) y (ap Some one) e in
    omega (arith, places)) in
    omega (
      arith,
      length-without here.0 ys x here.1,
      fewer xs (without here.0 ys) (λ i j y e f. let h : suc i ≡ suc j = distinct (suc i) (suc j) y e f in omega (arith, h)) rest,
    )

-- all lists of so many terms of a pool
abbrev tuples : List Term → ℕ → List (List Term)
tuples pool zero = [] ∷ []
tuples pool (suc n) = flat_map (λ (t : Term). map (λ (ts : List Term). t ∷ ts) (tuples pool n)) pool

length-joined : (terms : List Term) (tails : List (List Term))
    → length (flat_map (λ (t : Term). map (λ (ts : List Term). t ∷ ts) tails) terms) ≡ length terms * length tails
length-joined [] tails = omega arith
length-joined (t ∷ terms) tails =
    let here : List (List Term) = map (λ (ts : List Term). t ∷ ts) tails in
    let rest : List (List Term) = flat_map (λ (u : Term). map (λ (ts : List Term). u ∷ ts) tails) terms in
    let one : length here ≡ length tails = length-map tails (λ (ts : List Term). t ∷ ts) in
    omega (arith, length-append here rest, one, length-joined terms tails)

length-tuples : (pool : List Term) (n : ℕ) → length (tuples pool n) ≡ power (length pool) n
length-tuples pool zero = refl
length-tuples pool (suc n) = length-joined pool (tuples pool n) ∙ ap (λ k. length pool * k) (length-tuples pool n)

stands_by : {X : Type 0} (xs : List X) (x : X) → Contains xs x → Stands xs x
stands_by xs x there = (there.0, slice_get_read xs (length xs) there.0 x refl there.1 (sym there.2))

tuple_there : (pool : List Term) (n : ℕ) (ts : List Term) → length ts ≡ n → All (λ t. Contains pool t) ts → Stands (tuples pool n) ts
tuple_there pool zero [] e all = (0, refl)
tuple_there pool zero (t ∷ ts) e all = absurd (omega (arith, e))
tuple_there pool (suc n) [] e all = absurd (omega (arith, e))
tuple_there pool (suc n) (t ∷ ts) e all =
    let InPool : Term → Type 0 = λ (u : Term). Contains pool u in
    let tail : Stands (tuples pool n) ts = tuple_there pool n ts (omega (arith, e)) (All-tail InPool t ts all) in
    let head : Stands pool t = stands_by pool t (All-head InPool t ts all) in
    stands_flat (λ (u : Term). map (λ (us : List Term). u ∷ us) (tuples pool n)) pool t (t ∷ ts) head.0 head.1
    (stands_map (λ (us : List Term). t ∷ us) (tuples pool n) ts tail.0 tail.1)

-- all choices, from rule k on
abbrev choice_of : ℕ → List Term → Choice
choice_of k terms = record { rule = k; terms = terms }

abbrev choices_from : List Term → ℕ → List Assertion → List Choice
choices_from pool k [] = []
choices_from pool k (a ∷ assertions) = map (choice_of k) (tuples pool (variables_of a.formula)) ++ choices_from pool (k + 1) assertions

length-choices : (pool : List Term) (k : ℕ) (assertions : List Assertion) → length (choices_from pool k assertions) ≡ count_from (length pool) assertions
length-choices pool k [] = refl
length-choices pool k (a ∷ assertions) =
    let here : List Choice = map (choice_of k) (tuples pool (variables_of a.formula)) in
    let one : length here ≡ power (length pool) (variables_of a.formula) =
    length-map (tuples pool (variables_of a.formula)) (choice_of k) ∙ length-tuples pool (variables_of a.formula) in
    let rest : length (choices_from pool (k + 1) assertions) ≡ count_from (length pool) assertions = length-choices pool (k + 1) assertions in
    length-append here (choices_from pool (k + 1) assertions)
    ∙ (ap (λ n. n + length (choices_from pool (k + 1) assertions)) one ∙ ap (λ n. power (length pool) (variables_of a.formula) + n) rest)

choice_there : (pool : List Term) (k i : ℕ) (assertions : List Assertion) (a : Assertion) (ts : List Term) → slice_get assertions i ≡ Some a
    → Stands (tuples pool (variables_of a.formula)) ts → Stands (choices_from pool k assertions) (choice_of (k + i) ts)
choice_there pool k i [] a ts e there = cc
choice_there pool k zero (b ∷ assertions) a ts e there =
    let same : a ≡ b = cc in
    let number : k ≡ k + 0 = omega arith in
    let tuple = subst (λ (c : Assertion). Stands (tuples pool (variables_of c.formula)) ts) same there in
    let here = stands_map (choice_of k) (tuples pool (variables_of b.formula)) ts tuple.0 tuple.1 in
    subst (λ n. Stands (choices_from pool k (b ∷ assertions)) (choice_of n ts)) number
    (stands_left (map (choice_of k) (tuples pool (variables_of b.formula))) (choices_from pool (k + 1) assertions) (choice_of k ts) here.0 here.1)
choice_there pool k (suc i) (b ∷ assertions) a ts e there =
    let number : k + 1 + i ≡ k + suc i = omega arith in
    subst (λ n. Stands (choices_from pool k (b ∷ assertions)) (choice_of n ts)) number
    (stands_right (map (choice_of k) (tuples pool (variables_of b.formula))) (choices_from pool (k + 1) assertions) (choice_of (k + 1 + i) ts)
    (choice_there pool (k + 1) i assertions a ts e there))

chosen_there : (script : Script) (choice : Choice) → IsChoice script choice → Stands (choices_from (pool_terms script.functions) 0 script.assertions) choice
chosen_there script choice is =
    elim (slice_get_cases script.assertions choice.rule).1 [
      | inl here ↦
          let pool : List Term = pool_terms script.functions in
          let many : length choice.terms ≡ variables_of here.0.formula = is.terms ∙ ap (λ o. variables_of (formula_of o)) here.2 in
          let number : 0 + choice.rule ≡ choice.rule = omega arith in
          subst (λ n. Stands (choices_from pool 0 script.assertions) (choice_of n choice.terms)) number
          (choice_there pool 0 choice.rule script.assertions here.0 choice.terms here.2
          (tuple_there pool (variables_of here.0.formula) choice.terms many is.pool))
      | inr past ↦ absurd (omega (arith, past.0, is.rule))
    ]

-- the rounds add no more choices than there are
pub lead_bound : (script : Script) (lines : List InstanceLine) (rounds : List Round) (last : List InstanceLine) → Lead script lines rounds last
    → length (added_in rounds) ≤ count script
lead_bound script lines rounds last lead =
    let all : List Choice = choices_from (pool_terms script.functions) 0 script.assertions in
    let bound : length (added_in rounds) ≤ length all =
    fewer (added_in rounds) all (added_distinct script lines rounds last lead)
    (λ i choice e. chosen_there script choice
    (all_at (IsChoice script) (added_in rounds) i choice (recursion_from_All (IsChoice script) (added_in rounds) (added_choices script lines rounds last lead)) e)) in
    subst (λ n. length (added_in rounds) ≤ n) (length-choices (pool_terms script.functions) 0 script.assertions) bound
