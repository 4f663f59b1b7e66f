-- What is said of the failing choices of all rules.
use Rattle.std.proofs.Common.{◌≡◌, ℕ, zero, suc, ◌+◌, ◌<◌, Bool, true, false, not, List, [], ◌∷◌, length, map, refl, sym, ap, subst, ◌∙◌, inl, inr, arith}
use Rattle.std.specs.Prelude.{◌≤◌, All, Contains, Some, slice_get}
use Rattle.std.specs.List.{AllByRecursion}
use Rattle.std.proofs.lemmas.List.{length-map}
use Rattle.std.proofs.lemmas.List.Elements.{All-head, All-tail, All-nil, All-cons, All-append}
use Rattle.std.proofs.lemmas.Option.{slice_get_cases, slice_get_within, slice_get-get_or, same_Some}
use Rattle.mbqi_terms.specs.Distinct.{AreDistinct}
use Rattle.mbqi_terms.specs.declared.formula.Formula.{Formula}
use Rattle.mbqi_terms.specs.declared.script.Assertion.{Assertion}
use Rattle.mbqi_terms.specs.declared.script.Script.{Script}
use Rattle.mbqi_terms.specs.declared.term.Term.{Term}
use Rattle.mbqi_terms.proofs.Places.{all_at}
use Rattle.mbqi_terms.specs.Meanings.{Meanings, truth_of}
use Rattle.element_atoms.specs.Atoms.{Decides, IsPool}
use Rattle.element_atoms.specs.Profile.{IsArgument, IsClause, IsElementary, IsRule, seed}
use Rattle.element_atoms.specs.declared.atoms.GroundAtom.{GroundAtom}
use Rattle.element_atoms.specs.declared.pool.Pool.{Pool}
use Rattle.rule_form.specs.Rules.{IsChoice, IsOpen, assertion_at, clause_at, clause_of, formula_of, line_of, pool_terms, variables_of}
use Rattle.rule_form.specs.declared.choice.Choice.{Choice}
use Rattle.rule_form.proofs.Chosen.{line_clause}
use Rattle.rule_form.proofs.Rests.{AtFrom, from_first, from_here, from_next}
use Rattle.rule_form.proofs.Shapes.{rule_clause, rule_variables}
use Rattle.tuple_check.specs.Failing.{choice_of, failing_from, failing_of, fails_at, term_in, truth_at}
use Rattle.tuple_check.specs.Tuples.{tuples_where}
use Rattle.tuple_check.proofs.Arguments.{at_default}
use Rattle.tuple_check.proofs.Choices.{pool_distinct}
use Rattle.tuple_check.proofs.Truths.{clause_truth}
use Rattle.tuple_check.proofs.TupleLists.{IsTuple, are_tuples, at_place, distinct_append, distinct_nil, front_nothing, none_passes, rest_nothing, tuples_distinct}

-- tuples of pool numbers and their terms
terms_within : (terms : List Term) (tuple : List ℕ) → All (λ i. i < length terms) tuple → All (λ t. Contains terms t) (map (term_in terms) tuple)
terms_within terms [] all = All-nil (λ t. Contains terms t)
terms_within terms (i ∷ tuple) all =
    let h = All-head (λ j. j < length terms) i tuple all in
    All-cons (λ t. Contains terms t) (term_in terms i) (map (term_in terms) tuple) (i, h, at_default terms i (term_in terms i) seed h)
    (terms_within terms tuple (All-tail (λ j. j < length terms) i tuple all))

same_term : (terms : List Term) → AreDistinct terms → (i j : ℕ) → i < length terms → j < length terms → term_in terms i ≡ term_in terms j → i ≡ j
same_term terms distinct i j h k e =
    distinct i j (term_in terms i) (slice_get-get_or terms i seed h) (slice_get-get_or terms j seed k ∙ ap Some (sym e))

same_tuple : (terms : List Term) → AreDistinct terms → (xs ys : List ℕ) → All (λ i. i < length terms) xs → All (λ i. i < length terms) ys
    → map (term_in terms) xs ≡ map (term_in terms) ys → xs ≡ ys
same_tuple terms distinct [] [] all other e = refl
same_tuple terms distinct [] (y ∷ ys) all other e = cc
same_tuple terms distinct (x ∷ xs) [] all other e = cc
same_tuple terms distinct (x ∷ xs) (y ∷ ys) all other e =
    let head : term_in terms x ≡ term_in terms y = cc in
    let tail : map (term_in terms) xs ≡ map (term_in terms) ys = cc in
    let first = same_term terms distinct x y (All-head (λ i. i < length terms) x xs all) (All-head (λ i. i < length terms) y ys other) head in
    let rest = same_tuple terms distinct xs ys (All-tail (λ i. i < length terms) x xs all) (All-tail (λ i. i < length terms) y ys other) tail in
    λ i. first i ∷ rest i

numbers_there : (terms ts : List Term) → All (λ t. Contains terms t) ts → (tuple : List ℕ) × All (λ i. i < length terms) tuple × (map (term_in terms) tuple ≡ ts)
numbers_there terms [] all = ([], All-nil (λ i. i < length terms), refl)
numbers_there terms (t ∷ ts) all =
    let there = All-head (λ u. Contains terms u) t ts all in
    let rest = numbers_there terms ts (All-tail (λ u. Contains terms u) t ts all) in
    let first : term_in terms there.0 ≡ t = at_default terms there.0 seed t there.1 ∙ there.2 in
    let more = rest.2 in
    (there.0 ∷ rest.0, All-cons (λ i. i < length terms) there.0 rest.0 there.1 rest.1, λ i. first i ∷ more i)

module _ (script : Script) (is : IsElementary script) (pool : Pool) (is_pool : IsPool script.functions pool) (atoms : List GroundAtom) (truths : List Bool)
    (as_many : length truths ≡ length atoms) where
  -- what each choice of a rule is
  record IsFailing (k : ℕ) (n : ℕ) (f : Formula) (choice : Choice) : Type 0 where
    tuple : List ℕ
    choice_is : choice ≡ choice_of pool.terms k tuple
    is_tuple : IsTuple (fails_at pool atoms truths f) (length pool.terms) n [] tuple

  all_failing : (k n : ℕ) (f : Formula) (tuples : List (List ℕ)) → All (IsTuple (fails_at pool atoms truths f) (length pool.terms) n []) tuples
      → All (IsFailing k n f) (map (choice_of pool.terms k) tuples)
  all_failing k n f [] all = All-nil (IsFailing k n f)
  all_failing k n f (tuple ∷ tuples) all =
      let P = IsTuple (fails_at pool atoms truths f) (length pool.terms) n [] in
      All-cons (IsFailing k n f) (choice_of pool.terms k tuple) (map (choice_of pool.terms k) tuples)
      (record { tuple = tuple; choice_is = refl; is_tuple = All-head P tuple tuples all }) (all_failing k n f tuples (All-tail P tuple tuples all))

  -- a failing choice of some rule with variables
  record FailsSomewhere (choice : Choice) : Type 0 where
    assertion : Assertion
    there : slice_get script.assertions choice.rule ≡ Some assertion
    rule : IsRule script.functions assertion.formula
    some : 1 ≤ variables_of assertion.formula
    failing : IsFailing choice.rule (variables_of assertion.formula) (clause_of assertion.formula) choice

  somewhere : (k : ℕ) (a : Assertion) → slice_get script.assertions k ≡ Some a → IsRule script.functions a.formula → 1 ≤ variables_of a.formula
      → (choices : List Choice) → All (IsFailing k (variables_of a.formula) (clause_of a.formula)) choices → All (λ c. FailsSomewhere c × (c.rule ≡ k)) choices
  somewhere k a there rule some [] all = All-nil (λ c. FailsSomewhere c × (c.rule ≡ k))
  somewhere k a there rule some (c ∷ choices) all =
      let P = IsFailing k (variables_of a.formula) (clause_of a.formula) in
      let here = All-head P c choices all in
      let e : c.rule ≡ k = ap (λ d. d.rule) here.choice_is in
      All-cons (λ c. FailsSomewhere c × (c.rule ≡ k)) c choices (
        record {
          assertion = a;
          there = ap (slice_get script.assertions) e ∙ there;
          rule = rule;
          some = some;
          failing = subst (λ r. IsFailing r (variables_of a.formula) (clause_of a.formula) c) (sym e) here;
        },
        e,
      )
      (somewhere k a there rule some choices (All-tail P c choices all))

  raise : (k : ℕ) (choices : List Choice) → All (λ c. FailsSomewhere c × (k + 1 ≤ c.rule)) choices → All (λ c. FailsSomewhere c × (k ≤ c.rule)) choices
  raise k [] all = All-nil (λ c. FailsSomewhere c × (k ≤ c.rule))
  raise k (c ∷ choices) all =
      let P : Choice → Type 0 = λ c. FailsSomewhere c × (k + 1 ≤ c.rule) in
      let here = All-head P c choices all in
      All-cons (λ c. FailsSomewhere c × (k ≤ c.rule)) c choices (here.0, omega (arith, here.1)) (raise k choices (All-tail P c choices all))

  same_rule : (k : ℕ) (choices : List Choice) → All (λ c. FailsSomewhere c × (c.rule ≡ k)) choices → All (λ c. FailsSomewhere c × (k ≤ c.rule)) choices
  same_rule k [] all = All-nil (λ c. FailsSomewhere c × (k ≤ c.rule))
  same_rule k (c ∷ choices) all =
      let P : Choice → Type 0 = λ c. FailsSomewhere c × (c.rule ≡ k) in
      let here = All-head P c choices all in
      All-cons (λ c. FailsSomewhere c × (k ≤ c.rule)) c choices (here.0, omega (arith, here.1)) (same_rule k choices (All-tail P c choices all))

  of_rule : (k : ℕ) (a : Assertion) → slice_get script.assertions k ≡ Some a → IsRule script.functions a.formula
      → All (λ c. FailsSomewhere c × (c.rule ≡ k)) (failing_of pool atoms truths k (variables_of a.formula) (clause_of a.formula))
  of_rule k a there rule = by (variables_of a.formula) refl
    where
      by : (n : ℕ) → variables_of a.formula ≡ n → All (λ c. FailsSomewhere c × (c.rule ≡ k)) (failing_of pool atoms truths k n (clause_of a.formula))
      by zero e = All-nil (λ c. FailsSomewhere c × (c.rule ≡ k))
      by (suc n) e =
          let tuples = tuples_where (fails_at pool atoms truths (clause_of a.formula)) (length pool.terms) (suc n) [] in
          let all = all_failing k (suc n) (clause_of a.formula) tuples
          (are_tuples (fails_at pool atoms truths (clause_of a.formula)) (length pool.terms) (suc n) [] (All-nil (λ i. i < length pool.terms))) in
          somewhere k a there rule (omega (arith, e)) (map (choice_of pool.terms k) tuples)
          (subst (λ m. All (IsFailing k m (clause_of a.formula)) (map (choice_of pool.terms k) tuples)) (sym e) all)

  all_somewhere : (k : ℕ) (assertions : List Assertion) → AtFrom script.assertions k assertions
      → AllByRecursion (λ (a : Assertion). IsRule script.functions a.formula) assertions → All (λ c. FailsSomewhere c × (k ≤ c.rule)) (failing_from pool atoms truths k assertions)
  all_somewhere k [] at all = All-nil (λ c. FailsSomewhere c × (k ≤ c.rule))
  all_somewhere k (a ∷ assertions) at all =
      let first = failing_of pool atoms truths k (variables_of a.formula) (clause_of a.formula) in
      All-append (λ c. FailsSomewhere c × (k ≤ c.rule)) first (failing_from pool atoms truths (k + 1) assertions)
      (same_rule k first (of_rule k a (from_here script.assertions k a assertions at) all.0))
      (raise k (failing_from pool atoms truths (k + 1) assertions) (all_somewhere (k + 1) assertions (from_next script.assertions k a assertions at) all.1))

  -- so each is a choice of a rule with variables, at which it is false
  is_choice : (c : Choice) → FailsSomewhere c → IsChoice script c
  is_choice c f =
      let within = slice_get_within script.assertions c.rule f.assertion f.there in
      let terms : c.terms ≡ map (term_in pool.terms) f.failing.tuple = ap (λ d. d.terms) f.failing.choice_is in
      let there = terms_within pool.terms f.failing.tuple f.failing.is_tuple.within in
      record {
        rule = omega (arith, within);
        terms = ap length terms ∙ (length-map f.failing.tuple (term_in pool.terms) ∙ (f.failing.is_tuple.long ∙ (no_front (variables_of f.assertion.formula)
            ∙ sym (ap (λ o. variables_of (formula_of o)) f.there))));
        pool = subst (All (λ t. Contains (pool_terms script.functions) t)) (sym terms)
            (subst (λ ts. All (λ t. Contains ts t) (map (term_in pool.terms) f.failing.tuple)) is_pool.terms there);
      }
    where
      no_front : (n : ℕ) → 0 + n ≡ n
      no_front n = omega arith

  is_open : (c : Choice) → FailsSomewhere c → IsOpen c
  is_open c f =
      let terms : c.terms ≡ map (term_in pool.terms) f.failing.tuple = ap (λ d. d.terms) f.failing.choice_is in
      omega (arith, ap length terms, length-map f.failing.tuple (term_in pool.terms), f.failing.is_tuple.long, f.some)

  -- the clause of a rule at a tuple
  rule_truth : (a : Assertion) (rule : IsRule script.functions a.formula) (tuple : List ℕ) → length tuple ≡ variables_of a.formula → All (λ i. i < length pool.terms) tuple
      → (m : Meanings) → Decides script.functions pool.terms atoms truths m
      → truth_at pool atoms truths (clause_of a.formula) tuple ≡ truth_of m (clause_at (clause_of a.formula) (map (term_in pool.terms) tuple))
  rule_truth a rule tuple long within m decides =
      let clause : IsClause script.functions (IsArgument script.functions rule.0) (clause_of a.formula) =
      subst (IsClause script.functions (IsArgument script.functions rule.0)) (sym (rule_clause script.functions a.formula rule)) rule.3 in
      let n : rule.0 ≡ length tuple = sym (long ∙ rule_variables script.functions a.formula rule) in
      clause_truth script.functions pool atoms truths m is_pool as_many decides tuple within (clause_of a.formula)
      (subst (λ k. IsClause script.functions (IsArgument script.functions k) (clause_of a.formula)) n clause)

  negated : (b : Bool) → not b ≡ true → b ≡ false
  negated true e = cc
  negated false e = refl

  affirmed : (b : Bool) → not b ≡ false → b ≡ true
  affirmed true e = refl
  affirmed false e = cc

  is_false : (m : Meanings) → Decides script.functions pool.terms atoms truths m → (c : Choice) → FailsSomewhere c → truth_of m (line_of script.assertions c).formula ≡ false
  is_false m decides c f =
      let tuple = f.failing.tuple in
      let terms : c.terms ≡ map (term_in pool.terms) tuple = ap (λ d. d.terms) f.failing.choice_is in
      let clause : clause_of (assertion_at script.assertions c.rule) ≡ clause_of f.assertion.formula = ap (λ o. clause_of (formula_of o)) f.there in
      let long : length tuple ≡ variables_of f.assertion.formula = omega (arith, f.failing.is_tuple.long) in
      ap (truth_of m) (line_clause script is c (is_choice c f))
      ∙ (ap (λ g. truth_of m (clause_at g c.terms)) clause ∙ (ap (λ ts. truth_of m (clause_at (clause_of f.assertion.formula) ts)) terms
      ∙ (sym (rule_truth f.assertion f.rule tuple long f.failing.is_tuple.within m decides)
      ∙ negated (truth_at pool atoms truths (clause_of f.assertion.formula) tuple) f.failing.is_tuple.passing)))

  each : (P : Choice → Type 0) → ((c : Choice) → FailsSomewhere c → P c) → (k : ℕ) (choices : List Choice) → All (λ c. FailsSomewhere c × (k ≤ c.rule)) choices → All P choices
  each P give k [] all = All-nil P
  each P give k (c ∷ choices) all =
      let Q : Choice → Type 0 = λ c. FailsSomewhere c × (k ≤ c.rule) in
      let here = All-head Q c choices all in
      All-cons P c choices (give c here.0) (each P give k choices (All-tail Q c choices all))

  pub failing_choices_are : All (IsChoice script) (failing_from pool atoms truths 0 script.assertions)
  failing_choices_are =
      each (IsChoice script) is_choice 0 (failing_from pool atoms truths 0 script.assertions) (all_somewhere 0 script.assertions (from_first script.assertions) is.assertions)

  pub failing_choices_open : All IsOpen (failing_from pool atoms truths 0 script.assertions)
  failing_choices_open =
      each IsOpen is_open 0 (failing_from pool atoms truths 0 script.assertions) (all_somewhere 0 script.assertions (from_first script.assertions) is.assertions)

  pub failing_choices_false : (m : Meanings) → Decides script.functions pool.terms atoms truths m
      → All (λ c. truth_of m (line_of script.assertions c).formula ≡ false) (failing_from pool atoms truths 0 script.assertions)
  failing_choices_false m decides =
      each (λ c. truth_of m (line_of script.assertions c).formula ≡ false) (is_false m decides) 0 (failing_from pool atoms truths 0 script.assertions)
      (all_somewhere 0 script.assertions (from_first script.assertions) is.assertions)

  -- no choice stands twice
  terms_distinct : AreDistinct pool.terms
  terms_distinct = subst AreDistinct (sym is_pool.terms) (pool_distinct script.functions)

  distinct_choices : (k : ℕ) (tuples : List (List ℕ)) → All (λ tuple. All (λ i. i < length pool.terms) tuple) tuples → AreDistinct tuples
      → AreDistinct (map (choice_of pool.terms k) tuples)
  distinct_choices k tuples within distinct i j c e f =
      let first = mapped_back tuples i c e in
      let second = mapped_back tuples j c f in
      let terms : map (term_in pool.terms) first.0 ≡ map (term_in pool.terms) second.0 = ap (λ d. d.terms) (first.2 ∙ sym second.2) in
      let same = same_tuple pool.terms terms_distinct first.0 second.0 (at_place (λ tuple. All (λ i. i < length pool.terms) tuple) tuples i first.0 within first.1)
      (at_place (λ tuple. All (λ i. i < length pool.terms) tuple) tuples j second.0 within second.1) terms in
      distinct i j first.0 first.1 (second.1 ∙ ap Some (sym same))
    where
      mapped_back : (tuples : List (List ℕ)) (i : ℕ) (c : Choice) → slice_get (map (choice_of pool.terms k) tuples) i ≡ Some c
          → (tuple : List ℕ) × (slice_get tuples i ≡ Some tuple) × (choice_of pool.terms k tuple ≡ c)
      mapped_back [] i c e = cc
      mapped_back (tuple ∷ tuples) zero c e = (tuple, refl, same_choice (choice_of pool.terms k tuple) c e)
        where
          same_choice : (c d : Choice) → Some c ≡ Some d → c ≡ d
          same_choice c d e = cc
      mapped_back (tuple ∷ tuples) (suc i) c e = mapped_back tuples i c e

  tuple_within : (passes : List ℕ → Bool) (n : ℕ) (tuples : List (List ℕ)) → All (IsTuple passes (length pool.terms) n []) tuples
      → All (λ tuple. All (λ i. i < length pool.terms) tuple) tuples
  tuple_within passes n [] all = All-nil (λ tuple. All (λ i. i < length pool.terms) tuple)
  tuple_within passes n (tuple ∷ tuples) all =
      All-cons (λ tuple. All (λ i. i < length pool.terms) tuple) tuple tuples (All-head (IsTuple passes (length pool.terms) n []) tuple tuples all).within
      (tuple_within passes n tuples (All-tail (IsTuple passes (length pool.terms) n []) tuple tuples all))

  distinct_of : (k n : ℕ) (f : Formula) → AreDistinct (failing_of pool atoms truths k n f)
  distinct_of k zero f = distinct_nil [] refl
  distinct_of k (suc n) f =
      let passes = fails_at pool atoms truths f in
      let tuples = tuples_where passes (length pool.terms) (suc n) [] in
      let none = All-nil (λ i. i < length pool.terms) in
      distinct_choices k tuples (tuple_within passes (suc n) tuples (are_tuples passes (length pool.terms) (suc n) [] none))
      (tuples_distinct passes (length pool.terms) (suc n) [] none)

  distinct_from : (k : ℕ) (assertions : List Assertion) → AtFrom script.assertions k assertions
      → AllByRecursion (λ (a : Assertion). IsRule script.functions a.formula) assertions → AreDistinct (failing_from pool atoms truths k assertions)
  distinct_from k [] at all = distinct_nil [] refl
  distinct_from k (a ∷ assertions) at all =
      let first = failing_of pool atoms truths k (variables_of a.formula) (clause_of a.formula) in
      let rest = failing_from pool atoms truths (k + 1) assertions in
      let here = of_rule k a (from_here script.assertions k a assertions at) all.0 in
      let later = all_somewhere (k + 1) assertions (from_next script.assertions k a assertions at) all.1 in
      distinct_append first rest (distinct_of k (variables_of a.formula) (clause_of a.formula))
      (distinct_from (k + 1) assertions (from_next script.assertions k a assertions at) all.1)
      (λ i j c e f.
      let at_first = at_place (λ c. FailsSomewhere c × (c.rule ≡ k)) first i c here e in
      let at_rest = at_place (λ c. FailsSomewhere c × (k + 1 ≤ c.rule)) rest j c later f in
      absurd (omega (arith, at_first.1, at_rest.1)))

  pub failing_choices_distinct : AreDistinct (failing_from pool atoms truths 0 script.assertions)
  failing_choices_distinct = distinct_from 0 script.assertions (from_first script.assertions) is.assertions

  -- where no rule fails, each instance is true
  nothing_of : (k : ℕ) (assertions : List Assertion) (i : ℕ) (a : Assertion) → failing_from pool atoms truths k assertions ≡ [] → slice_get assertions i ≡ Some a
      → failing_of pool atoms truths (k + i) (variables_of a.formula) (clause_of a.formula) ≡ []
  nothing_of k [] i a none e = cc
  nothing_of k (b ∷ assertions) zero a none e =
      let same : b ≡ a = same_Some b a e in
      let n : k ≡ k + 0 = omega arith in
      subst (λ j. failing_of pool atoms truths j (variables_of a.formula) (clause_of a.formula) ≡ []) n
      (subst (λ (c : Assertion). failing_of pool atoms truths k (variables_of c.formula) (clause_of c.formula) ≡ []) same
      (front_nothing (failing_of pool atoms truths k (variables_of b.formula) (clause_of b.formula)) (failing_from pool atoms truths (k + 1) assertions) none))
  nothing_of k (b ∷ assertions) (suc i) a none e =
      let n : k + 1 + i ≡ k + suc i = omega arith in
      subst (λ j. failing_of pool atoms truths j (variables_of a.formula) (clause_of a.formula) ≡ []) n
      (nothing_of (k + 1) assertions i a
      (rest_nothing (failing_of pool atoms truths k (variables_of b.formula) (clause_of b.formula)) (failing_from pool atoms truths (k + 1) assertions) none) e)

  no_tuples : (k n : ℕ) (f : Formula) → 1 ≤ n → failing_of pool atoms truths k n f ≡ [] → tuples_where (fails_at pool atoms truths f) (length pool.terms) n [] ≡ []
  no_tuples k zero f some none = absurd (omega (arith, some))
  no_tuples k (suc n) f some none = unmapped (tuples_where (fails_at pool atoms truths f) (length pool.terms) (suc n) []) none
    where
      unmapped : (tuples : List (List ℕ)) → map (choice_of pool.terms k) tuples ≡ [] → tuples ≡ []
      unmapped [] e = refl
      unmapped (tuple ∷ tuples) e = cc

  pub nothing_fails : failing_from pool atoms truths 0 script.assertions ≡ [] → (m : Meanings) → Decides script.functions pool.terms atoms truths m
      → (c : Choice) → IsChoice script c → IsOpen c → truth_of m (line_of script.assertions c).formula ≡ true
  nothing_fails none m decides c legal open' =
      elim (slice_get_cases script.assertions c.rule).1 [
        | inl here ↦
            let a = here.0 in
            let rule = all_at (λ (a : Assertion). IsRule script.functions a.formula) script.assertions c.rule a is.assertions here.2 in
            let numbers = numbers_there pool.terms c.terms (subst (λ ts. All (λ t. Contains ts t) c.terms) (sym is_pool.terms) legal.pool) in
            let clause : clause_of (assertion_at script.assertions c.rule) ≡ clause_of a.formula = ap (λ o. clause_of (formula_of o)) here.2 in
            let long : length numbers.0 ≡ variables_of a.formula =
            sym (length-map numbers.0 (term_in pool.terms)) ∙ (ap length numbers.2 ∙ (legal.terms ∙ ap (λ o. variables_of (formula_of o)) here.2)) in
            let some : 1 ≤ variables_of a.formula = omega (arith, open', legal.terms, ap (λ o. variables_of (formula_of o)) here.2) in
            let n : 0 + c.rule ≡ c.rule = omega arith in
            let nothing = subst (λ j. failing_of pool atoms truths j (variables_of a.formula) (clause_of a.formula) ≡ []) n (nothing_of 0 script.assertions c.rule a none here.2) in
            let fails = none_passes (fails_at pool atoms truths (clause_of a.formula)) (length pool.terms) (variables_of a.formula) [] numbers.0
            (no_tuples c.rule (variables_of a.formula) (clause_of a.formula) some nothing) long numbers.1 in
            ap (truth_of m) (line_clause script is c legal)
            ∙ (ap (λ g. truth_of m (clause_at g c.terms)) clause ∙ (ap (λ ts. truth_of m (clause_at (clause_of a.formula) ts)) (sym numbers.2)
            ∙ (sym (rule_truth a rule numbers.0 long numbers.1 m decides)
            ∙ affirmed (truth_at pool atoms truths (clause_of a.formula) numbers.0) fails)))
        | inr past ↦ absurd (omega (arith, past.0, legal.rule))
      ]
