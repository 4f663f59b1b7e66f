-- Instances at terms of the pool, and those of rules without variables.
use Rattle.std.proofs.Common.{◌≡◌, ℕ, zero, suc, ◌+◌, ◌<◌, Bool, true, false, List, [], ◌∷◌, ◌++◌, length, refl, sym, ap, subst, ◌∙◌, inl, inr, arith, cond}
use Rattle.std.specs.Prelude.{◌⊎◌, All, Contains, Some, slice_get}
use Rattle.std.specs.List.{AllByRecursion}
use Rattle.std.proofs.lemmas.List.Elements.{All-head, All-tail, All-nil, All-cons}
use Rattle.std.proofs.lemmas.Option.{slice_get_cases, slice_get_read}
use Rattle.mbqi_terms.specs.declared.formula.Formula.{Formula}
use Rattle.mbqi_terms.specs.declared.instance.InstanceLine.{InstanceLine}
use Rattle.mbqi_terms.specs.declared.script.Assertion.{Assertion}
use Rattle.mbqi_terms.specs.declared.script.Function.{Function}
use Rattle.mbqi_terms.specs.declared.script.Script.{Script}
use Rattle.mbqi_terms.specs.declared.term.Term.{Term}
use Rattle.mbqi_terms.proofs.Places.{all_at}
use Rattle.element_atoms.specs.Atoms.{formulas_in}
use Rattle.element_atoms.specs.Profile.{IsArgument, IsClause, IsConstant, IsConstantTerm, IsElementary, IsGround, IsPredicate, IsRule, constant, constants_from, constants_of, for_all, is_constant, is_element, seed}
use Rattle.rule_form.specs.Instance.{IsInstance, whole_at}
use Rattle.rule_form.specs.Rules.{IsChoice, assertion_at, clause_at, clause_of, first_from, first_with, formula_of, line_of, lines_of, pool_terms, term_at, variables_of}
use Rattle.rule_form.specs.declared.choice.Choice.{Choice}
use Rattle.rule_form.proofs.Putting.{closed_clause, ground_clause}
use Rattle.rule_form.proofs.Rests.{AtFrom, from_first, from_here, from_next}
use Rattle.rule_form.proofs.RuleInstances.{rule_instance, whole_rule}
use Rattle.rule_form.proofs.Shapes.{rule_clause, rule_variables}

-- each term of the pool is a constant or the seed
constant_there : (whole : List Function) (f : ℕ) (functions : List Function) → AtFrom whole f functions
    → AllByRecursion (λ function. IsConstant function ⊎ IsPredicate function) functions
    → (k : ℕ) (t : Term) → slice_get (constants_from f functions) k ≡ Some t → IsConstantTerm whole t
constant_there whole f [] at all k t e = cc
constant_there whole f (function ∷ functions) at all k t e =
    by (is_constant function) refl k e (constant_there whole (f + 1) functions (from_next whole f function functions at) all.1)
  where
    named : is_constant function ≡ true → IsConstant function ⊎ IsPredicate function → IsConstant function
    named p (inl is) = is
    named p (inr is) = let q : is_constant function ≡ false = ap is_element is.0 in cc

    by : (b : Bool) → is_constant function ≡ b → (k : ℕ) → slice_get (cond b (constant f ∷ constants_from (f + 1) functions) (constants_from (f + 1) functions)) k ≡ Some t
        → ((j : ℕ) (u : Term) → slice_get (constants_from (f + 1) functions) j ≡ Some u → IsConstantTerm whole u) → IsConstantTerm whole t
    by true p zero e rest =
        let same : t ≡ constant f = cc in (f, same, (function, from_here whole f function functions at, named p all.0))
    by true p (suc k) e rest = rest k t e
    by false p k e rest = rest k t e

last_or_before : (terms : List Term) (k : ℕ) (t : Term) → slice_get (terms ++ seed ∷ []) k ≡ Some t → (slice_get terms k ≡ Some t) ⊎ (t ≡ seed)
last_or_before [] zero t e = let same : t ≡ seed = cc in inr same
last_or_before [] (suc k) t e = cc
last_or_before (u ∷ terms) zero t e = inl e
last_or_before (u ∷ terms) (suc k) t e = last_or_before terms k t e

module _ (script : Script) (is : IsElementary script) where
  pub pool_ground : (t : Term) → Contains (pool_terms script.functions) t → IsGround script.functions t
  pool_ground t there =
      elim (last_or_before (constants_of script.functions) there.0 t (slice_get_read (pool_terms script.functions) (length (pool_terms script.functions)) there.0 t refl there.1 (sym there.2))) [
        | inl e ↦ inl (constant_there script.functions 0 script.functions (from_first script.functions) is.functions there.0 t e)
        | inr e ↦ inr e
      ]

  all_ground : (ts : List Term) → All (λ t. Contains (pool_terms script.functions) t) ts → All (IsGround script.functions) ts
  all_ground [] all = All-nil (IsGround script.functions)
  all_ground (t ∷ ts) all =
      let P : Term → Type 0 = λ t. Contains (pool_terms script.functions) t in
      All-cons (IsGround script.functions) t ts (pool_ground t (All-head P t ts all)) (all_ground ts (All-tail P t ts all))

  -- the assertion of a choice
  pub record Chosen (choice : Choice) : Type 0 where
    pub assertion : Assertion
    pub there : slice_get script.assertions choice.rule ≡ Some assertion
    pub rule : IsRule script.functions assertion.formula
    pub as_many : length choice.terms ≡ rule.0
    pub ground : All (IsGround script.functions) choice.terms

  pub chosen : (choice : Choice) → IsChoice script choice → Chosen choice
  chosen choice legal =
      elim (slice_get_cases script.assertions choice.rule).1 [
        | inl here ↦
            let rule = all_at (λ (a : Assertion). IsRule script.functions a.formula) script.assertions choice.rule here.0 is.assertions here.2 in
            record {
              assertion = here.0;
              there = here.2;
              rule = rule;
              as_many = legal.terms ∙ (ap (λ o. variables_of (formula_of o)) here.2 ∙ rule_variables script.functions here.0.formula rule);
              ground = all_ground choice.terms legal.pool;
            }
        | inr past ↦ absurd (omega (arith, past.0, legal.rule))
      ]

  pub chosen_formula : (choice : Choice) (c : Chosen choice) → (line_of script.assertions choice).formula ≡ clause_at c.rule.1 choice.terms
  chosen_formula choice c =
      ap (λ o. whole_at choice.rule (formula_of o) choice.terms) c.there ∙ whole_rule script.functions choice.rule c.assertion.formula choice.terms c.rule c.as_many

  -- the whole instance of a choice is its clause with the terms of the choice
  pub line_clause : (choice : Choice) → IsChoice script choice
      → (line_of script.assertions choice).formula ≡ clause_at (clause_of (assertion_at script.assertions choice.rule)) choice.terms
  line_clause choice legal =
      let c = chosen choice legal in
      chosen_formula choice c
      ∙ sym (ap (λ f. clause_at f choice.terms) (ap (λ o. clause_of (formula_of o)) c.there ∙ rule_clause script.functions c.assertion.formula c.rule))

  -- there is a sort where there is an assertion
  some_sort : (k : ℕ) (a : Assertion) → slice_get script.assertions k ≡ Some a → 0 < length script.sorts
  some_sort k a there = by script.sorts refl
    where
      by : (sorts : List (List ℕ)) → script.sorts ≡ sorts → 0 < length sorts
      by [] e = let none : slice_get [] k ≡ Some a = subst (λ as'. slice_get as' k ≡ Some a) (is.named e).1 there in cc
      by (sort ∷ sorts) e = omega arith

  -- the clause of a choice has the terms of the choice in the places of its variables
  pub chosen_clause : (choice : Choice) (c : Chosen choice)
      → IsClause script.functions (IsArgument script.functions (length choice.terms)) (clause_of (assertion_at script.assertions choice.rule))
  chosen_clause choice c =
      subst (λ n. IsClause script.functions (IsArgument script.functions n) (clause_of (assertion_at script.assertions choice.rule))) (sym c.as_many)
      (subst (IsClause script.functions (IsArgument script.functions c.rule.0))
      (sym (ap (λ o. clause_of (formula_of o)) c.there ∙ rule_clause script.functions c.assertion.formula c.rule)) c.rule.3)

  pub line_ground : (choice : Choice) → IsChoice script choice → IsClause script.functions (IsGround script.functions) (line_of script.assertions choice).formula
  line_ground choice legal =
      let c = chosen choice legal in
      subst (IsClause script.functions (IsGround script.functions)) (sym (line_clause choice legal))
      (ground_clause script.functions choice.terms c.ground (clause_of (assertion_at script.assertions choice.rule)) (chosen_clause choice c))

  line_instance : (choice : Choice) → IsChoice script choice → IsInstance script choice.rule choice.terms (line_of script.assertions choice).formula
  line_instance choice legal =
      let c = chosen choice legal in
      subst (λ o. IsInstance script choice.rule choice.terms (whole_at choice.rule (formula_of o) choice.terms)) (sym c.there)
      (rule_instance script choice.rule c.assertion choice.terms c.there c.rule (some_sort choice.rule c.assertion c.there) c.as_many c.ground)

  pub lines_ground : (choices : List Choice) → All (IsChoice script) choices
      → All (IsClause script.functions (IsGround script.functions)) (formulas_in (lines_of script.assertions choices))
  lines_ground [] all = All-nil (IsClause script.functions (IsGround script.functions))
  lines_ground (choice ∷ choices) all =
      All-cons (IsClause script.functions (IsGround script.functions)) (line_of script.assertions choice).formula (formulas_in (lines_of script.assertions choices))
      (line_ground choice (All-head (IsChoice script) choice choices all)) (lines_ground choices (All-tail (IsChoice script) choice choices all))

  pub lines_instances : (choices : List Choice) → All (IsChoice script) choices
      → All (λ (line : InstanceLine). IsInstance script line.assertion line.terms line.formula) (lines_of script.assertions choices)
  lines_instances [] all = All-nil (λ (line : InstanceLine). IsInstance script line.assertion line.terms line.formula)
  lines_instances (choice ∷ choices) all =
      All-cons (λ (line : InstanceLine). IsInstance script line.assertion line.terms line.formula) (line_of script.assertions choice) (lines_of script.assertions choices)
      (line_instance choice (All-head (IsChoice script) choice choices all)) (lines_instances choices (All-tail (IsChoice script) choice choices all))

  -- an assertion without variables
  without : (f : Formula) (rule : IsRule script.functions f) → variables_of f ≡ 0 → IsClause script.functions (IsArgument script.functions 0) f
  without f rule none =
      let zero_is : rule.0 ≡ 0 = sym (rule_variables script.functions f rule) ∙ none in
      let closed : f ≡ rule.1 = rule.2 ∙ ap (λ n. for_all n rule.1) zero_is in
      subst (IsClause script.functions (IsArgument script.functions 0)) (sym closed)
      (subst (λ n. IsClause script.functions (IsArgument script.functions n) rule.1) zero_is rule.3)

  itself_ground : (f : Formula) (rule : IsRule script.functions f) → variables_of f ≡ 0 → IsClause script.functions (IsGround script.functions) f
  itself_ground f rule none =
      let clause = without f rule none in
      subst (IsClause script.functions (IsGround script.functions)) (closed_clause script.functions (term_at []) f clause)
      (ground_clause script.functions [] (All-nil (IsGround script.functions)) f clause)

  -- its whole instance is the assertion itself
  pub itself_whole : (k : ℕ) (f : Formula) → IsRule script.functions f → variables_of f ≡ 0 → whole_at k f [] ≡ f
  itself_whole k f rule none =
      let clause = without f rule none in
      let e : f ≡ rule.1 = rule.2 ∙ ap (λ n. for_all n rule.1) (sym (rule_variables script.functions f rule) ∙ none) in
      let zero_is : 0 ≡ rule.0 = sym none ∙ rule_variables script.functions f rule in
      whole_rule script.functions k f [] rule zero_is ∙ ap (λ f. clause_at f []) (sym e) ∙ closed_clause script.functions (term_at []) f clause

  itself_instance : (k : ℕ) (a : Assertion) → slice_get script.assertions k ≡ Some a → IsRule script.functions a.formula → variables_of a.formula ≡ 0
      → IsInstance script k [] (whole_at k a.formula [])
  itself_instance k a there rule none =
      let zero_is : 0 ≡ rule.0 = sym none ∙ rule_variables script.functions a.formula rule in
      rule_instance script k a [] there rule (some_sort k a there) zero_is (All-nil (IsGround script.functions))

  first_ground : (k : ℕ) (assertions : List Assertion) → AllByRecursion (λ (a : Assertion). IsRule script.functions a.formula) assertions
      → All (IsClause script.functions (IsGround script.functions)) (formulas_in (first_from k assertions))
  first_ground k [] all = All-nil (IsClause script.functions (IsGround script.functions))
  first_ground k (a ∷ assertions) all = by (variables_of a.formula) refl (first_ground (k + 1) assertions all.1)
    where
      by : (n : ℕ) → variables_of a.formula ≡ n → All (IsClause script.functions (IsGround script.functions)) (formulas_in (first_from (k + 1) assertions))
          → All (IsClause script.functions (IsGround script.functions)) (formulas_in (first_with n k (whole_at k a.formula []) (first_from (k + 1) assertions)))
      by zero none rest =
          All-cons (IsClause script.functions (IsGround script.functions)) (whole_at k a.formula []) (formulas_in (first_from (k + 1) assertions))
          (subst (IsClause script.functions (IsGround script.functions)) (sym (itself_whole k a.formula all.0 none)) (itself_ground a.formula all.0 none)) rest
      by (suc n) some rest = rest

  first_instances : (k : ℕ) (assertions : List Assertion) → AtFrom script.assertions k assertions
      → AllByRecursion (λ (a : Assertion). IsRule script.functions a.formula) assertions
      → All (λ (line : InstanceLine). IsInstance script line.assertion line.terms line.formula) (first_from k assertions)
  first_instances k [] at all = All-nil (λ (line : InstanceLine). IsInstance script line.assertion line.terms line.formula)
  first_instances k (a ∷ assertions) at all =
      by (variables_of a.formula) refl (first_instances (k + 1) assertions (from_next script.assertions k a assertions at) all.1)
    where
      by : (n : ℕ) → variables_of a.formula ≡ n
          → All (λ (line : InstanceLine). IsInstance script line.assertion line.terms line.formula) (first_from (k + 1) assertions)
          → All (λ (line : InstanceLine). IsInstance script line.assertion line.terms line.formula) (first_with n k (whole_at k a.formula []) (first_from (k + 1) assertions))
      by zero none rest =
          All-cons (λ (line : InstanceLine). IsInstance script line.assertion line.terms line.formula) (record { assertion = k; terms = []; formula = whole_at k a.formula [] })
          (first_from (k + 1) assertions) (itself_instance k a (from_here script.assertions k a assertions at) all.0 none) rest
      by (suc n) some rest = rest

  pub firsts_ground : All (IsClause script.functions (IsGround script.functions)) (formulas_in (first_from 0 script.assertions))
  firsts_ground = first_ground 0 script.assertions is.assertions

  pub firsts_instances : All (λ (line : InstanceLine). IsInstance script line.assertion line.terms line.formula) (first_from 0 script.assertions)
  firsts_instances = first_instances 0 script.assertions (from_first script.assertions) is.assertions
