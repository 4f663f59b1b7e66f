-- Each rule holds in the shown part of a model where the first instances are true in the model, and the instances at pool terms of the
-- rules with variables.
use Rattle.std.proofs.Common.{◌≡◌, ℕ, zero, suc, ◌+◌, ◌<◌, true, List, [], ◌∷◌, length, sym, ap, subst, ◌∙◌, arith}
use Rattle.std.specs.Prelude.{All, Contains, Some, slice_get}
use Rattle.std.specs.List.{AllByRecursion, list_all}
use Rattle.std.proofs.lemmas.Bool.{and_parts}
use Rattle.std.proofs.lemmas.Option.{slice_get_within}
use Rattle.mbqi_values.specs.declared.value.Value.{Value}
use Rattle.mbqi_terms.specs.declared.formula.Formula.{Formula}
use Rattle.mbqi_terms.specs.declared.formula.Formula.TheVariants as formula
use Rattle.mbqi_terms.specs.declared.script.Assertion.{Assertion}
use Rattle.mbqi_terms.specs.declared.script.Script.{Script}
use Rattle.mbqi_terms.specs.declared.sort.Binder.{Binder}
use Rattle.mbqi_terms.specs.declared.term.Term.{Term}
use Rattle.function_model.specs.Fits.{Fits}
use Rattle.function_model.specs.Holds.{AssertionsHold, Holds, HoldsAt, IsOf, nowhere, values_in}
use Rattle.function_model.specs.Lookup.{is_declared, table_where}
use Rattle.function_model.specs.Shown.{shown_of}
use Rattle.mbqi_terms.specs.Meanings.{truth_of}
use Rattle.function_model.specs.ValueOf.{Point, value_of}
use Rattle.function_model.specs.declared.model.FunctionModel.{FunctionModel}
use Rattle.element_atoms.specs.Atoms.{formulas_in}
use Rattle.element_atoms.specs.Profile.{IsArgument, IsClause, IsElementary, IsRule, for_all, the_sort, variables_from}
use Rattle.element_atoms.proofs.Numbers.{length_variables}
use Rattle.rule_form.specs.Rules.{IsChoice, IsOpen, assertion_at, clause_at, clause_of, first_from, first_with, formula_of, line_of, pool_terms, term_at, variables_of}
use Rattle.mbqi_terms.specs.Substitution.{put_into, put_into_formula}
use Rattle.rule_form.specs.Instance.{whole_at}
use Rattle.rule_form.specs.declared.choice.Choice.{Choice}
use Rattle.rule_form.proofs.Chosen.{itself_whole, line_clause}
use Rattle.rule_form.proofs.Rests.{AtFrom, from_first, from_here, from_next}
use Rattle.rule_form.proofs.Shapes.{clause_forall, variables_clause, variables_forall}
use Rattle.mbqi_loop.proofs.Holding.{clause_holds, holds_for_all}
use Rattle.mbqi_loop.proofs.Points.{Names, for_each}
use Rattle.mbqi_loop.proofs.Putting.{argument_value, clause_same, constant_value, nothing_put, terms_put}

-- each value of the sort is that of a term of the pool
abbrev pub IsNamed : Script → FunctionModel → Type 0
IsNamed script model =
    (v : Value) → IsOf model.sizes the_sort v → (t : Term) × Contains (pool_terms script.functions) t × (v ≡ value_of model t nowhere)

-- no rule with variables fails at terms of the pool
abbrev pub NoneFails : Script → FunctionModel → Type 0
NoneFails script model =
    (choice : Choice) → IsChoice script choice → IsOpen choice → truth_of (values_in model) (line_of script.assertions choice).formula ≡ true

module _ (script : Script) (model : FunctionModel) (fits : Fits script (shown_of model))
    (tables : (f : ℕ) → table_where (is_declared f) (shown_of model) ≡ table_where (is_declared f) model)
    (named : IsNamed script model) (none : NoneFails script model) where
  abbrev shown : FunctionModel
  shown = shown_of model

  -- without variables
  closed_holds : (f : Formula) → IsClause script.functions (IsArgument script.functions 0) f → truth_of (values_in model) f ≡ true
      → HoldsAt script.functions shown true f nowhere
  closed_holds f is true_there =
      clause_holds script shown fits nowhere (IsArgument script.functions 0) f is
      (clause_same script.functions shown model nowhere tables (IsArgument script.functions 0) (λ t. t) (λ g. g) nothing_put
      (constant_value script.functions shown model nowhere tables) f is ∙ true_there)

  -- at a point that has the values of the terms
  instance_holds : (n : ℕ) (f : Formula) (ts : List Term) (p : Point) → IsClause script.functions (IsArgument script.functions n) f
      → length ts ≡ n → Names (λ t. value_of model t nowhere) ts p → truth_of (values_in model) (clause_at f ts) ≡ true
      → HoldsAt script.functions shown true f p
  instance_holds n f ts p is many names true_there =
      let same = λ (place : ℕ) (h : place < n). names place (omega (arith, h, many)) in
      clause_holds script shown fits p (IsArgument script.functions n) f is
      (clause_same script.functions shown model p tables (IsArgument script.functions n) (put_into (term_at ts)) (put_into_formula (term_at ts))
      (terms_put (term_at ts)) (argument_value script.functions shown model p tables n (term_at ts) same) f is ∙ true_there)

  -- the instance of a rule with variables
  chosen_true : IsElementary script → (k n : ℕ) (a : Assertion) (clause : Formula) (ts : List Term) → slice_get script.assertions k ≡ Some a
      → a.formula ≡ for_all (suc n) clause → length ts ≡ suc n → All (λ t. Contains (pool_terms script.functions) t) ts
      → truth_of (values_in model) (clause_at clause ts) ≡ true
  chosen_true is k n a clause ts there e many pool =
      let choice : Choice = record { rule = k; terms = ts } in
      let binders : List Binder = variables_from 0 (suc n) in
      let whole : assertion_at script.assertions k ≡ formula.Forall binders clause = ap formula_of there ∙ e in
      let same : clause_of (assertion_at script.assertions k) ≡ clause = ap clause_of whole ∙ clause_forall binders clause in
      let legal : IsChoice script choice = record {
        rule = omega (arith, slice_get_within script.assertions k a there);
        terms = many ∙ sym (ap variables_of whole ∙ (variables_forall binders clause ∙ length_variables 0 (suc n)));
        pool = pool;
      } in
      ap (λ f. truth_of (values_in model) (clause_at f ts)) (sym same)
      ∙ (ap (truth_of (values_in model)) (sym (line_clause script is choice legal)) ∙ none choice legal (omega (arith, many)))

  rule_holds : IsElementary script → (k : ℕ) (a : Assertion) → slice_get script.assertions k ≡ Some a → IsRule script.functions a.formula
      → (variables_of a.formula ≡ 0 → truth_of (values_in model) a.formula ≡ true) → HoldsAt script.functions shown true a.formula nowhere
  rule_holds elementary k a there (zero, clause, e, is) closed =
      subst (λ f. HoldsAt script.functions shown true f nowhere) (sym e)
      (closed_holds clause is (ap (truth_of (values_in model)) (sym e) ∙ closed (ap variables_of e ∙ variables_clause script.functions (IsArgument script.functions 0) clause is)))
  rule_holds elementary k a there (suc n, clause, e, is) closed =
      subst (λ f. HoldsAt script.functions shown true f nowhere) (sym e)
      (holds_for_all script.functions shown nowhere (variables_from 0 (suc n)) clause
      (for_each (λ t. value_of model t nowhere) model.sizes (λ t. Contains (pool_terms script.functions) t) named
      (HoldsAt script.functions shown true clause) (suc n) nowhere
      (λ ts q many pool names. instance_holds (suc n) clause ts q is many names (chosen_true elementary k n a clause ts there e many pool))))

  rules_hold : IsElementary script → (k : ℕ) (assertions : List Assertion) → AtFrom script.assertions k assertions
      → AllByRecursion (λ (a : Assertion). IsRule script.functions a.formula) assertions
      → list_all (truth_of (values_in model)) (formulas_in (first_from k assertions)) ≡ true → AssertionsHold script.functions shown assertions
  rules_hold is k [] at all first = tt
  rules_hold is k (a ∷ assertions) at all first =
      let (closed, rest) = by (variables_of a.formula) first in (
        rule_holds is k a (from_here script.assertions k a assertions at) all.0
            (λ none. ap (truth_of (values_in model)) (sym (itself_whole script is k a.formula all.0 none)) ∙ closed none),
        rules_hold is (k + 1) assertions (from_next script.assertions k a assertions at) all.1 rest,
      )
    where
      -- the first instances of the others are true, and the assertion itself where it has no variables
      by : (n : ℕ) → list_all (truth_of (values_in model)) (formulas_in (first_with n k (whole_at k a.formula []) (first_from (k + 1) assertions))) ≡ true
          → (n ≡ 0 → truth_of (values_in model) (whole_at k a.formula []) ≡ true) × (list_all (truth_of (values_in model)) (formulas_in (first_from (k + 1) assertions)) ≡ true)
      by zero h =
          let parts = and_parts (truth_of (values_in model) (whole_at k a.formula [])) (list_all (truth_of (values_in model)) (formulas_in (first_from (k + 1) assertions))) h in
          (λ e. parts.0, parts.1)
      by (suc n) h = (λ e. absurd (omega (arith, e)), h)

  pub script_holds : IsElementary script → list_all (truth_of (values_in model)) (formulas_in (first_from 0 script.assertions)) ≡ true
      → Holds shown script
  script_holds is first = rules_hold is 0 script.assertions (from_first script.assertions) is.assertions first
