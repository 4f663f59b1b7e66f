-- Rules of the first profile and their instances over a pool of ground terms (this project's own, after Ge and de Moura 2009). Each
-- assertion is one rule.
use Rattle.std.specs.Prelude.{◌≡◌, ℕ, zero, suc, ◌+◌, ◌*◌, ◌≤◌, true, List, [], ◌∷◌, ◌++◌, length, map, All, Contains, Option, None, Some, slice_get, slice_index_or}
use Rattle.mbqi_terms.specs.declared.formula.Formula.{Formula, end_of-Formula, more_of-Formula}
use Rattle.mbqi_terms.specs.declared.formula.Formula.TheVariants.{Forall'}
use Rattle.mbqi_terms.specs.declared.formula.Formula.TheVariants as formula
use Rattle.mbqi_terms.specs.declared.instance.InstanceLine.{InstanceLine}
use Rattle.mbqi_terms.specs.declared.script.Assertion.{Assertion}
use Rattle.mbqi_terms.specs.declared.script.Function.{Function}
use Rattle.mbqi_terms.specs.declared.script.Script.{Script}
use Rattle.mbqi_terms.specs.declared.term.Term.{Term}
use Rattle.mbqi_terms.specs.declared.term.Term.TheVariants as term
use Rattle.element_atoms.specs.Profile.{constants_of, seed}
use Rattle.mbqi_terms.specs.Substitution.{put_into_formula}
use Rattle.rule_form.specs.Instance.{whole_at}
use Rattle.rule_form.specs.declared.choice.Choice.{Choice}

-- How many variables an assertion has, and its clause.
abbrev pub variables_of : Formula → ℕ
variables_of (Forall' binders u row) = length binders
variables_of other = 0

abbrev pub clause_of : Formula → Formula
clause_of (Forall' binders u (more_of-Formula f end_of-Formula)) = f
clause_of other = other

-- The term in the place of a variable.
abbrev pub term_at : List Term → ℕ → Term
term_at terms place = slice_index_or terms place (term.Var place)

-- A clause with these terms in the places of its variables.
abbrev pub clause_at : Formula → List Term → Formula
clause_at clause terms = put_into_formula (term_at terms) clause

-- The assertion of a number.
abbrev pub formula_of : Option Assertion → Formula
formula_of None = formula.Truth true
formula_of (Some assertion) = assertion.formula

abbrev pub assertion_at : List Assertion → ℕ → Formula
assertion_at assertions rule = formula_of (slice_get assertions rule)

-- The whole instance of a rule at terms. That of a clause is the clause with the terms in the places of its variables.
abbrev pub line_of : List Assertion → Choice → InstanceLine
line_of assertions choice =
    record { assertion = choice.rule; terms = choice.terms; formula = whole_at choice.rule (assertion_at assertions choice.rule) choice.terms }

abbrev pub lines_of : List Assertion → List Choice → List InstanceLine
lines_of assertions choices = map (line_of assertions) choices

-- The first pool gives each variable the constants in order, then the seed.
abbrev pub pool_terms : List Function → List Term
pool_terms functions = constants_of functions ++ seed ∷ []

-- A rule and as many terms as it has variables, each of the pool.
pub record IsChoice (script : Script) (choice : Choice) : Type 0 where
  pub rule : choice.rule + 1 ≤ length script.assertions
  pub terms : length choice.terms ≡ variables_of (assertion_at script.assertions choice.rule)
  pub pool : All (λ t. Contains (pool_terms script.functions) t) choice.terms

-- The rule has variables.
abbrev pub IsOpen : Choice → Type 0
IsOpen choice = 1 ≤ length choice.terms

-- The whole instances of the rules without variables, from number k on.
abbrev pub first_with : ℕ → ℕ → Formula → List InstanceLine → List InstanceLine
first_with zero k f lines = record { assertion = k; terms = []; formula = f } ∷ lines
first_with (suc n) k f lines = lines

abbrev pub first_from : ℕ → List Assertion → List InstanceLine
first_from k [] = []
first_from k (assertion ∷ assertions) = first_with (variables_of assertion.formula) k (whole_at k assertion.formula []) (first_from (k + 1) assertions)

-- How many instances over the pool there are: for each rule the product, over its variables, of the terms of the pool.
abbrev pub power : ℕ → ℕ → ℕ
power base zero = 1
power base (suc n) = base * power base n

abbrev pub count_from : ℕ → List Assertion → ℕ
count_from size [] = 0
count_from size (assertion ∷ assertions) = power size (variables_of assertion.formula) + count_from size assertions

abbrev pub count : Script → ℕ
count script = count_from (length (pool_terms script.functions)) script.assertions
