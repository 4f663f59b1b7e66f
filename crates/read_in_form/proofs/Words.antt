-- Each word over meanings that are placed one behind the other gives something in form.
use Rattle.std.proofs.Common.{◌≡◌, ℕ, true, false, List, Result, Ok, subst}
use Rattle.std.specs.List.{list_any}
use Rattle.mbqi_values.specs.declared.fault.FaultKind.{FaultKind}
use Rattle.mbqi_terms.specs.declared.formula.Formula.{Formula}
use Rattle.mbqi_terms.specs.declared.formula.Formula.TheVariants as formula
use Rattle.mbqi_terms.specs.declared.script.Script.{Script}
use Rattle.mbqi_terms.specs.declared.sort.Binder.{Binder}
use Rattle.smtlib_terms.specs.declared.meaning.Meaning.{Meaning}
use Rattle.smtlib_terms.specs.declared.meaning.Meaning.TheVariants as meaning
use Rattle.smtlib_terms.specs.declared.word.Word.{Word}
use Rattle.smtlib_terms.specs.declared.word.Word.TheVariants as word
use Rattle.smtlib_terms.specs.Operators.{applied, at_least, at_most, below, chain, choice, compared_by, connective, equality, exclusion, formula_meant, implication, inequality, negated, ordered_by, pairs, is_relation, is_wide, narrow, relation_meant}
use Rattle.read_in_form.proofs.Arrays.{defaulting_placed, selection_placed, storing_placed}
use Rattle.read_in_form.proofs.Comparisons.{at_most_order, below_order, difference_placed, equality_placed, ordered_placed, turned}
use Rattle.read_in_form.proofs.Connectives.{choice_placed, conjunction_placed, disjunction_placed, exclusion_placed, implication_placed, negated_placed}
use Rattle.smtlib_terms.specs.InForm.{IsFormula}
use Rattle.read_in_form.proofs.Placed.{AreMeanings, IsMeaning}
use Rattle.read_in_form.proofs.Steps.{stepped, not_refused, same_ok}
use Rattle.read_in_form.proofs.Sums.{addition_placed}

formula_is : (script : Script) (scope : List Binder) (next : ℕ) (r : Result Formula FaultKind) (m : Meaning) → ((f : Formula) → r ≡ Ok f → IsFormula script scope next f) → formula_meant r ≡ Ok m → IsMeaning script scope next m
formula_is script scope next r m gives is =
    let read = stepped r (λ (f : Formula). Ok (meaning.Formula f)) m is in
    let same : meaning.Formula read.value ≡ m = let made = read.rest in cc in
    subst (IsMeaning script scope next) same (gives read.value read.first)

-- a relation over arguments whose numbers are within their limits
pub record IsNarrow (args : List Meaning) (r : Result Formula FaultKind) (m : Meaning) : Type 0 where
  pub none : list_any is_wide args ≡ false
  pub made : formula_meant r ≡ Ok m

narrow_is : (args : List Meaning) (r : Result Formula FaultKind) (m : Meaning) → relation_meant args r ≡ Ok m → IsNarrow args r m
narrow_is args r m is =
    let read = stepped (formula_meant r) (narrow args) m is in
    let test = not_refused (list_any is_wide args) (Ok read.value) _ m read.rest in
    record { none = test.0; made = subst (λ (n : Meaning). formula_meant r ≡ Ok n) (same_ok read.value m test.1) read.first }

relation_is : (script : Script) (scope : List Binder) (next : ℕ) (args : List Meaning) (r : Result Formula FaultKind) (m : Meaning) → ((f : Formula) → r ≡ Ok f → IsFormula script scope next f) → relation_meant args r ≡ Ok m → IsMeaning script scope next m
relation_is script scope next args r m gives is = formula_is script scope next r m gives (narrow_is args r m is).made

pub relation_narrow : (w : Word) (args : List Meaning) (m : Meaning) → is_relation w ≡ true → applied w args ≡ Ok m → list_any is_wide args ≡ false
relation_narrow word.Equal args m relation is = (narrow_is args _ m is).none
relation_narrow word.Distinct args m relation is = (narrow_is args _ m is).none
relation_narrow word.AtMost args m relation is = (narrow_is args _ m is).none
relation_narrow word.Below args m relation is = (narrow_is args _ m is).none
relation_narrow word.AtLeast args m relation is = (narrow_is args _ m is).none
relation_narrow word.Above args m relation is = (narrow_is args _ m is).none
relation_narrow word.Not args m relation is = cc
relation_narrow word.And args m relation is = cc
relation_narrow word.Or args m relation is = cc
relation_narrow word.Implies args m relation is = cc
relation_narrow word.Xor args m relation is = cc
relation_narrow word.Choose args m relation is = cc
relation_narrow word.Plus args m relation is = cc
relation_narrow word.Minus args m relation is = cc
relation_narrow word.Select args m relation is = cc
relation_narrow word.Store args m relation is = cc
relation_narrow word.Default args m relation is = cc
relation_narrow word.Arithmetic args m relation is = cc
relation_narrow word.Let args m relation is = cc
relation_narrow word.Forall args m relation is = cc
relation_narrow word.Exists args m relation is = cc
relation_narrow word.Annotated args m relation is = cc
relation_narrow word.Unread args m relation is = cc
relation_narrow word.Name args m relation is = cc

pub applied_placed : (script : Script) (scope : List Binder) (next : ℕ) (w : Word) (args : List Meaning) (m : Meaning) → AreMeanings script scope next args → applied w args ≡ Ok m → IsMeaning script scope next m
applied_placed script scope next word.Not args m are is = formula_is script scope next (negated args) m (λ f e. negated_placed script scope next args f are e) is
applied_placed script scope next word.And args m are is = formula_is script scope next (connective formula.All args) m (λ f e. conjunction_placed script scope next args f are e) is
applied_placed script scope next word.Or args m are is = formula_is script scope next (connective formula.Any args) m (λ f e. disjunction_placed script scope next args f are e) is
applied_placed script scope next word.Implies args m are is = formula_is script scope next (implication args) m (λ f e. implication_placed script scope next args f are e) is
applied_placed script scope next word.Xor args m are is = formula_is script scope next (exclusion args) m (λ f e. exclusion_placed script scope next args f are e) is
applied_placed script scope next word.Equal args m are is = relation_is script scope next args (at_least 2 args (compared_by (chain equality) args)) m (λ f e. equality_placed script scope next args f are e) is
applied_placed script scope next word.Distinct args m are is = relation_is script scope next args (at_least 2 args (compared_by (pairs inequality) args)) m (λ f e. difference_placed script scope next args f are e) is
applied_placed script scope next word.Choose args m are is = formula_is script scope next (choice args) m (λ f e. choice_placed script scope next args f are e) is
applied_placed script scope next word.AtMost args m are is = relation_is script scope next args (at_least 2 args (ordered_by at_most args)) m (λ f e. ordered_placed script scope next at_most (at_most_order script scope) args f are e) is
applied_placed script scope next word.Below args m are is = relation_is script scope next args (at_least 2 args (ordered_by below args)) m (λ f e. ordered_placed script scope next below (below_order script scope) args f are e) is
applied_placed script scope next word.AtLeast args m are is = relation_is script scope next args (at_least 2 args (ordered_by (λ s t. at_most t s) args)) m (λ f e. ordered_placed script scope next (λ s t. at_most t s) (turned script scope at_most (at_most_order script scope)) args f are e) is
applied_placed script scope next word.Above args m are is = relation_is script scope next args (at_least 2 args (ordered_by (λ s t. below t s) args)) m (λ f e. ordered_placed script scope next (λ s t. below t s) (turned script scope below (below_order script scope)) args f are e) is
applied_placed script scope next word.Plus args m are is = addition_placed script scope next args m are is
applied_placed script scope next word.Select args m are is = selection_placed script scope next args m are is
applied_placed script scope next word.Store args m are is = storing_placed script scope next args m are is
applied_placed script scope next word.Default args m are is = defaulting_placed script scope next args m are is
applied_placed script scope next word.Arithmetic args m are is = cc
applied_placed script scope next word.Minus args m are is = cc
applied_placed script scope next word.Let args m are is = cc
applied_placed script scope next word.Forall args m are is = cc
applied_placed script scope next word.Exists args m are is = cc
applied_placed script scope next word.Annotated args m are is = cc
applied_placed script scope next word.Unread args m are is = cc
applied_placed script scope next word.Name args m are is = cc
