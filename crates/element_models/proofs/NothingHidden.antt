-- An elementary script has no Skolem symbols, and no arrays that a full model has tables for.
use Rattle.std.proofs.Common.{◌≡◌, ℕ, zero, suc, ◌+◌, Bool, true, List, [], ◌∷◌, ◌++◌, map, refl, sym, ap, ◌∙◌, inl, inr, rules}
use Rattle.std.specs.Prelude.{All}
use Rattle.std.specs.List.{AllByRecursion, flat_map}
use Rattle.std.proofs.lemmas.List.Elements.{All-head, All-tail}
use Rattle.std.proofs.lemmas.Simd.{map-map}
use Rattle.mbqi_terms.specs.declared.arrays.Arrays.{Arrays}
use Rattle.mbqi_terms.specs.declared.arrays.SkolemSort.{SkolemSort}
use Rattle.mbqi_terms.specs.declared.formula.Formula as formulas
use Rattle.mbqi_terms.specs.declared.formula.Formula.{Formula}
use Rattle.mbqi_terms.specs.declared.formula.Formula.TheFolds.{fold-roll-Formula}
use Rattle.mbqi_terms.specs.declared.formula.Formula.TheOpen.{Formula-F}
use Rattle.mbqi_terms.specs.declared.formula.Formula.TheVariants as formula
use Rattle.mbqi_terms.specs.declared.script.Assertion.{Assertion}
use Rattle.mbqi_terms.specs.declared.script.Function.{Function}
use Rattle.mbqi_terms.specs.declared.script.Script.{Script}
use Rattle.mbqi_terms.specs.declared.sort.Binder.{Binder}
use Rattle.mbqi_terms.specs.declared.sort.Sort.{Sort}
use Rattle.mbqi_terms.specs.declared.term.ArrayTerm.{ArrayTerm}
use Rattle.mbqi_terms.specs.declared.term.ArrayTerm.TheFolds.{fold-roll-Term, fold-Symbol, fold-Term}
use Rattle.mbqi_terms.specs.declared.term.ArrayTerm.TheOpen.{Term-F}
use Rattle.mbqi_terms.specs.declared.term.Symbol as symbols
use Rattle.mbqi_terms.specs.declared.term.Symbol.{Symbol}
use Rattle.mbqi_terms.specs.declared.term.Symbol.TheVariants as symbol
use Rattle.mbqi_terms.specs.declared.term.Term as terms
use Rattle.mbqi_terms.specs.declared.term.Term.{Term}
use Rattle.mbqi_terms.specs.declared.term.Term.TheVariants as term
use Rattle.mbqi_terms.specs.Binders.{binder_sorts, skolem_layer, skolems_at}
use Rattle.mbqi_terms.specs.ScriptLists.{WithArrays, all_joined, array_arrays, arrays_in, arrays_in_term, arrays_of, each_once, formula_arrays, joined, lists_of, no_arrays, skolems_from, skolems_of, symbol_arrays, term_arrays}
use Rattle.element_atoms.specs.Profile.{IsArgument, IsAtom, IsClause, IsElementary, IsLiteral, IsRule, variables_from}

-- no Skolem symbol comes from a clause, wherever it stands
module _ (assertion : ℕ) (outer : List Sort) where
  skolems_atom : (t : Term) (b : Bool) → skolems_at assertion (formula.Atom t) b outer ≡ []
  unfolding skolems_at
  skolems_atom t b = search (rules, formulas.the_lemmas)

  skolems_not : (t : Term) (b : Bool) → skolems_at assertion (formula.Not (formula.Atom t)) b outer ≡ []
  unfolding skolems_at
  skolems_not t b = search (rules, formulas.the_lemmas)

  skolems_any : (fs : List Formula) (b : Bool) → skolems_at assertion (formula.Any fs) b outer
      ≡ flat_map (λ (part : Bool → List Sort → List SkolemSort). part b outer) (map (skolems_at assertion) fs)
  unfolding skolems_at
  skolems_any fs b =
      ap (λ f. skolems_at assertion f b outer) (sym (formula.rolls-Any fs))
      ∙ ap (λ (found : Bool → List Sort → List SkolemSort). found b outer)
      (fold-roll-Formula (Bool → List Sort → List SkolemSort) (skolem_layer assertion) (Formula-F.Any fs))

  module _ (functions : List Function) (IsArg : Term → Type 0) where
    no_literal_skolems : (f : Formula) → IsLiteral functions IsArg f → skolems_at assertion f true outer ≡ []
    no_literal_skolems f is = elim is.2 [
      | inl e ↦ ap (λ g. skolems_at assertion g true outer) e ∙ skolems_atom is.0 true
      | inr e ↦ ap (λ g. skolems_at assertion g true outer) e ∙ skolems_not is.0 true
    ]

    no_literals_skolems : (fs : List Formula) → All (IsLiteral functions IsArg) fs
        → flat_map (λ (part : Bool → List Sort → List SkolemSort). part true outer) (map (skolems_at assertion) fs) ≡ []
    no_literals_skolems [] all = refl
    no_literals_skolems (f ∷ fs) all =
        let first = no_literal_skolems f (All-head (IsLiteral functions IsArg) f fs all) in
        let rest = no_literals_skolems fs (All-tail (IsLiteral functions IsArg) f fs all) in
        λ k. first k ++ rest k

    no_clause_skolems : (f : Formula) → IsClause functions IsArg f → skolems_at assertion f true outer ≡ []
    no_clause_skolems f (inl one) = no_literal_skolems f one
    no_clause_skolems f (inr any) =
        ap (λ g. skolems_at assertion g true outer) any.1 ∙ (skolems_any any.0 true ∙ no_literals_skolems any.0 any.2)

skolems_forall : (assertion : ℕ) (bs : List Binder) (f : Formula)
    → skolems_at assertion (formula.Forall bs f) true [] ≡ skolems_at assertion f true (binder_sorts bs)
unfolding skolems_at
skolems_forall assertion bs f = search (rules, formulas.the_lemmas)

no_rule_skolems : (assertion : ℕ) (functions : List Function) (f : Formula) → IsRule functions f → skolems_at assertion f true [] ≡ []
no_rule_skolems assertion functions f (zero, clause, e, is) =
    ap (λ g. skolems_at assertion g true []) e ∙ no_clause_skolems assertion [] functions (IsArgument functions 0) clause is
no_rule_skolems assertion functions f (suc n, clause, e, is) =
    let binders : List Binder = variables_from 0 (suc n) in
    ap (λ g. skolems_at assertion g true []) e
    ∙ (skolems_forall assertion binders clause ∙ no_clause_skolems assertion (binder_sorts binders) functions (IsArgument functions (suc n)) clause is)

no_skolems_from : (functions : List Function) (k : ℕ) (assertions : List Assertion) → AllByRecursion (λ (a : Assertion). IsRule functions a.formula) assertions
    → skolems_from k assertions ≡ []
no_skolems_from functions k [] all = refl
no_skolems_from functions k (a ∷ assertions) all =
    let first = no_rule_skolems k functions a.formula all.0 in
    let rest = no_skolems_from functions (k + 1) assertions all.1 in
    λ i. first i ++ rest i

pub no_skolems : (script : Script) → IsElementary script → skolems_of script ≡ []
no_skolems script is = no_skolems_from script.functions 0 script.assertions is.assertions

-- arrays that are found nowhere
none_joined : (found : List Arrays) → AllByRecursion (λ a. a ≡ no_arrays) found → all_joined found ≡ no_arrays
none_joined [] all = refl
none_joined (a ∷ found) all = ap (λ b. all_joined (b ∷ found)) all.0 ∙ none_joined found all.1

arrays_variable : (place : ℕ) → arrays_in_term (term.Var place) ≡ no_arrays
unfolding arrays_in_term
arrays_variable place = search (rules, terms.the_lemmas)

arrays_apply : (f : ℕ) (ts : List Term) → arrays_in_term (term.Apply (symbol.Declared f) ts) ≡ joined no_arrays (all_joined (map arrays_in_term ts))
unfolding arrays_in_term
arrays_apply f ts =
    ap arrays_in_term (sym (term.rolls-Apply (symbol.Declared f) ts))
    ∙ (ap (λ (x : WithArrays Term). x.found)
    (fold-roll-Term (WithArrays ArrayTerm) (WithArrays Symbol) (WithArrays Term) array_arrays symbol_arrays term_arrays (Term-F.Apply (symbol.Declared f) ts))
    ∙ (λ k. joined (nothing_declared k)
    (all_joined (map-map (λ (x : WithArrays Term). x.found)
    (fold-Term (WithArrays ArrayTerm) (WithArrays Symbol) (WithArrays Term) array_arrays symbol_arrays term_arrays) ts k))))
  where
    nothing_declared : (fold-Symbol (WithArrays ArrayTerm) (WithArrays Symbol) (WithArrays Term) array_arrays symbol_arrays term_arrays (symbol.Declared f)).found ≡ no_arrays
    nothing_declared = search (rules, symbols.the_lemmas)

module _ (functions : List Function) (n : ℕ) where
  no_argument_arrays : (t : Term) → IsArgument functions n t → arrays_in_term t ≡ no_arrays
  no_argument_arrays t (inl named) = ap arrays_in_term named.1 ∙ arrays_apply named.0 []
  no_argument_arrays t (inr variable) = ap arrays_in_term variable.1 ∙ arrays_variable variable.0

  no_arguments_arrays : (ts : List Term) → All (IsArgument functions n) ts → AllByRecursion (λ a. a ≡ no_arrays) (map arrays_in_term ts)
  no_arguments_arrays [] all = tt
  no_arguments_arrays (t ∷ ts) all = (
    no_argument_arrays t (All-head (IsArgument functions n) t ts all),
    no_arguments_arrays ts (All-tail (IsArgument functions n) t ts all),
  )

  no_atom_arrays : (t : Term) → IsAtom functions (IsArgument functions n) t → arrays_in_term t ≡ no_arrays
  no_atom_arrays t is =
      ap arrays_in_term is.3 ∙ (arrays_apply is.0 is.2 ∙ ap (joined no_arrays) (none_joined (map arrays_in_term is.2) (no_arguments_arrays is.2 is.7)))

  arrays_atom : (t : Term) → arrays_in (formula.Atom t) ≡ arrays_in_term t
  unfolding arrays_in
  arrays_atom t = search (rules, formulas.the_lemmas)

  arrays_not : (t : Term) → arrays_in (formula.Not (formula.Atom t)) ≡ arrays_in_term t
  unfolding arrays_in
  arrays_not t = search (rules, formulas.the_lemmas)

  arrays_any : (fs : List Formula) → arrays_in (formula.Any fs) ≡ all_joined (map arrays_in fs)
  unfolding arrays_in
  arrays_any fs = ap arrays_in (sym (formula.rolls-Any fs)) ∙ fold-roll-Formula Arrays formula_arrays (Formula-F.Any fs)

  no_literal_arrays : (f : Formula) → IsLiteral functions (IsArgument functions n) f → arrays_in f ≡ no_arrays
  no_literal_arrays f is = elim is.2 [
    | inl e ↦ ap arrays_in e ∙ (arrays_atom is.0 ∙ no_atom_arrays is.0 is.1)
    | inr e ↦ ap arrays_in e ∙ (arrays_not is.0 ∙ no_atom_arrays is.0 is.1)
  ]

  no_literals_arrays : (fs : List Formula) → All (IsLiteral functions (IsArgument functions n)) fs → AllByRecursion (λ a. a ≡ no_arrays) (map arrays_in fs)
  no_literals_arrays [] all = tt
  no_literals_arrays (f ∷ fs) all = (
    no_literal_arrays f (All-head (IsLiteral functions (IsArgument functions n)) f fs all),
    no_literals_arrays fs (All-tail (IsLiteral functions (IsArgument functions n)) f fs all),
  )

  no_clause_arrays : (f : Formula) → IsClause functions (IsArgument functions n) f → arrays_in f ≡ no_arrays
  no_clause_arrays f (inl one) = no_literal_arrays f one
  no_clause_arrays f (inr any) = ap arrays_in any.1 ∙ (arrays_any any.0 ∙ none_joined (map arrays_in any.0) (no_literals_arrays any.0 any.2))

arrays_forall : (bs : List Binder) (f : Formula) → arrays_in (formula.Forall bs f) ≡ arrays_in f
unfolding arrays_in
arrays_forall bs f = search (rules, formulas.the_lemmas)

no_rule_arrays : (functions : List Function) (f : Formula) → IsRule functions f → arrays_in f ≡ no_arrays
no_rule_arrays functions f (zero, clause, e, is) = ap arrays_in e ∙ no_clause_arrays functions 0 clause is
no_rule_arrays functions f (suc n, clause, e, is) =
    ap arrays_in e ∙ (arrays_forall (variables_from 0 (suc n)) clause ∙ no_clause_arrays functions (suc n) clause is)

no_arrays_in : (functions : List Function) (assertions : List Assertion) → AllByRecursion (λ (a : Assertion). IsRule functions a.formula) assertions
    → AllByRecursion (λ a. a ≡ no_arrays) (map (λ (a : Assertion). arrays_in a.formula) assertions)
no_arrays_in functions [] all = tt
no_arrays_in functions (a ∷ assertions) all = (no_rule_arrays functions a.formula all.0, no_arrays_in functions assertions all.1)

-- the lists of an elementary script have its functions alone
pub lists_are : (script : Script) → IsElementary script → lists_of script ≡ record { functions = script.functions; skolems = []; arrays = no_arrays }
lists_are script is =
    let found : List Arrays = map (λ (a : Assertion). arrays_in a.formula) script.assertions in
    let none : arrays_of script ≡ no_arrays = ap each_once (none_joined found (no_arrays_in script.functions script.assertions is.assertions)) in
    λ k. record { functions = script.functions; skolems = no_skolems script is k; arrays = none k }
