-- The instance of a rule at ground terms is an instance of its assertion.
use Rattle.std.proofs.Common.{◌≡◌, ℕ, zero, suc, ◌+◌, ◌<◌, Bool, true, false, List, [], ◌∷◌, ◌++◌, length, map, refl, sym, ap, subst, ◌∙◌, inl, inr, arith, rules, cond, append-nil, ◌||◌}
use Rattle.std.specs.Prelude.{◌==◌, All, Some, slice_get, slice_index_or}
use Rattle.std.specs.List.{AllZip, flat_map}
use Rattle.std.proofs.lemmas.List.Elements.{All-head, All-tail}
use Rattle.mbqi_terms.specs.HasSort.{HasSortIn, HaveSortsIn, IsDeclared}
use Rattle.mbqi_terms.specs.InForm.{free_setting}
use Rattle.mbqi_terms.specs.ScriptLists.{lists_of}
use Rattle.mbqi_terms.specs.declared.sort.Plain.TheVariants as plain
use Rattle.mbqi_terms.specs.declared.formula.Formula as formulas
use Rattle.mbqi_terms.specs.declared.formula.Formula.{Formula}
use Rattle.mbqi_terms.specs.declared.formula.Formula.TheFolds.{fold-roll-Formula}
use Rattle.mbqi_terms.specs.declared.formula.Formula.TheOpen.{Formula-F}
use Rattle.mbqi_terms.specs.declared.formula.Formula.TheVariants as formula
use Rattle.mbqi_terms.specs.declared.formula.Formula.TheVariants.{rolls-Any}
use Rattle.mbqi_terms.specs.declared.script.Assertion.{Assertion}
use Rattle.mbqi_terms.specs.declared.script.Function.{Function}
use Rattle.mbqi_terms.specs.declared.script.Script.{Script}
use Rattle.mbqi_terms.specs.declared.sort.Binder.{Binder}
use Rattle.mbqi_terms.specs.declared.term.Term.{Term}
use Rattle.mbqi_terms.specs.declared.term.Term.TheVariants as term
use Rattle.element_atoms.specs.Profile.{IsArgument, IsClause, IsGround, IsLiteral, IsRule, for_all, variables_from, the_sort}
use Rattle.rule_form.specs.Instance.{IsInstance, IsTermFor, below_universal, is_bound, start, term_for, whole, whole_at}
use Rattle.rule_form.proofs.Wholes.{clause_whole, whole_forall, whole_is}
use Rattle.rule_form.specs.Rules.{term_at, clause_at}
use Rattle.mbqi_terms.specs.Binders.{universal_layer, universals_at}

-- the universal variables of a rule are those of its quantifier
no_universal_atom : (t : Term) (b : Bool) → universals_at (formula.Atom t) b ≡ []
unfolding universals_at
no_universal_atom t b = search (rules, formulas.the_lemmas)

no_universal_not : (t : Term) (b : Bool) → universals_at (formula.Not (formula.Atom t)) b ≡ []
unfolding universals_at
no_universal_not t b = search (rules, formulas.the_lemmas)

universals_any : (fs : List Formula) (b : Bool) → universals_at (formula.Any fs) b ≡ flat_map (λ (part : Bool → List Binder). part b) (map universals_at fs)
unfolding universals_at
universals_any fs b =
    ap (λ f. universals_at f b) (sym (rolls-Any fs)) ∙ ap (λ (part : Bool → List Binder). part b) (fold-roll-Formula (Bool → List Binder) universal_layer (Formula-F.Any fs))

universals_forall : (bs : List Binder) (f : Formula) → universals_at (formula.Forall bs f) true ≡ bs ++ universals_at f true
unfolding universals_at
universals_forall bs f = search (rules, formulas.the_lemmas)

module _ (functions : List Function) (IsArg : Term → Type 0) where
  no_universal_literal : (f : Formula) (b : Bool) → IsLiteral functions IsArg f → universals_at f b ≡ []
  no_universal_literal f b is = elim is.2 [
    | inl e ↦ ap (λ g. universals_at g b) e ∙ no_universal_atom is.0 b
    | inr e ↦ ap (λ g. universals_at g b) e ∙ no_universal_not is.0 b
  ]

  none_of_literals : (fs : List Formula) (b : Bool) → All (IsLiteral functions IsArg) fs → flat_map (λ (part : Bool → List Binder). part b) (map universals_at fs) ≡ []
  none_of_literals [] b all = refl
  none_of_literals (f ∷ fs) b all =
      ap (λ xs. xs ++ flat_map (λ (part : Bool → List Binder). part b) (map universals_at fs)) (no_universal_literal f b (All-head (IsLiteral functions IsArg) f fs all))
      ∙ none_of_literals fs b (All-tail (IsLiteral functions IsArg) f fs all)

  no_universal : (f : Formula) (b : Bool) → IsClause functions IsArg f → universals_at f b ≡ []
  no_universal f b (inl is) = no_universal_literal f b is
  no_universal f b (inr is) = ap (λ g. universals_at g b) is.1 ∙ (universals_any is.0 b ∙ none_of_literals is.0 b is.2)

  rule_universals : (n : ℕ) (f : Formula) → IsClause functions IsArg f → universals_at (for_all n f) true ≡ variables_from 0 n
  rule_universals zero f is = no_universal f true is
  rule_universals (suc n) f is =
      universals_forall (variables_from 0 (suc n)) f ∙ (ap (λ bs. variables_from 0 (suc n) ++ bs) (no_universal f true is) ∙ append-nil (variables_from 0 (suc n)))

-- a constant or the seed is a ground term of the sort
ground_term : (script : Script) (binder : Binder) (t : Term) → binder.sort ≡ the_sort → 0 < length script.sorts → IsGround script.functions t → IsTermFor script binder t
ground_term script binder t e some (inl named) =
    let is : IsDeclared (lists_of script) named.0 [] the_sort =
    record { function = named.2.0; there = named.2.1; takes = named.2.2.1; gives = named.2.2.0 } in
    record {
      sort = plain.Elem 0;
      same = e;
      ground = subst (λ u. HasSortIn (free_setting script) [] u (plain.Elem 0)) (sym named.1) (HasSortIn.application named.0 [] [] (plain.Elem 0) is HaveSortsIn.no_terms);
    }
ground_term script binder t e some (inr last) = record {
  sort = plain.Elem 0;
  same = e;
  ground = subst (λ u. HasSortIn (free_setting script) [] u (plain.Elem 0)) (sym last) (HasSortIn.seed 0 refl some);
}

ground_terms : (script : Script) (place n : ℕ) (ts : List Term) → 0 < length script.sorts → length ts ≡ n → All (IsGround script.functions) ts
    → AllZip (IsTermFor script) (variables_from place n) ts
ground_terms script place zero [] some e all = tt
ground_terms script place zero (t ∷ ts) some e all = cc
ground_terms script place (suc n) [] some e all = cc
ground_terms script place (suc n) (t ∷ ts) some e all =
    let rest : length ts ≡ n = omega (arith, e) in (
      ground_term script (record { place = place; sort = the_sort }) t refl some (All-head (IsGround script.functions) t ts all),
      ground_terms script (place + 1) n ts some rest (All-tail (IsGround script.functions) t ts all),
    )

-- the variables of a rule have the terms of their places
same_place : (k : ℕ) → (k + 0 == k) ≡ true
same_place k = search (rules, arith)

other_place : (k j : ℕ) → (k + suc j == k) ≡ false
other_place k j = search (rules, arith)

next_place : (k j : ℕ) → k + suc j ≡ k + 1 + j
next_place k j = omega arith

given_at : (d : Term) (k n : ℕ) (ts : List Term) (j : ℕ) → length ts ≡ n → j < n → term_for (variables_from k n) ts (k + j) ≡ slice_index_or ts j d
given_at d k zero ts j e h = absurd (omega (arith, h))
given_at d k (suc n) [] j e h = cc
given_at d k (suc n) (t ∷ ts) zero e h =
    ap (λ b. cond b t (term_for (variables_from (k + 1) n) ts (k + 0))) (same_place k)
given_at d k (suc n) (t ∷ ts) (suc j) e h =
    ap (λ b. cond b t (term_for (variables_from (k + 1) n) ts (k + suc j))) (other_place k j)
    ∙ (ap (term_for (variables_from (k + 1) n) ts) (next_place k j) ∙ given_at d (k + 1) n ts j (omega (arith, e)) (omega (arith, h)))

bound_at : (k n j : ℕ) → j < n → is_bound (variables_from k n) (k + j) ≡ true
bound_at k zero j h = absurd (omega (arith, h))
bound_at k (suc n) zero h = ap (λ b. b || is_bound (variables_from (k + 1) n) (k + 0)) (same_place k)
bound_at k (suc n) (suc j) h =
    ap (λ b. b || is_bound (variables_from (k + 1) n) (k + suc j)) (other_place k j)
    ∙ (ap (is_bound (variables_from (k + 1) n)) (next_place k j) ∙ bound_at (k + 1) n j (omega (arith, h)))

-- below the quantifier each variable has its term
below_at : (k n : ℕ) (ts : List Term) (place : ℕ) → length ts ≡ n → place < n
    → term_at ts place ≡ (below_universal (variables_from 0 n) (start k (term_for (variables_from 0 n) ts))).at place
below_at k n ts place e h =
    let z : 0 + place ≡ place = omega arith in
    let bound : is_bound (variables_from 0 n) place ≡ true = subst (λ p. is_bound (variables_from 0 n) p ≡ true) z (bound_at 0 n place h) in
    let given : term_for (variables_from 0 n) ts place ≡ term_at ts place =
    subst (λ p. term_for (variables_from 0 n) ts p ≡ slice_index_or ts place (term.Var place)) z (given_at (term.Var place) 0 n ts place e h) in
    sym (ap (λ b. cond b (term_for (variables_from 0 n) ts place) (term.Var place)) bound ∙ given)

-- the whole instance of a rule is its clause with the terms
whole_clause : (functions : List Function) (k n : ℕ) (f : Formula) (ts : List Term) → IsClause functions (IsArgument functions n) f → length ts ≡ n
    → whole (start k (term_for (variables_from 0 n) ts)) true (for_all n f) ≡ clause_at f ts
whole_clause functions k zero f ts is e =
    clause_whole functions 0 ts (start k (term_for [] ts)) (λ place h. absurd (omega (arith, h))) f is
whole_clause functions k (suc n) f ts is e =
    let i = start k (term_for (variables_from 0 (suc n)) ts) in
    whole_forall i (variables_from 0 (suc n)) f
    ∙ clause_whole functions (suc n) ts (below_universal (variables_from 0 (suc n)) i) (λ place h. below_at k (suc n) ts place e h) f is

pub whole_rule : (functions : List Function) (k : ℕ) (f : Formula) (ts : List Term) (is : IsRule functions f) → length ts ≡ is.0 → whole_at k f ts ≡ clause_at is.1 ts
whole_rule functions k f ts is e =
    let universals : universals_at f true ≡ variables_from 0 is.0 =
    ap (λ g. universals_at g true) is.2 ∙ rule_universals functions (IsArgument functions is.0) is.0 is.1 is.3 in
    ap (λ bs. whole (start k (term_for bs ts)) true f) universals
    ∙ ap (whole (start k (term_for (variables_from 0 is.0) ts)) true) is.2 ∙ whole_clause functions k is.0 is.1 ts is.3 e

-- the instance of a rule at ground terms is an instance of its assertion
pub rule_instance : (script : Script) (k : ℕ) (a : Assertion) (ts : List Term) → slice_get script.assertions k ≡ Some a → (is : IsRule script.functions a.formula)
    → 0 < length script.sorts → length ts ≡ is.0 → All (IsGround script.functions) ts → IsInstance script k ts (whole_at k a.formula ts)
rule_instance script k a ts there is some e ground =
    let universals : universals_at a.formula true ≡ variables_from 0 is.0 =
    ap (λ f. universals_at f true) is.2 ∙ rule_universals script.functions (IsArgument script.functions is.0) is.0 is.1 is.3 in (
      a,
      there,
      subst (λ bs. AllZip (IsTermFor script) bs ts) (sym universals) (ground_terms script 0 is.0 ts some e ground),
      whole_is a.formula (start k (term_for (universals_at a.formula true) ts)) true,
    )
