-- Worked rows: what the definitions over scripts, formulas and valuations give for small ones.
use Rattle.std.proofs.Common.{◌≡◌, ◌≢◌, ℕ, ℤ, pos, negsuc, Bool, true, false, [], ◌∷◌, ◌⊎◌, inl, inr, None, Some, refl, ap, subst, ◌∙◌, rules, arith}
use Rattle.std.specs.Prelude.{codes}
use Rattle.mbqi_values.specs.Value.{plus_number}
use Rattle.mbqi_values.specs.declared.value.Value.{Value}
use Rattle.mbqi_values.specs.declared.value.Value.TheVariants as value
use Rattle.mbqi_terms.specs.declared.formula.Formula as formulas
use Rattle.mbqi_terms.specs.declared.formula.Formula.{Formula}
use Rattle.mbqi_terms.specs.declared.formula.Formula.TheVariants as formula
use Rattle.mbqi_terms.specs.declared.script.Assertion.{Assertion}
use Rattle.mbqi_terms.specs.declared.script.Script.{Script}
use Rattle.mbqi_terms.specs.declared.sort.Binder.{Binder}
use Rattle.mbqi_terms.specs.declared.sort.Plain.TheVariants as plain
use Rattle.mbqi_terms.specs.declared.sort.Sort.{Sort}
use Rattle.mbqi_terms.specs.declared.sort.Sort.TheVariants as sort
use Rattle.mbqi_terms.specs.declared.store.lists.Lists.{Lists}
use Rattle.mbqi_terms.specs.declared.term.ArrayTerm as arrays
use Rattle.mbqi_terms.specs.declared.term.ArrayTerm.{ArrayTerm}
use Rattle.mbqi_terms.specs.declared.term.ArrayTerm.TheOpen.{Term-F}
use Rattle.mbqi_terms.specs.declared.term.ArrayTerm.TheVariants as array
use Rattle.mbqi_terms.specs.declared.term.Symbol as symbols
use Rattle.mbqi_terms.specs.declared.term.Symbol.{Symbol}
use Rattle.mbqi_terms.specs.declared.term.Symbol.TheVariants as symbol
use Rattle.mbqi_terms.specs.declared.term.Term as terms
use Rattle.mbqi_terms.specs.declared.term.Term.{Term, out-Term}
use Rattle.mbqi_terms.specs.declared.term.Term.TheVariants as term
use Rattle.mbqi_terms.specs.Binders.{skolems_at, universals_at, variables_in}
use Rattle.mbqi_terms.specs.Lawful.{IsOfSort, IsPlainlyLawful}
use Rattle.mbqi_terms.specs.Lists.{sort_of_term, sum_sort}
use Rattle.mbqi_terms.specs.Meanings.{Meanings}
use Rattle.mbqi_terms.specs.ScriptLists.{arrays_in, arrays_in_array, arrays_in_term, arrays_of}
use Rattle.mbqi_terms.specs.Substitution.{put_into}
use Rattle.mbqi_terms.specs.SameTree.{same_array, same_term}
use Rattle.mbqi_terms.specs.Varies.{hides, is_plain_array, varies}
use Rattle.mbqi_terms.proofs.Levels.{out-apply, out-num, out-plus}

abbrev constant : ℕ → Term
constant f = term.Apply (symbol.Declared f) []

abbrev binder : ℕ → Sort → Binder
binder place s = record { place = place; sort = s }

abbrev asserted : Formula → Assertion
asserted f = record { label = None; formula = f }

-- `(forall ((x S)) (exists ((y S)) (r x y)))`: y depends on x
abbrev serial : Formula
serial = formula.Forall (binder 0 (sort.Elem 0) ∷ []) (formula.Exists (binder 1 (sort.Elem 0) ∷ []) (formula.Atom (term.Apply (symbol.Declared 0) (term.Var 0 ∷ term.Var 1 ∷ []))))

skolem_of_serial : skolems_at 0 serial true [] ≡ record { assertion = 0; place = 1; args = sort.Elem 0 ∷ []; result = sort.Elem 0 } ∷ []
unfolding skolems_at
skolem_of_serial = search (rules, formulas.the_lemmas)

universal_of_serial : universals_at serial true ≡ binder 0 (sort.Elem 0) ∷ []
unfolding universals_at
universal_of_serial = search (rules, formulas.the_lemmas)

variables_of_serial : variables_in serial ≡ 2
unfolding variables_in
variables_of_serial = search (rules, formulas.the_lemmas)

-- under `not` it is x that is existential, without arguments, and y universal
skolem_under_not : skolems_at 4 (formula.Not serial) true [] ≡ record { assertion = 4; place = 0; args = []; result = sort.Elem 0 } ∷ []
unfolding skolems_at
skolem_under_not = search (rules, formulas.the_lemmas)

-- `(= b (store a 3 7))` and `(not (= (select b 3) 7))`: b, a, the store, and one pair
abbrev a : ArrayTerm
a = array.Name 0

abbrev b : ArrayTerm
b = array.Name 1

abbrev stored : ArrayTerm
stored = array.Store a (term.Num (pos 3)) (term.Num (pos 7))

arrays_of_store : arrays_in_array stored ≡ record { terms = a ∷ stored ∷ []; atoms = []; defaults = [] }
unfolding arrays_in_array
arrays_of_store = search (rules, arrays.the_lemmas, terms.the_lemmas)

arrays_of_equality : arrays_in (formula.SameArray b stored)
    ≡ record { terms = b ∷ a ∷ stored ∷ []; atoms = record { left = b; right = stored } ∷ []; defaults = [] }
unfolding arrays_in arrays_in_array
arrays_of_equality = search (rules, formulas.the_lemmas, arrays.the_lemmas, terms.the_lemmas)

-- in `(= a (store b 0 (f 3)))` and `(select b (default a))`: each array once, and `a` under `default`

arrays_of_default : arrays_in_term (term.Read b (term.Default a)) ≡ record { terms = b ∷ a ∷ []; atoms = []; defaults = a ∷ [] }
unfolding arrays_in_term
arrays_of_default = search (rules, arrays.the_lemmas, terms.the_lemmas)

abbrev storing : Script
storing = record {
  sorts = [];
  functions = record { name = []; args = []; result = sort.Array plain.Int plain.Int } ∷ record { name = []; args = []; result = sort.Array plain.Int plain.Int } ∷ [];
  assertions = asserted (formula.SameArray b stored) ∷ asserted (formula.Not (formula.Equal (term.Read b (term.Num (pos 3))) (term.Num (pos 7)))) ∷ [];
  asks = true;
}

arrays_of_script : arrays_of storing ≡ record { terms = b ∷ a ∷ stored ∷ []; atoms = record { left = b; right = stored } ∷ []; defaults = [] }
unfolding arrays_in arrays_in_array arrays_in_term same_array same_term
arrays_of_script = search (rules, formulas.the_lemmas, arrays.the_lemmas, terms.the_lemmas)

-- a variable in the index of a store, and in a pair, is seen; so is a hidden name
varying : varies (array.Store a (term.Var 0) (term.Num (pos 1))) ≡ true
unfolding varies
varying = search (rules, arrays.the_lemmas, terms.the_lemmas)

hiding : is_plain_array (array.Store a (term.Apply symbol.Far []) (term.Num (pos 1))) ≡ false
unfolding varies hides
hiding = search (rules, arrays.the_lemmas, terms.the_lemmas, symbols.the_lemmas)

-- `(f (+ x 1))` with x at place 0 and 4 for it
put_in_sum : put_into (λ place. term.Num (pos 4)) (term.Apply (symbol.Declared 2) (term.Plus (term.Var 0) (pos 1) ∷ []))
    ≡ term.Apply (symbol.Declared 2) (term.Num (pos 5) ∷ [])
unfolding put_into
put_in_sum = search (rules, terms.the_lemmas, symbols.the_lemmas)

-- valuations of x and x + 1, of the numeral 5, and of f at two terms
abbrev valued : (Term → Value) → Meanings
valued worth = record { value = worth; same = λ p q. false }

wrong_numeral : (l : Lists) (worth : Term → Value) → worth (term.Num (pos 5)) ≡ value.Num (pos 6)
    → IsPlainlyLawful l (λ t. t ≡ term.Num (pos 5)) (valued worth) → ⊥
wrong_numeral l worth six lawful =
    let five : worth (term.Num (pos 5)) ≡ value.Num (pos 5) = lawful.numbers (term.Num (pos 5)) (pos 5) refl (out-num (pos 5)) in
    cc (five, six)

wrong_sum : (l : Lists) (worth : Term → Value) (x : Term) → worth x ≡ value.Num (pos 5) → worth (term.Plus x (pos 1)) ≡ value.Num (pos 7)
    → IsPlainlyLawful l (λ t. (t ≡ x) ⊎ (t ≡ term.Plus x (pos 1))) (valued worth) → ⊥
wrong_sum l worth x five seven lawful =
    let six : worth (term.Plus x (pos 1)) ≡ plus_number (worth x) (pos 1) = lawful.sums (term.Plus x (pos 1)) x (pos 1) (inr refl) (out-plus x (pos 1)) in
    let sum : plus_number (worth x) (pos 1) ≡ value.Num (pos 6) = ap (λ v. plus_number v (pos 1)) five in
    cc (six, sum, seven)

wrong_application : (l : Lists) (worth : Term → Value) (f : Symbol) (t u : Term) → worth t ≡ worth u
    → worth (term.Apply f (t ∷ [])) ≡ value.Truth true → worth (term.Apply f (u ∷ [])) ≡ value.Truth false
    → IsPlainlyLawful l (λ s. (s ≡ term.Apply f (t ∷ [])) ⊎ (s ≡ term.Apply f (u ∷ []))) (valued worth) → ⊥
wrong_application l worth f t u same first second lawful =
    let alike : worth (term.Apply f (t ∷ [])) ≡ worth (term.Apply f (u ∷ [])) =
    lawful.applications (term.Apply f (t ∷ [])) (term.Apply f (u ∷ [])) f (t ∷ []) (u ∷ []) (inl refl) (inr refl) (out-apply f (t ∷ [])) (out-apply f (u ∷ []))
    (ap (λ v. v ∷ []) same) in
    cc (alike, first, second)

-- a numeral with its own value is lawfully valued
right_numeral : (l : Lists) → IsPlainlyLawful l (λ t. t ≡ term.Num (pos 5)) (valued (λ t. value.Num (pos 5)))
right_numeral l = record {
  sorts = λ t s is e. subst (λ s. IsOfSort s (value.Num (pos 5))) (has_sort l t s is e) tt;
  numbers = λ t n is e. ap value.Num (same_number t n is e);
  truths = λ t b is e. absurd (no_truth t b is e);
  sums = λ t u n is e. absurd (no_sum t u n is e);
  applications = λ t u f ts us is other e e' same. refl;
  reads = λ t u a i j is other e e' same. refl;
} where
  has_sort : (l : Lists) (t : Term) (s : Sort) → t ≡ term.Num (pos 5) → sort_of_term l t ≡ Some s → sort.Int ≡ s
  has_sort l t s is e =
      let own : sort_of_term l t ≡ Some sort.Int = ap (sort_of_term l) is ∙ ap (sum_sort l) (out-num (pos 5)) in
      cc (own, e)

  same_number : (t : Term) (n : ℤ) → t ≡ term.Num (pos 5) → out-Term t ≡ Term-F.Num n → pos 5 ≡ n
  same_number t n is e =
      let own : out-Term t ≡ Term-F.Num (pos 5) = ap out-Term is ∙ out-num (pos 5) in
      cc (own, e)

  no_truth : (t : Term) (b : Bool) → t ≡ term.Num (pos 5) → out-Term t ≡ Term-F.Truth b → ⊥
  no_truth t b is e =
      let own : out-Term t ≡ Term-F.Num (pos 5) = ap out-Term is ∙ out-num (pos 5) in
      cc (own, e)

  no_sum : (t u : Term) (n : ℤ) → t ≡ term.Num (pos 5) → out-Term t ≡ Term-F.Plus u n → ⊥
  no_sum t u n is e =
      let own : out-Term t ≡ Term-F.Num (pos 5) = ap out-Term is ∙ out-num (pos 5) in
      cc (own, e)
