-- Comparisons over meanings that are placed one behind the other: each argument stands in several atoms.
use Rattle.std.proofs.Common.{◌≡◌, ◌≤◌, ℕ, suc, ◌+◌, true, false, leb, List, [], ◌∷◌, ◌++◌, length, map, Ok, refl, ap, sym, subst, ◌∙◌, arith}
use Rattle.std.specs.List.{list_any}
use Rattle.std.proofs.lemmas.Bool.{and_parts, or_parts}
use Rattle.mbqi_values.specs.declared.fault.FaultKind.TheVariants.{WrongCount, WrongSort}
use Rattle.mbqi_terms.specs.declared.formula.Formula.{Formula}
use Rattle.mbqi_terms.specs.declared.formula.Formula.TheVariants as formula
use Rattle.mbqi_terms.specs.declared.script.Script.{Script}
use Rattle.mbqi_terms.specs.declared.sort.Binder.{Binder}
use Rattle.mbqi_terms.specs.declared.sort.Plain.{Plain}
use Rattle.mbqi_terms.specs.declared.sort.Plain.TheVariants as plain
use Rattle.mbqi_terms.specs.declared.sort.Sort.{Sort}
use Rattle.mbqi_terms.specs.declared.sort.Sort.TheVariants as sort
use Rattle.mbqi_terms.specs.declared.term.ArrayTerm.{ArrayTerm}
use Rattle.mbqi_terms.specs.declared.term.Term.{Term}
use Rattle.smtlib_terms.specs.declared.meaning.Meaning.{Meaning}
use Rattle.smtlib_terms.specs.declared.meaning.Meaning.TheVariants as meaning
use Rattle.smtlib_terms.specs.Meaning.{sort_of, variables_of}
use Rattle.smtlib_terms.specs.Names.{◌>>=◌}
use Rattle.smtlib_terms.specs.Operators.{all_of, as_integer, as_integers, at_least, at_most, below, chain, chained, compared_by, equality, have_sort, inequality, is_quantified_meaning, ordered_by, pairs, compared}
use Rattle.measured_terms.proofs.FormulaLaws as formula_measure
use Rattle.mbqi_terms.specs.HasSort.{IsIndexSort}
use Rattle.mbqi_terms.specs.InForm.{IsPlaced}
use Rattle.smtlib_terms.specs.InForm.{HasSort, IsArray, IsFormula}
use Rattle.read_in_form.proofs.Placed.{AreMeanings, IsArrayOf, IsMeaning, IsTermOf}
use Rattle.read_in_form.proofs.Connectives.{AreQuantifierFree, IsQuantifierFree, closed_by_test, enough, joined_placed, quantifier_free_placed}
use Rattle.read_in_form.proofs.SameSorts.{one_plain, same_sort}
use Rattle.read_in_form.proofs.Steps.{not_refused, passed, same_ok, stepped}
use Rattle.read_in_form.proofs.Sums.{AreIntegers, integers_of}
use Rattle.mbqi_terms.specs.Binders.{variables_in}
use Rattle.mbqi_terms.specs.Sort.{plain_sort, is_sort}

-- meanings that bind no variable, all of one sort
pub record IsQuantifierFreeMeaning (script : Script) (scope : List Binder) (next : ℕ) (s : Sort) (m : Meaning) : Type 0 where
  pub is : IsMeaning script scope next m
  pub closed : variables_of m ≡ 0
  pub sort : s ≡ sort_of m

abbrev AreQuantifierFreeMeanings : Script → List Binder → ℕ → Sort → List Meaning → Type 0
AreQuantifierFreeMeanings script scope next s [] = Unit {0}
AreQuantifierFreeMeanings script scope next s (m ∷ ms) = IsQuantifierFreeMeaning script scope next s m × AreQuantifierFreeMeanings script scope next s ms

closed_meaning : (m : Meaning) → is_quantified_meaning m ≡ false → variables_of m ≡ 0
closed_meaning (meaning.Formula f) is = closed_by_test f is
closed_meaning (meaning.Term s t) is = refl
closed_meaning (meaning.Array i e a) is = refl

quantifier_free_meanings : (script : Script) (scope : List Binder) (next : ℕ) (s : Sort) (ms : List Meaning) → AreMeanings script scope next ms → have_sort s ms ≡ true → list_any is_quantified_meaning ms ≡ false → AreQuantifierFreeMeanings script scope next s ms
quantifier_free_meanings script scope next s [] are sorts none = tt
quantifier_free_meanings script scope next s (m ∷ ms) are sorts none =
    let sort = and_parts (is_sort s (sort_of m)) (have_sort s ms) sorts in
    let closed = or_parts (is_quantified_meaning m) (list_any is_quantified_meaning ms) none in
    let own = closed_meaning m closed.0 in
    let here : next + variables_of m ≡ next = omega arith in (
      record { is = are.0; closed = own; sort = same_sort s (sort_of m) sort.0 },
      quantifier_free_meanings script scope next s ms (subst (λ (at : ℕ). AreMeanings script scope at ms) here are.1) sort.1 closed.1,
    )

-- two of them
no_truth : (script : Script) (p : Plain) → IsIndexSort (length script.sorts) p → sort.Truth ≡ plain_sort p → ⊥
no_truth script plain.Truth index same = index
no_truth script plain.Int index same = cc
no_truth script (plain.Elem s) index same = cc

no_array : (p : Plain) (i e : Plain) → sort.Array i e ≡ plain_sort p → ⊥
no_array plain.Truth i e same = cc
no_array plain.Int i e same = cc
no_array (plain.Elem s) i e same = cc

terms_equal : (script : Script) (scope : List Binder) (next : ℕ) (s r : Sort) (t u : Term) → s ≡ r → IsTermOf script scope s t → IsTermOf script scope r u → IsQuantifierFree script scope next (formula.Equal t u)
terms_equal script scope next s r t u same one two =
    let plainly : two.is ≡ one.is = one_plain two.is one.is (sym two.sort ∙ (sym same ∙ one.sort)) in
    record { placed = IsPlaced.equal scope next t u one.is one.index one.term (subst (HasSort script scope u) plainly two.term); closed = formula_measure.variables-Equal t u }

arrays_same : (script : Script) (scope : List Binder) (next : ℕ) (i e j f : Plain) (a b : ArrayTerm) → i ≡ j → e ≡ f → IsArrayOf script scope i e a → IsArrayOf script scope j f b → IsQuantifierFree script scope next (formula.SameArray a b)
arrays_same script scope next i e j f a b first second one two =
    record {
      placed = IsPlaced.same scope next a b i e one.array (subst (λ (p : Plain). IsArray script scope b p e) (sym first) (subst (λ (p : Plain). IsArray script scope b j p) (sym second) two.array));
      closed = formula_measure.variables-SameArray a b;
    }

equal_quantifier_free : (script : Script) (scope : List Binder) (next : ℕ) (s : Sort) (m n : Meaning) → IsQuantifierFreeMeaning script scope next s m → IsQuantifierFreeMeaning script scope next s n → IsQuantifierFree script scope next (equality m n)
equal_quantifier_free script scope next s (meaning.Formula f) (meaning.Formula g) one two =
    record {
      placed = IsPlaced.equivalence scope next f g one.is two.is one.closed two.closed;
      closed = let both = formula_measure.variables-Iff f g in let first : variables_in f ≡ 0 = one.closed in let second : variables_in g ≡ 0 = two.closed in omega arith;
    }
equal_quantifier_free script scope next s (meaning.Formula f) (meaning.Term r u) one two = absurd (no_truth script two.is.is two.is.index (sym one.sort ∙ (two.sort ∙ two.is.sort)))
equal_quantifier_free script scope next s (meaning.Formula f) (meaning.Array j e b) one two = absurd (let first : s ≡ sort.Truth = one.sort in let second : s ≡ sort.Array j e = two.sort in cc)
equal_quantifier_free script scope next s (meaning.Term r t) (meaning.Formula g) one two = absurd (no_truth script one.is.is one.is.index (sym two.sort ∙ (one.sort ∙ one.is.sort)))
equal_quantifier_free script scope next s (meaning.Term r t) (meaning.Term q u) one two = terms_equal script scope next r q t u (sym one.sort ∙ two.sort) one.is two.is
equal_quantifier_free script scope next s (meaning.Term r t) (meaning.Array j e b) one two = absurd (no_array one.is.is j e (sym two.sort ∙ (one.sort ∙ one.is.sort)))
equal_quantifier_free script scope next s (meaning.Array i d a) (meaning.Formula g) one two = absurd (let first : s ≡ sort.Array i d = one.sort in let second : s ≡ sort.Truth = two.sort in cc)
equal_quantifier_free script scope next s (meaning.Array i d a) (meaning.Term q u) one two = absurd (no_array two.is.is i d (sym one.sort ∙ (two.sort ∙ two.is.sort)))
equal_quantifier_free script scope next s (meaning.Array i d a) (meaning.Array j e b) one two =
    let same : sort.Array i d ≡ sort.Array j e = sym one.sort ∙ two.sort in
    let first : i ≡ j = cc in
    let second : d ≡ e = cc in
    arrays_same script scope next i d j e a b first second one.is two.is

unlike_quantifier_free : (script : Script) (scope : List Binder) (next : ℕ) (s : Sort) (m n : Meaning) → IsQuantifierFreeMeaning script scope next s m → IsQuantifierFreeMeaning script scope next s n → IsQuantifierFree script scope next (inequality m n)
unlike_quantifier_free script scope next s m n one two =
    let equal = equal_quantifier_free script scope next s m n one two in
    record { placed = IsPlaced.negation scope next (equality m n) equal.placed; closed = formula_measure.variables-Not (equality m n) ∙ equal.closed }

-- each with the next, and each with each later one
chained_quantifier_free : (script : Script) (scope : List Binder) (next : ℕ) (s : Sort) (m : Meaning) (ms : List Meaning) → IsQuantifierFreeMeaning script scope next s m → AreQuantifierFreeMeanings script scope next s ms → AreQuantifierFree script scope next (chained equality m ms)
chained_quantifier_free script scope next s m [] one rest = tt
chained_quantifier_free script scope next s m (n ∷ ms) one rest = (equal_quantifier_free script scope next s m n one rest.0, chained_quantifier_free script scope next s n ms rest.0 rest.1)

quantifier_free_append : (script : Script) (scope : List Binder) (next : ℕ) (fs gs : List Formula) → AreQuantifierFree script scope next fs → AreQuantifierFree script scope next gs → AreQuantifierFree script scope next (fs ++ gs)
quantifier_free_append script scope next [] gs first second = second
quantifier_free_append script scope next (f ∷ fs) gs first second = (first.0, quantifier_free_append script scope next fs gs first.1 second)

each_unlike : (script : Script) (scope : List Binder) (next : ℕ) (s : Sort) (m : Meaning) (ms : List Meaning) → IsQuantifierFreeMeaning script scope next s m → AreQuantifierFreeMeanings script scope next s ms → AreQuantifierFree script scope next (map (inequality m) ms)
each_unlike script scope next s m [] one rest = tt
each_unlike script scope next s m (n ∷ ms) one rest = (unlike_quantifier_free script scope next s m n one rest.0, each_unlike script scope next s m ms one rest.1)

pairs_quantifier_free : (script : Script) (scope : List Binder) (next : ℕ) (s : Sort) (ms : List Meaning) → AreQuantifierFreeMeanings script scope next s ms → AreQuantifierFree script scope next (pairs inequality ms)
pairs_quantifier_free script scope next s [] are = tt
pairs_quantifier_free script scope next s (m ∷ ms) are =
    quantifier_free_append script scope next (map (inequality m) ms) (pairs inequality ms) (each_unlike script scope next s m ms are.0 are.1) (pairs_quantifier_free script scope next s ms are.1)

-- some atoms, joined
all_quantifier_free : (script : Script) (scope : List Binder) (next : ℕ) (fs : List Formula) → 1 ≤ length fs → AreQuantifierFree script scope next fs → IsFormula script scope next (all_of fs)
all_quantifier_free script scope next fs some free =
    joined_placed script scope next formula.All (λ f g rest placed. IsPlaced.conjunction scope next f g rest placed) fs some (quantifier_free_placed script scope next fs free)

compared_placed : (script : Script) (scope : List Binder) (next : ℕ) (relation : List Meaning → List Formula) → ((s : Sort) (m n : Meaning) (ms : List Meaning) → AreQuantifierFreeMeanings script scope next s (m ∷ n ∷ ms) → AreQuantifierFree script scope next (relation (m ∷ n ∷ ms))) → ((m n : Meaning) (ms : List Meaning) → 1 ≤ length (relation (m ∷ n ∷ ms))) →
    (args : List Meaning) (f : Formula) → AreMeanings script scope next args → at_least 2 args (compared_by relation args) ≡ Ok f → IsFormula script scope next f
compared_placed script scope next relation free some [] f are is = cc
compared_placed script scope next relation free some (m ∷ []) f are is = cc
compared_placed script scope next relation free some (m ∷ n ∷ ms) f are is =
    let args = m ∷ n ∷ ms in
    let read = passed (leb 2 (length args)) (compared_by relation args) WrongCount f is in
    let sorted = passed (have_sort (sort_of m) (n ∷ ms)) (compared args (all_of (relation args))) WrongSort f read.1 in
    let none = not_refused (list_any is_quantified_meaning args) (Ok (all_of (relation args))) _ f sorted.1 in
    let closed = or_parts (is_quantified_meaning m) (list_any is_quantified_meaning (n ∷ ms)) none.0 in
    let own = closed_meaning m closed.0 in
    let here : next + variables_of m ≡ next = omega arith in
    let first : IsQuantifierFreeMeaning script scope next (sort_of m) m = record { is = are.0; closed = own; sort = refl } in
    let rest = quantifier_free_meanings script scope next (sort_of m) (n ∷ ms) (subst (λ (at : ℕ). AreMeanings script scope at (n ∷ ms)) here are.1) sorted.0 closed.1 in
    let same : all_of (relation args) ≡ f = let made = none.1 in cc in
    subst (IsFormula script scope next) same (all_quantifier_free script scope next (relation args) (some m n ms) (free (sort_of m) m n ms (first, rest)))

pub equality_placed : (script : Script) (scope : List Binder) (next : ℕ) (args : List Meaning) (f : Formula) → AreMeanings script scope next args → at_least 2 args (compared_by (chain equality) args) ≡ Ok f → IsFormula script scope next f
equality_placed script scope next args f are is =
    compared_placed script scope next (chain equality) (λ s m n ms all. chained_quantifier_free script scope next s m (n ∷ ms) all.0 all.1) (λ m n ms. omega arith) args f are is

pub difference_placed : (script : Script) (scope : List Binder) (next : ℕ) (args : List Meaning) (f : Formula) → AreMeanings script scope next args → at_least 2 args (compared_by (pairs inequality) args) ≡ Ok f → IsFormula script scope next f
difference_placed script scope next args f are is =
    compared_placed script scope next (pairs inequality) (λ s m n ms all. pairs_quantifier_free script scope next s (m ∷ n ∷ ms) all) (λ m n ms. omega arith) args f are is

-- integers, as many as the meanings
integers_count : (ms : List Meaning) (ts : List Term) → as_integers ms ≡ Ok ts → length ms ≡ length ts
integers_count [] [] is = refl
integers_count [] (t ∷ ts) is = cc
integers_count (m ∷ ms) ts is =
    let first = stepped (as_integer m) (λ (t : Term). as_integers ms >>= (λ (us : List Term). Ok (t ∷ us))) ts is in
    let rest = stepped (as_integers ms) (λ (us : List Term). Ok (first.value ∷ us)) ts first.rest in
    ap suc (integers_count ms rest.value rest.first) ∙ ap (λ (us : List Term). length us) (same_ok (first.value ∷ rest.value) ts rest.rest)

-- `<=`, `<`, `>=` and `>`
pub record IsOrder (script : Script) (scope : List Binder) (relation : Term → Term → Formula) : Type 0 where
  pub placed : (s t : Term) (at : ℕ) → HasSort script scope s plain.Int → HasSort script scope t plain.Int → IsFormula script scope at (relation s t)
  pub closed : (s t : Term) → variables_in (relation s t) ≡ 0

ordered_quantifier_free : (script : Script) (scope : List Binder) (next : ℕ) (relation : Term → Term → Formula) → IsOrder script scope relation → (t : Term) (ts : List Term) → HasSort script scope t plain.Int → AreIntegers script scope ts → AreQuantifierFree script scope next (chained relation t ts)
ordered_quantifier_free script scope next relation order t [] one rest = tt
ordered_quantifier_free script scope next relation order t (u ∷ ts) one rest =
    (record { placed = order.placed t u next one rest.0; closed = order.closed t u }, ordered_quantifier_free script scope next relation order u ts rest.0 rest.1)

terms_ordered : (script : Script) (scope : List Binder) (next : ℕ) (relation : Term → Term → Formula) → IsOrder script scope relation → (ts : List Term) → 2 ≤ length ts → AreIntegers script scope ts → IsFormula script scope next (all_of (chain relation ts))
terms_ordered script scope next relation order [] some are = absurd (omega arith)
terms_ordered script scope next relation order (t ∷ []) some are = absurd (omega arith)
terms_ordered script scope next relation order (t ∷ u ∷ ts) some are =
    all_quantifier_free script scope next (chain relation (t ∷ u ∷ ts)) (omega arith) (ordered_quantifier_free script scope next relation order t (u ∷ ts) are.0 are.1)

pub ordered_placed : (script : Script) (scope : List Binder) (next : ℕ) (relation : Term → Term → Formula) → IsOrder script scope relation → (args : List Meaning) (f : Formula) → AreMeanings script scope next args → at_least 2 args (ordered_by relation args) ≡ Ok f → IsFormula script scope next f
ordered_placed script scope next relation order args f are is =
    let some = enough 2 args (ordered_by relation args) f is in
    let read = stepped (as_integers args) (λ (ts : List Term). Ok (all_of (chain relation ts))) f (passed (leb 2 (length args)) (ordered_by relation args) WrongCount f is).1 in
    let integers = integers_of script scope next args read.value are read.first in
    let count = integers_count args read.value read.first in
    let same : all_of (chain relation read.value) ≡ f = let made = read.rest in cc in
    subst (IsFormula script scope next) same (terms_ordered script scope next relation order read.value (omega arith) integers)

pub at_most_order : (script : Script) (scope : List Binder) → IsOrder script scope at_most
at_most_order script scope = record { placed = λ s t at one two. IsPlaced.at_most scope at s t one two; closed = λ s t. formula_measure.variables-AtMost s t }

pub below_order : (script : Script) (scope : List Binder) → IsOrder script scope below
below_order script scope = record {
  placed = λ s t at one two. IsPlaced.negation scope at (formula.AtMost t s) (IsPlaced.at_most scope at t s two one);
  closed = λ s t. formula_measure.variables-Not (formula.AtMost t s) ∙ formula_measure.variables-AtMost t s;
}

pub turned : (script : Script) (scope : List Binder) (relation : Term → Term → Formula) → IsOrder script scope relation → IsOrder script scope (λ (s t : Term). relation t s)
turned script scope relation order = record { placed = λ s t at one two. order.placed t s at two one; closed = λ s t. order.closed t s }
