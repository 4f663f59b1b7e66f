-- The sample terms of the tests are in form over the sample lists.
use Rattle.std.proofs.Common.{◌≡◌, ◌<◌, ℕ, ℤ, pos, negsuc, [], ◌∷◌, length, Some, Result, Ok, Err, IfOk, refl, sym, ap, subst, ◌∙◌, rules, arith}
use Rattle.std.specs.Option.{IfSome, IsSome, option_map, option_and_then}
use Rattle.std.proofs.lemmas.Int.{ints}
use Rattle.std.proofs.lemmas.Option.{slice_get_within}
use Rattle.mbqi_values.specs.Sum.{IsBelow}
use Rattle.mbqi_terms.specs.declared.sort.Plain.TheVariants as plain
use Rattle.mbqi_terms.specs.declared.sort.Sort.TheVariants.{Int, Array}
use Rattle.mbqi_terms.specs.declared.term.ArrayTerm as arrays
use Rattle.mbqi_terms.specs.declared.term.ArrayTerm.TheVariants.{Name}
use Rattle.mbqi_terms.specs.declared.term.ArrayTerm.TheOpen.{Symbol-F, Term-F}
use Rattle.mbqi_terms.specs.declared.term.Symbol.{out-Symbol}
use Rattle.mbqi_terms.specs.declared.term.Symbol.TheVariants as symbol
use Rattle.mbqi_terms.specs.declared.term.Term.{Term, out-Term}
use Rattle.mbqi_terms.specs.declared.term.Term.TheVariants as term
use Rattle.mbqi_terms.specs.Form.{Suits, FitPlaces, IsTermInForm}
use Rattle.mbqi_terms.specs.Lists.{array_sort, index_sort, element_sort, layer_sort, symbol_layer_sort}
use Rattle.mbqi_terms.specs.Samples.{sample_lists}
use Rattle.mbqi_terms.specs.Sort.{index_of, element_of}
use Rattle.mbqi_terms.specs.Store.{Store, HasTree, trees_of}
use Rattle.mbqi_terms.specs.Tree.{IsBase, number_of, number_at}
use Rattle.mbqi_terms.specs.declared.term_id.TermId.{TermId}
use Rattle.mbqi_terms.proofs.InForm.{numeral_in_form, variable_in_form, sum_in_form, constant_in_form, call_in_form, read_in_form, default_in_form, suits_by}
use Rattle.mbqi_terms.proofs.Trees.{length-trees}
use Rattle.mbqi_terms.proofs.Levels.{out-num, out-plus, out-var, out-apply, out-declared, out-skolem, out-diff}

abbrev skolem : Term
skolem = term.Apply (symbol.Skolem 4 1) []

pub skolem_form : IsTermInForm sample_lists (term.Apply (symbol.Skolem 4 1) [])
skolem_form = constant_in_form sample_lists (symbol.Skolem 4 1) (Symbol-F.Skolem 4 1) (out-skolem 4 1) tt tt

pub call_form : (n : ℤ) → IsTermInForm sample_lists (term.Apply (symbol.Declared 0) (term.Num n ∷ []))
call_form n =
    call_in_form sample_lists (symbol.Declared 0) (Symbol-F.Declared 0) (term.Num n) (out-declared 0)
    (suits_by sample_lists Int (term.Num n) (Term-F.Num n) (out-num n) refl, tt) tt (numeral_in_form sample_lists n)

sample_sort : array_sort sample_lists.functions (Name 1) ≡ Some (Array plain.Int plain.Int)
sample_sort = search (rules, arrays.the_lemmas)

sample_index : index_sort sample_lists (Name 1) ≡ Some Int
sample_index = ap (option_and_then index_of) sample_sort

sample_element : element_sort sample_lists (Name 1) ≡ Some Int
sample_element = ap (option_and_then element_of) sample_sort

pub difference_form : IsTermInForm sample_lists (term.Apply (symbol.Diff (Name 1) (Name 2)) [])
difference_form =
    constant_in_form sample_lists (symbol.Diff (Name 1) (Name 2)) (Symbol-F.Diff (Name 1) (Name 2)) (out-diff (Name 1) (Name 2))
    (subst (λ o. FitPlaces sample_lists (option_map (λ sort. []) o) []) (sym sample_index) tt) (0, omega arith, refl)

pub default_form : IsTermInForm sample_lists (term.Default (Name 1))
default_form =
    default_in_form sample_lists (Name 1) ((0, omega arith, refl), subst (λ o. IsSome o) (sym sample_element) refl)

-- a read of the sample array at an integer
read_at : (t : Term) → FitPlaces sample_lists (Some (Int ∷ [])) (t ∷ []) → IsTermInForm sample_lists t → IsTermInForm sample_lists (term.Read (Name 1) t)
read_at t fit form =
    read_in_form sample_lists (Name 1) t
    ((0, omega arith, refl), subst (λ o. FitPlaces sample_lists (option_map (λ sort. sort ∷ []) o) (t ∷ [])) (sym sample_index) fit) form

pub read_form : (n : ℤ) → IsTermInForm sample_lists (term.Read (Name 1) (term.Num n))
read_form n = read_at (term.Num n) (suits_by sample_lists Int (term.Num n) (Term-F.Num n) (out-num n) refl, tt) (numeral_in_form sample_lists n)

pub variable_sum_form : (k : ℕ) → IsTermInForm sample_lists (term.Plus (term.Var k) (pos 1))
variable_sum_form k =
    sum_in_form sample_lists (term.Var k) (pos 1)
    (subst IsBase (sym (out-var k)) tt, (λ e. cc), suits_by sample_lists Int (term.Var k) (Term-F.Var k) (out-var k) tt)
    (variable_in_form sample_lists k)

skolem_base : IsBase (out-Term skolem)
skolem_base = subst IsBase (sym (out-apply (symbol.Skolem 4 1) [])) tt

abbrev skolem_sum : Term
skolem_sum = term.Plus skolem (negsuc 1)

skolem_sorted : symbol_layer_sort sample_lists (out-Symbol (symbol.Skolem 4 1)) ≡ Some Int
skolem_sorted = ap (symbol_layer_sort sample_lists) (out-skolem 4 1)

skolem_suits : Suits sample_lists Int skolem
skolem_suits =
    suits_by sample_lists Int skolem (Term-F.Apply (symbol.Skolem 4 1) []) (out-apply (symbol.Skolem 4 1) [])
    (subst (λ o. IfSome o (λ own. own ≡ Int)) (sym skolem_sorted) refl)

pub skolem_sum_form : IsTermInForm sample_lists (term.Plus (term.Apply (symbol.Skolem 4 1) []) (negsuc 1))
skolem_sum_form = sum_in_form sample_lists skolem (negsuc 1) (skolem_base, (λ e. cc), skolem_suits) skolem_form

sum_sorted : layer_sort sample_lists (out-Term skolem) ≡ Some Int
sum_sorted = ap (layer_sort sample_lists) (out-apply (symbol.Skolem 4 1) []) ∙ skolem_sorted

pub read_sum_form : IsTermInForm sample_lists (term.Read (Name 1) (term.Plus (term.Apply (symbol.Skolem 4 1) []) (negsuc 1)))
read_sum_form =
    read_at skolem_sum (
      suits_by sample_lists Int skolem_sum (Term-F.Plus skolem (negsuc 1)) (out-plus skolem (negsuc 1))
          (subst (λ o. IfSome o (λ own. own ≡ Int)) (sym sum_sorted) refl),
      tt,
    ) skolem_sum_form

-- the term of a result
pub in_result : {E : Type 0} (r : Result Term E) (t : Term) → IsTermInForm sample_lists t → IfOk r (λ u. u ≡ t) → IfOk r (IsTermInForm sample_lists)
in_result (Ok u) t form e = subst (IsTermInForm sample_lists) (sym e) form
in_result (Err x) t form e = tt

-- a term of a store has its number there
pub stored : (s : Store) (id : TermId) (t : Term) → HasTree s id t → id.0 < length s.nodes
stored s id t e = omega (arith, slice_get_within (trees_of s.lists s.nodes) id.0 t e, length-trees s.lists s.nodes)

only_tree : (s : Store) (id : TermId) (t u : Term) → HasTree s id t → HasTree s id u → t ≡ u
only_tree s id t u e f = cc

-- the numeral 4 of a store may be shifted
pub numeral_suits : (s : Store) (id : TermId) (t : Term) → HasTree s id (term.Num (pos 4)) → HasTree s id t → Suits s.lists Int t
numeral_suits s id t e f =
    suits_by s.lists Int t (Term-F.Num (pos 4)) (ap out-Term (only_tree s id t (term.Num (pos 4)) f e) ∙ out-num (pos 4)) refl

pub numeral_below : (s : Store) (id : TermId) (t : Term) → HasTree s id (term.Num (pos 4)) → HasTree s id t → IsBelow (number_of t) 124
numeral_below s id t e f =
    let number : number_of t ≡ pos 4 = ap number_at (ap out-Term (only_tree s id t (term.Num (pos 4)) f e) ∙ out-num (pos 4)) in
    subst (λ n. IsBelow n 124) (sym number) (omega (arith, ints), omega (arith, ints))
