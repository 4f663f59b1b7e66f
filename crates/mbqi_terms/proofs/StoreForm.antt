-- A term that has a sort by lists, and whose arrays are listed, is one that a store over these lists takes.
use Rattle.std.proofs.Common.{◌≡◌, ◌≢◌, ℕ, zero, suc, ℤ, pos, List, [], ◌∷◌, map, Option, Some, refl, sym, ap, subst, ◌∙◌, arith, rules}
use Rattle.std.specs.List.{AllZip, Contains}
use Rattle.std.specs.Option.{IfSome, IsSome, option_and_then, option_map}
use Rattle.mbqi_terms.specs.declared.sort.Binder.{Binder}
use Rattle.mbqi_terms.specs.declared.sort.Plain.{Plain}
use Rattle.mbqi_terms.specs.declared.sort.Plain.TheVariants as plain
use Rattle.mbqi_terms.specs.declared.sort.Sort.{Sort}
use Rattle.mbqi_terms.specs.declared.sort.Sort.TheVariants as sort
use Rattle.mbqi_terms.specs.declared.store.lists.Lists.{Lists}
use Rattle.mbqi_terms.specs.declared.term.ArrayTerm as arrays
use Rattle.mbqi_terms.specs.declared.term.ArrayTerm.{ArrayTerm}
use Rattle.mbqi_terms.specs.declared.term.ArrayTerm.TheFolds.{fold-roll-ArrayTerm}
use Rattle.mbqi_terms.specs.declared.term.ArrayTerm.TheOpen.{ArrayTerm-F, Symbol-F, Term-F}
use Rattle.mbqi_terms.specs.declared.term.ArrayTerm.TheVariants as array
use Rattle.mbqi_terms.specs.declared.term.MapOp.{MapOp}
use Rattle.mbqi_terms.specs.declared.term.Symbol.{Symbol, out-Symbol}
use Rattle.mbqi_terms.specs.declared.term.Symbol.TheVariants as symbol
use Rattle.mbqi_terms.specs.declared.term.Term.{Term, out-Term}
use Rattle.mbqi_terms.specs.declared.term.Term.TheVariants as term
use Rattle.mbqi_terms.specs.Form.{FitPlaces, IsLayerListed, IsTermInForm, IsTermListed, Suits}
use Rattle.mbqi_terms.specs.HasSort.{HasSortIn, HaveSortsIn, IsArrayIn, AreArraysIn, IsDeclared, IsPointwise, IsSkolem, Setting}
use Rattle.mbqi_terms.specs.Lists.{array_layer_sort, array_sort, element_sort, index_sort, mapped, result_of, symbol_layer_places, symbol_layer_sort}
use Rattle.mbqi_terms.specs.Sort.{element_of, index_of, plain_of, plain_sort}
use Rattle.mbqi_terms.specs.Tree.{IsBase, IsPart}
use Rattle.mbqi_terms.proofs.InForm.{by_level, numeral_in_form, suits_by, sum_in_form, variable_in_form}
use Rattle.mbqi_terms.proofs.Sorted.{base_sort}
use Rattle.mbqi_terms.proofs.Levels.{out-apply, out-declared, out-default, out-diff, out-far, out-num, out-plus, out-read, out-seed, out-skolem, out-truth, out-var}

module _ (g : Setting) (scope : List Binder) where
  abbrev l : Lists
  l = g.lists

  -- a plain sort is one as a part of arrays
  plain_again : (s : Plain) → plain_of (plain_sort s) ≡ Some s
  plain_again plain.Truth = refl
  plain_again plain.Int = refl
  plain_again (plain.Elem s) = refl

  result_is : (f : ℕ) (args : List Sort) (result : Sort) → IsDeclared l f args result → result_of l.functions f ≡ Some result
  result_is f args result is = ap (option_map (λ function. function.result)) is.there ∙ ap Some is.gives

  -- the element sort of a map
  map_gives : (f : MapOp) (es : List Plain) (e : Plain) → IsPointwise l f es e → mapped l.functions f ≡ Some e
  map_gives f es e (IsPointwise.declared number args result is) =
      ap (option_and_then plain_of) (result_is number (map plain_sort args) (plain_sort result) is) ∙ plain_again result
  map_gives f es e (IsPointwise.conjunction n) = refl
  map_gives f es e (IsPointwise.disjunction n) = refl
  map_gives f es e IsPointwise.negation = refl

  -- the sort of an array term in form
  pub array_sort_is : (a : ArrayTerm) (i e : Plain) → IsArrayIn g scope a i e → array_sort l.functions a ≡ Some (sort.Array i e)
  array_sort_is a i e (IsArrayIn.name f j d is) = ap (array_sort l.functions) (sym (array.rolls-Name f)) ∙ fold-roll-ArrayTerm (Option Sort) (Unit {0}) (Unit {0}) (array_layer_sort l.functions) (λ _. tt) (λ _. tt) (ArrayTerm-F.Name f) ∙ result_is f [] (sort.Array i e) is
  array_sort_is a i e (IsArrayIn.store b t v j d changed index at value closed) = ap (array_sort l.functions) (sym (array.rolls-Store b t v)) ∙ fold-roll-ArrayTerm (Option Sort) (Unit {0}) (Unit {0}) (array_layer_sort l.functions) (λ _. tt) (λ _. tt) (ArrayTerm-F.Store b t v) ∙ array_sort_is b i e changed
  array_sort_is a i e (IsArrayIn.constant v j d index element value closed) = ap (array_sort l.functions) (sym (array.rolls-Const (sort.Array i e) v)) ∙ fold-roll-ArrayTerm (Option Sort) (Unit {0}) (Unit {0}) (array_layer_sort l.functions) (λ _. tt) (λ _. tt) (ArrayTerm-F.Const (sort.Array i e) v)
  array_sort_is a i e (IsArrayIn.pointwise f b parts j d es is (AreArraysIn.more_arrays c cs k c_e c_es first rest) closed) =
      ap (array_sort l.functions) (sym (array.rolls-Map f (b ∷ parts)))
      ∙ fold-roll-ArrayTerm (Option Sort) (Unit {0}) (Unit {0}) (array_layer_sort l.functions) (λ _. tt) (λ _. tt) (ArrayTerm-F.Map f (b ∷ parts))
      ∙ ap (λ o. array_layer_sort l.functions (ArrayTerm-F.Map f (o ∷ map (array_sort l.functions) parts))) (array_sort_is b i c_e first)
      ∙ ap (option_and_then (λ element. Some (sort.Array i element))) (map_gives f es e is)

  pub index_sort_is : (a : ArrayTerm) (i e : Plain) → IsArrayIn g scope a i e → index_sort l a ≡ Some (plain_sort i)
  index_sort_is a i e is = ap (option_and_then index_of) (array_sort_is a i e is)

  pub element_sort_is : (a : ArrayTerm) (i e : Plain) → IsArrayIn g scope a i e → element_sort l a ≡ Some (plain_sort e)
  element_sort_is a i e is = ap (option_and_then element_of) (array_sort_is a i e is)

  -- what a symbol's level gives for its arguments and its result
  args_are : (f : ℕ) (args : List Sort) (result : Sort) → IsDeclared l f args result → symbol_layer_places l (Symbol-F.Declared f) ≡ Some args
  args_are f args result is = ap (option_map (λ function. function.args)) is.there ∙ ap Some is.takes

  skolem_args : (assertion place : ℕ) (args : List Sort) (result : Sort) → IsSkolem l assertion place args result
      → symbol_layer_places l (Symbol-F.Skolem assertion place) ≡ Some args
  skolem_args assertion place args result is = ap (option_map (λ s. s.args)) is.there ∙ ap Some is.takes

  skolem_result : (assertion place : ℕ) (args : List Sort) (result : Sort) → IsSkolem l assertion place args result
      → symbol_layer_sort l (Symbol-F.Skolem assertion place) ≡ Some result
  skolem_result assertion place args result is = ap (option_map (λ s. s.result)) is.there ∙ ap Some is.gives

  -- an application has the sort that the lists give its symbol
  applied_sort : (f : Symbol) (x : Symbol-F ArrayTerm Symbol Term) (ts : List Term) (s : Sort) → out-Symbol f ≡ x
      → symbol_layer_sort l x ≡ Some s → Suits l s (term.Apply f ts)
  applied_sort f x ts s e gives =
      suits_by l s (term.Apply f ts) (Term-F.Apply f ts) (out-apply f ts)
      (subst (λ o. IfSome o (λ own. own ≡ s)) (sym (ap (symbol_layer_sort l) e ∙ gives)) refl)

  -- each term has the sort by the lists that it has in form, or none of its own
  pub suits : (t : Term) (s : Plain) → HasSortIn g scope t s → Suits l (plain_sort s) t
  suits t s (HasSortIn.number n within) = suits_by l sort.Int (term.Num n) (Term-F.Num n) (out-num n) refl
  suits t s (HasSortIn.sum u n inner base nonzero within) = sum_suits u n base (suits u plain.Int inner) where
    sum_suits : (u : Term) (n : ℤ) → IsBase (out-Term u) → Suits l sort.Int u → Suits l sort.Int (term.Plus u n)
    sum_suits u n base inner = suits_by l sort.Int (term.Plus u n) (Term-F.Plus u n) (out-plus u n) (subst (λ o. IfSome o (λ own. own ≡ sort.Int)) (base_sort l (out-Term u) base) inner)
  suits t s (HasSortIn.variable place p index at) = suits_by l (plain_sort s) (term.Var place) (Term-F.Var place) (out-var place) tt
  suits t s (HasSortIn.truth b) = suits_by l sort.Truth (term.Truth b) (Term-F.Truth b) (out-truth b) refl
  suits t s (HasSortIn.application f ts args p is arguments) =
      applied_sort (symbol.Declared f) (Symbol-F.Declared f) ts (plain_sort s) (out-declared f) (result_is f (map plain_sort args) (plain_sort s) is)
  suits t s (HasSortIn.skolem assertion place ts args p hidden is arguments) =
      applied_sort (symbol.Skolem assertion place) (Symbol-F.Skolem assertion place) ts (plain_sort s) (out-skolem assertion place)
      (skolem_result assertion place (map plain_sort args) (plain_sort s) is)
  suits t s (HasSortIn.seed k hidden within) = applied_sort (symbol.Seed k) (Symbol-F.Seed k) [] (sort.Elem k) (out-seed k) refl
  suits t s (HasSortIn.far hidden) = applied_sort symbol.Far Symbol-F.Far [] sort.Int out-far refl
  suits t s (HasSortIn.differing a b i e hidden index left right) =
      applied_sort (symbol.Diff a b) (Symbol-F.Diff a b) [] (plain_sort s) (out-diff a b) (index_sort_is a s e left)
  suits t s (HasSortIn.reading a u i e is index inner) =
      suits_by l (plain_sort s) (term.Read a u) (Term-F.Read a u) (out-read a u) (subst (λ o. IfSome o (λ own. own ≡ plain_sort s)) (sym (element_sort_is a i s is)) refl)
  suits t s (HasSortIn.last a e is closed) =
      suits_by l (plain_sort s) (term.Default a) (Term-F.Default a) (out-default a) (subst (λ o. IfSome o (λ own. own ≡ plain_sort s)) (sym (element_sort_is a plain.Int s is)) refl)

  all_suit : (ts : List Term) (ss : List Plain) → HaveSortsIn g scope ts ss → AllZip (Suits l) (map plain_sort ss) ts
  all_suit ts ss HaveSortsIn.no_terms = tt
  all_suit ts ss (HaveSortsIn.more_terms t us s rs index first rest) = (suits t s first, all_suit us rs rest)

  -- an application whose arguments are in form
  applied_taken : (f : Symbol) (x : Symbol-F ArrayTerm Symbol Term) (ts : List Term) (ss : List Plain) → out-Symbol f ≡ x
      → symbol_layer_places l x ≡ Some (map plain_sort ss) → HaveSortsIn g scope ts ss → IsTermListed l (term.Apply f ts)
      → ((u : Term) → Contains ts u → IsTermInForm l u) → IsTermInForm l (term.Apply f ts)
  applied_taken f x ts ss e places arguments listed each =
      by_level l (term.Apply f ts) (Term-F.Apply f ts) (out-apply f ts) (
        subst (λ o. FitPlaces l o ts) (sym (ap (symbol_layer_places l) e ∙ places)) (all_suit ts ss arguments),
        subst (IsLayerListed l) (out-apply f ts) (listed (term.Apply f ts) (IsPart.itself (term.Apply f ts))),
      )
      each

  no_argument : (u : Term) → Contains [] u → IsTermInForm l u
  no_argument u c = absurd (omega (arith, c.1))

  -- a level of a term with a sort whose arrays are listed is in form, and so is the whole
  mutual
    pub taken : (t : Term) (s : Plain) → HasSortIn g scope t s → IsTermListed l t → IsTermInForm l t
    taken t s (HasSortIn.number n within) listed = numeral_in_form l n
    taken t s (HasSortIn.sum u n inner base nonzero within) listed =
        sum_in_form l u n (base, nonzero, suits u plain.Int inner)
        (taken u plain.Int inner (λ part is. listed part (IsPart.of_sum part (term.Plus u n) u n (out-plus u n) is)))
    taken t s (HasSortIn.variable place p index at) listed = variable_in_form l place
    taken t s (HasSortIn.truth b) listed = by_level l (term.Truth b) (Term-F.Truth b) (out-truth b) tt tt
    taken t s (HasSortIn.application f ts args p is arguments) listed =
        applied_taken (symbol.Declared f) (Symbol-F.Declared f) ts args (out-declared f) (args_are f (map plain_sort args) (plain_sort s) is) arguments listed
        (λ u among. one_taken ts args arguments (λ part v inside is. listed part (IsPart.of_argument part (term.Apply (symbol.Declared f) ts) v (symbol.Declared f) ts (out-apply (symbol.Declared f) ts) inside is)) u among)
    taken t s (HasSortIn.skolem assertion place ts args p hidden is arguments) listed =
        applied_taken (symbol.Skolem assertion place) (Symbol-F.Skolem assertion place) ts args (out-skolem assertion place)
        (skolem_args assertion place (map plain_sort args) (plain_sort s) is) arguments listed
        (λ u among. one_taken ts args arguments (λ part v inside is. listed part (IsPart.of_argument part (term.Apply (symbol.Skolem assertion place) ts) v (symbol.Skolem assertion place) ts (out-apply (symbol.Skolem assertion place) ts) inside is)) u among)
    taken t s (HasSortIn.seed k hidden within) listed = applied_taken (symbol.Seed k) (Symbol-F.Seed k) [] [] (out-seed k) refl HaveSortsIn.no_terms listed no_argument
    taken t s (HasSortIn.far hidden) listed = applied_taken symbol.Far Symbol-F.Far [] [] out-far refl HaveSortsIn.no_terms listed no_argument
    taken t s (HasSortIn.differing a b i e hidden index left right) listed =
        applied_taken (symbol.Diff a b) (Symbol-F.Diff a b) [] [] (out-diff a b) (ap (option_map (λ _. [])) (index_sort_is a s e left)) HaveSortsIn.no_terms listed no_argument
    taken t s (HasSortIn.reading a u i e is index inner) listed =
        by_level l (term.Read a u) (Term-F.Read a u) (out-read a u) (
          subst (IsLayerListed l) (out-read a u) (listed (term.Read a u) (IsPart.itself (term.Read a u))),
          subst (λ o. FitPlaces l (option_map (λ sort. sort ∷ []) o) (u ∷ [])) (sym (index_sort_is a i s is)) (suits u i inner, tt),
        )
        (taken u i inner (λ part is. listed part (IsPart.of_index part (term.Read a u) u a (out-read a u) is)))
    taken t s (HasSortIn.last a e is closed) listed =
        by_level l (term.Default a) (Term-F.Default a) (out-default a) (
          subst (IsLayerListed l) (out-default a) (listed (term.Default a) (IsPart.itself (term.Default a))),
          subst (λ o. IsSome o) (sym (element_sort_is a plain.Int s is)) refl,
        ) tt

    one_taken : (ts : List Term) (ss : List Plain) → HaveSortsIn g scope ts ss
        → ((part v : Term) → Contains ts v → IsPart part v → IsLayerListed l (out-Term part)) → (u : Term) → Contains ts u → IsTermInForm l u
    one_taken ts ss HaveSortsIn.no_terms listed u (k, within, e) = absurd (omega (arith, within))
    one_taken ts ss (HaveSortsIn.more_terms t us s rs index first rest) listed u (zero, within, e) =
        subst (IsTermInForm l) e (taken t s first (λ part is. listed part t (0, omega arith, refl) is))
    one_taken ts ss (HaveSortsIn.more_terms t us s rs index first rest) listed u (suc k, within, e) =
        one_taken us rs rest (λ part v inside is. listed part v (suc inside.0, omega (arith, inside.1), inside.2) is) u (k, omega (arith, within), e)
