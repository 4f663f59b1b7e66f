-- Terms in form, from what stands in them.
use Rattle.std.proofs.Common.{◌≡◌, ℕ, zero, suc, ℤ, [], ◌∷◌, sym, subst, arith}
use Rattle.std.specs.List.{Contains}
use Rattle.std.specs.Option.{IfSome}
use Rattle.mbqi_terms.specs.declared.sort.Sort.{Sort}
use Rattle.mbqi_terms.specs.declared.store.lists.Lists.{Lists}
use Rattle.mbqi_terms.specs.declared.term.ArrayTerm.{ArrayTerm}
use Rattle.mbqi_terms.specs.declared.term.ArrayTerm.TheOpen.{Symbol-F, Term-F}
use Rattle.mbqi_terms.specs.declared.term.Symbol.{Symbol, out-Symbol}
use Rattle.mbqi_terms.specs.declared.term.Term.{Term, out-Term}
use Rattle.mbqi_terms.specs.declared.term.Term.TheVariants as term
use Rattle.mbqi_terms.specs.Form.{Suits, FitPlaces, IsPairListed, IsLayerInForm, IsTermInForm}
use Rattle.mbqi_terms.specs.Lists.{symbol_layer_places, sum_sort}
use Rattle.mbqi_terms.specs.Tree.{Layer, IsPart}
use Rattle.mbqi_terms.proofs.Levels.{out-num, out-plus, out-var, out-apply, out-read, out-default}

module _ (l : Lists) where
  -- what stands directly in a level is in form
  abbrev AreChildrenInForm : Layer → Type 0
  AreChildrenInForm (Term-F.Plus u n) = IsTermInForm l u
  AreChildrenInForm (Term-F.Apply f us) = (u : Term) → Contains us u → IsTermInForm l u
  AreChildrenInForm (Term-F.Read a u) = IsTermInForm l u
  AreChildrenInForm layer = Unit {0}

  pub by_level : (t : Term) (x : Layer) → out-Term t ≡ x → IsLayerInForm l x → AreChildrenInForm x → IsTermInForm l t
  by_level t x e level children part (IsPart.itself u) = subst (IsLayerInForm l) (sym e) level
  by_level t x e level children part (IsPart.of_sum p u v n s inside) =
      let own : AreChildrenInForm (out-Term t) = subst AreChildrenInForm (sym e) children in
      let base : AreChildrenInForm (Term-F.Plus v n) = subst AreChildrenInForm s own in
      base part inside
  by_level t x e level children part (IsPart.of_argument p u v f us s among inside) =
      let own : AreChildrenInForm (out-Term t) = subst AreChildrenInForm (sym e) children in
      let arguments : AreChildrenInForm (Term-F.Apply f us) = subst AreChildrenInForm s own in
      arguments v among part inside
  by_level t x e level children part (IsPart.of_index p u v a s inside) =
      let own : AreChildrenInForm (out-Term t) = subst AreChildrenInForm (sym e) children in
      let index : AreChildrenInForm (Term-F.Read a v) = subst AreChildrenInForm s own in
      index part inside

  pub numeral_in_form : (n : ℤ) → IsTermInForm l (term.Num n)
  numeral_in_form n = by_level (term.Num n) (Term-F.Num n) (out-num n) tt tt

  pub variable_in_form : (k : ℕ) → IsTermInForm l (term.Var k)
  variable_in_form k = by_level (term.Var k) (Term-F.Var k) (out-var k) tt tt

  pub sum_in_form : (t : Term) (n : ℤ) → IsLayerInForm l (Term-F.Plus t n) → IsTermInForm l t → IsTermInForm l (term.Plus t n)
  sum_in_form t n level base = by_level (term.Plus t n) (Term-F.Plus t n) (out-plus t n) level base

  no_arguments : (u : Term) → Contains [] u → IsTermInForm l u
  no_arguments u c = absurd (omega (arith, c.1))

  pub constant_in_form : (f : Symbol) (x : Symbol-F ArrayTerm Symbol Term) → out-Symbol f ≡ x → FitPlaces l (symbol_layer_places l x) []
      → IsPairListed l x → IsTermInForm l (term.Apply f [])
  constant_in_form f x e fit listed =
      by_level (term.Apply f []) (Term-F.Apply f []) (out-apply f [])
      (subst (λ y. FitPlaces l (symbol_layer_places l y) [] × IsPairListed l y) (sym e) (fit, listed)) no_arguments

  one_argument : (t u : Term) → IsTermInForm l t → Contains (t ∷ []) u → IsTermInForm l u
  one_argument t u form (zero, within, e) = subst (IsTermInForm l) e form
  one_argument t u form (suc k, within, e) = absurd (omega (arith, within))

  pub call_in_form : (f : Symbol) (x : Symbol-F ArrayTerm Symbol Term) (t : Term) → out-Symbol f ≡ x
      → FitPlaces l (symbol_layer_places l x) (t ∷ []) → IsPairListed l x → IsTermInForm l t → IsTermInForm l (term.Apply f (t ∷ []))
  call_in_form f x t e fit listed form =
      by_level (term.Apply f (t ∷ [])) (Term-F.Apply f (t ∷ [])) (out-apply f (t ∷ []))
      (subst (λ y. FitPlaces l (symbol_layer_places l y) (t ∷ []) × IsPairListed l y) (sym e) (fit, listed))
      (λ u among. one_argument t u form among)

  pub read_in_form : (a : ArrayTerm) (t : Term) → IsLayerInForm l (Term-F.Read a t) → IsTermInForm l t → IsTermInForm l (term.Read a t)
  read_in_form a t level index = by_level (term.Read a t) (Term-F.Read a t) (out-read a t) level index

  pub default_in_form : (a : ArrayTerm) → IsLayerInForm l (Term-F.Default a) → IsTermInForm l (term.Default a)
  default_in_form a level = by_level (term.Default a) (Term-F.Default a) (out-default a) level tt

  -- the sort of a term by its level
  pub suits_by : (sort : Sort) (t : Term) (x : Layer) → out-Term t ≡ x → IfSome (sum_sort l x) (λ own. own ≡ sort) → Suits l sort t
  suits_by sort t x e own = subst (λ y. IfSome (sum_sort l y) (λ own. own ≡ sort)) (sym e) own
