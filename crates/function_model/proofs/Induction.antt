-- Induction over terms, array terms and symbols together.
use Rattle.std.proofs.Common.{ℕ, ℤ, Bool, List, [], ◌∷◌, map, sym, subst}
use Rattle.std.specs.List.{AllByRecursion}
use Rattle.mbqi_terms.specs.declared.sort.Sort.{Sort}
use Rattle.mbqi_terms.specs.declared.term.ArrayTerm.{ArrayTerm}
use Rattle.mbqi_terms.specs.declared.term.ArrayTerm.TheFolds.{ind-ArrayTerm, ind-Term, map-ArrayTerm, map-Symbol, map-Term}
use Rattle.mbqi_terms.specs.declared.term.ArrayTerm.TheOpen.{ArrayTerm-F, Symbol-F, Term-F}
use Rattle.mbqi_terms.specs.declared.term.ArrayTerm.TheVariants as array
use Rattle.mbqi_terms.specs.declared.term.ArrayTerm.TheViews.{roll-ArrayTerm, roll-Symbol, roll-Term}
use Rattle.mbqi_terms.specs.declared.term.MapOp.{MapOp}
use Rattle.mbqi_terms.specs.declared.term.Symbol.{Symbol}
use Rattle.mbqi_terms.specs.declared.term.Symbol.TheVariants as symbol
use Rattle.mbqi_terms.specs.declared.term.Term.{Term}
use Rattle.mbqi_terms.specs.declared.term.Term.TheVariants as term

-- a fact of each kind of tree, where its parts have theirs
pub record Cases (A : ArrayTerm → Type 0) (S : Symbol → Type 0) (T : Term → Type 0) : Type 0 where
  pub name : (f : ℕ) → A (array.Name f)
  pub store : (a : ArrayTerm) (i v : Term) → A a → T i → T v → A (array.Store a i v)
  pub constant : (s : Sort) (v : Term) → T v → A (array.Const s v)
  pub pointwise : (f : MapOp) (parts : List ArrayTerm) → AllByRecursion A parts → A (array.Map f parts)
  pub declared : (f : ℕ) → S (symbol.Declared f)
  pub skolem : (assertion place : ℕ) → S (symbol.Skolem assertion place)
  pub seed : (s : ℕ) → S (symbol.Seed s)
  pub far : S symbol.Far
  pub difference : (a b : ArrayTerm) → A a → A b → S (symbol.Diff a b)
  pub numeral : (n : ℤ) → T (term.Num n)
  pub sum : (t : Term) (n : ℤ) → T t → T (term.Plus t n)
  pub variable : (place : ℕ) → T (term.Var place)
  pub truth : (b : Bool) → T (term.Truth b)
  pub application : (f : Symbol) (ts : List Term) → S f → AllByRecursion T ts → T (term.Apply f ts)
  pub reading : (a : ArrayTerm) (i : Term) → A a → T i → T (term.Read a i)
  pub default : (a : ArrayTerm) → A a → T (term.Default a)

each_of : {X : Type 0} → (P : X → Type 0) (parts : List ((x : X) × P x)) → AllByRecursion P (map (λ part. part.0) parts)
each_of P [] = tt
each_of P (part ∷ parts) = (part.1, each_of P parts)

module _ (A : ArrayTerm → Type 0) (S : Symbol → Type 0) (T : Term → Type 0) (cases : Cases A S T) where
  abbrev SomeArray : Type 0
  SomeArray = (a : ArrayTerm) × A a

  abbrev SomeSymbol : Type 0
  SomeSymbol = (f : Symbol) × S f

  abbrev SomeTerm : Type 0
  SomeTerm = (t : Term) × T t

  array_case : (layer : ArrayTerm-F SomeArray SomeSymbol SomeTerm)
      → A (roll-ArrayTerm (map-ArrayTerm SomeArray SomeSymbol SomeTerm ArrayTerm Symbol Term (λ e. e.0) (λ e. e.0) (λ e. e.0) layer))
  array_case (ArrayTerm-F.Name f) = subst A (sym (array.rolls-Name f)) (cases.name f)
  array_case (ArrayTerm-F.Store a i v) = subst A (sym (array.rolls-Store a.0 i.0 v.0)) (cases.store a.0 i.0 v.0 a.1 i.1 v.1)
  array_case (ArrayTerm-F.Const s v) = subst A (sym (array.rolls-Const s v.0)) (cases.constant s v.0 v.1)
  array_case (ArrayTerm-F.Map f parts) =
      subst A (sym (array.rolls-Map f (map (λ e. e.0) parts))) (cases.pointwise f (map (λ e. e.0) parts) (each_of A parts))

  symbol_case : (layer : Symbol-F SomeArray SomeSymbol SomeTerm)
      → S (roll-Symbol (map-Symbol SomeArray SomeSymbol SomeTerm ArrayTerm Symbol Term (λ e. e.0) (λ e. e.0) (λ e. e.0) layer))
  symbol_case (Symbol-F.Declared f) = subst S (sym (symbol.rolls-Declared f)) (cases.declared f)
  symbol_case (Symbol-F.Skolem assertion place) = subst S (sym (symbol.rolls-Skolem assertion place)) (cases.skolem assertion place)
  symbol_case (Symbol-F.Seed s) = subst S (sym (symbol.rolls-Seed s)) (cases.seed s)
  symbol_case Symbol-F.Far = subst S (sym symbol.rolls-Far) cases.far
  symbol_case (Symbol-F.Diff a b) = subst S (sym (symbol.rolls-Diff a.0 b.0)) (cases.difference a.0 b.0 a.1 b.1)

  term_case : (layer : Term-F SomeArray SomeSymbol SomeTerm)
      → T (roll-Term (map-Term SomeArray SomeSymbol SomeTerm ArrayTerm Symbol Term (λ e. e.0) (λ e. e.0) (λ e. e.0) layer))
  term_case (Term-F.Num n) = subst T (sym (term.rolls-Num n)) (cases.numeral n)
  term_case (Term-F.Plus t n) = subst T (sym (term.rolls-Plus t.0 n)) (cases.sum t.0 n t.1)
  term_case (Term-F.Var place) = subst T (sym (term.rolls-Var place)) (cases.variable place)
  term_case (Term-F.Truth b) = subst T (sym (term.rolls-Truth b)) (cases.truth b)
  term_case (Term-F.Apply f ts) =
      subst T (sym (term.rolls-Apply f.0 (map (λ e. e.0) ts))) (cases.application f.0 (map (λ e. e.0) ts) f.1 (each_of T ts))
  term_case (Term-F.Read a i) = subst T (sym (term.rolls-Read a.0 i.0)) (cases.reading a.0 i.0 a.1 i.1)
  term_case (Term-F.Default a) = subst T (sym (term.rolls-Default a.0)) (cases.default a.0 a.1)

  pub each_term : (t : Term) → T t
  each_term = ind-Term A S T
      (λ x y is. subst (λ layer. A (roll-ArrayTerm layer)) is (array_case y))
      (λ x y is. subst (λ layer. S (roll-Symbol layer)) is (symbol_case y))
      (λ x y is. subst (λ layer. T (roll-Term layer)) is (term_case y))

  pub each_array : (a : ArrayTerm) → A a
  each_array = ind-ArrayTerm A S T
      (λ x y is. subst (λ layer. A (roll-ArrayTerm layer)) is (array_case y))
      (λ x y is. subst (λ layer. S (roll-Symbol layer)) is (symbol_case y))
      (λ x y is. subst (λ layer. T (roll-Term layer)) is (term_case y))
