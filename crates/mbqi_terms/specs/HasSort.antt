-- Which terms, array terms and formulas without quantifiers have their sorts (this project's own profile of SMT-LIB 2.6, section 3.6): each
-- sort, symbol and variable that they name is there, arguments have their number and sorts, and numbers are within given limits.
use Rattle.std.specs.Prelude.{◌≡◌, ◌≢◌, ◌<◌, ℕ, ◌==◌, ℤ, pos, Bool, true, false, List, [], ◌∷◌, map, replicate, Option, None, Some, slice_get, if◌then◌else◌}
use Rattle.mbqi_terms.specs.declared.arrays.SkolemSort.{SkolemSort}
use Rattle.mbqi_terms.specs.declared.formula.Formula.{Formula}
use Rattle.mbqi_terms.specs.declared.formula.Formula.TheVariants as formula
use Rattle.mbqi_terms.specs.declared.script.Function.{Function}
use Rattle.mbqi_terms.specs.declared.sort.Binder.{Binder}
use Rattle.mbqi_terms.specs.declared.sort.Plain.{Plain}
use Rattle.mbqi_terms.specs.declared.sort.Plain.TheVariants as plain
use Rattle.mbqi_terms.specs.declared.sort.Sort.{Sort}
use Rattle.mbqi_terms.specs.declared.sort.Sort.TheVariants as sort
use Rattle.mbqi_terms.specs.declared.store.lists.Lists.{Lists}
use Rattle.mbqi_terms.specs.declared.term.ArrayTerm.{ArrayTerm}
use Rattle.mbqi_terms.specs.declared.term.ArrayTerm.TheVariants as array
use Rattle.mbqi_terms.specs.declared.term.MapOp.{MapOp}
use Rattle.mbqi_terms.specs.declared.term.MapOp.TheVariants as op
use Rattle.mbqi_terms.specs.declared.term.Symbol.TheVariants as symbol
use Rattle.mbqi_terms.specs.declared.term.Term.{Term, out-Term}
use Rattle.mbqi_terms.specs.declared.term.Term.TheVariants as term
use Rattle.mbqi_terms.specs.Lists.{skolem_of}
use Rattle.mbqi_terms.specs.Sort.{plain_sort}
use Rattle.mbqi_terms.specs.Tree.{IsBase}
use Rattle.mbqi_terms.specs.Varies.{varies}

-- What a tree is judged by: how many sorts are declared, the lists that symbols number, which numbers may be numerals and which may be
-- added to a term, and whether hidden names may stand in it.
pub record Setting : Type 0 where
  pub sorts : ℕ
  pub lists : Lists
  pub numerals : ℤ → Bool
  pub offsets : ℤ → Bool
  pub hidden : Bool

-- Among so many declared sorts: Bool, Int, or one of them.
abbrev pub IsPlainSort : ℕ → Plain → Type 0
IsPlainSort sorts plain.Truth = Unit {0}
IsPlainSort sorts plain.Int = Unit {0}
IsPlainSort sorts (plain.Elem s) = s < sorts

-- The same without Bool: what a variable, an argument or an array's index may have.
abbrev pub IsIndexSort : ℕ → Plain → Type 0
IsIndexSort sorts plain.Truth = ⊥
IsIndexSort sorts plain.Int = Unit {0}
IsIndexSort sorts (plain.Elem s) = s < sorts

-- The sort of a place's variable among binders, of which the innermost come first.
abbrev pub sort_at : List Binder → ℕ → Option Sort
sort_at [] place = None
sort_at (b ∷ bs) place = if b.place == place then Some b.sort else sort_at bs place

-- The function of a number has these sorts.
pub record IsDeclared (l : Lists) (number : ℕ) (args : List Sort) (result : Sort) : Type 0 where
  pub function : Function
  pub there : slice_get l.functions number ≡ Some function
  pub takes : function.args ≡ args
  pub gives : function.result ≡ result

-- The Skolem symbol of an assertion and a place has these sorts.
pub record IsSkolem (l : Lists) (assertion place : ℕ) (args : List Sort) (result : Sort) : Type 0 where
  pub skolem : SkolemSort
  pub there : skolem_of l.skolems assertion place ≡ Some skolem
  pub takes : skolem.args ≡ args
  pub gives : skolem.result ≡ result

-- The sorts of the elements that a pointwise map takes and gives (de Moura and Bjørner 2009).
pub data IsPointwise (l : Lists) : MapOp → List Plain → Plain → Type 0 where
  declared : (number : ℕ) (args : List Plain) (result : Plain) → IsDeclared l number (map plain_sort args) (plain_sort result) → IsPointwise l (op.Declared number) args result
  conjunction : (n : ℕ) → IsPointwise l op.And (replicate n plain.Truth) plain.Truth
  disjunction : (n : ℕ) → IsPointwise l op.Or (replicate n plain.Truth) plain.Truth
  negation : IsPointwise l op.Not (plain.Truth ∷ []) plain.Truth

mutual
  -- A term of a sort, in the scope of binders.
  pub data HasSortIn (g : Setting) (scope : List Binder) : Term → Plain → Type 0 where
    number : (n : ℤ) → g.numerals n ≡ true → HasSortIn g scope (term.Num n) plain.Int
    sum : (t : Term) (n : ℤ) → HasSortIn g scope t plain.Int → IsBase (out-Term t) → n ≢ pos 0 → g.offsets n ≡ true → HasSortIn g scope (term.Plus t n) plain.Int
    variable : (place : ℕ) (s : Plain) → IsIndexSort g.sorts s → sort_at scope place ≡ Some (plain_sort s) → HasSortIn g scope (term.Var place) s
    truth : (b : Bool) → HasSortIn g scope (term.Truth b) plain.Truth
    application : (f : ℕ) (ts : List Term) (args : List Plain) (s : Plain) → IsDeclared g.lists f (map plain_sort args) (plain_sort s) → HaveSortsIn g scope ts args → HasSortIn g scope (term.Apply (symbol.Declared f) ts) s
    skolem : (assertion place : ℕ) (ts : List Term) (args : List Plain) (s : Plain) → g.hidden ≡ true → IsSkolem g.lists assertion place (map plain_sort args) (plain_sort s) → HaveSortsIn g scope ts args → HasSortIn g scope (term.Apply (symbol.Skolem assertion place) ts) s
    seed : (s : ℕ) → g.hidden ≡ true → s < g.sorts → HasSortIn g scope (term.Apply (symbol.Seed s) []) (plain.Elem s)
    far : g.hidden ≡ true → HasSortIn g scope (term.Apply symbol.Far []) plain.Int
    differing : (a b : ArrayTerm) (i e : Plain) → g.hidden ≡ true → IsIndexSort g.sorts i → IsArrayIn g scope a i e → IsArrayIn g scope b i e → HasSortIn g scope (term.Apply (symbol.Diff a b) []) i
    reading : (a : ArrayTerm) (t : Term) (i e : Plain) → IsArrayIn g scope a i e → IsIndexSort g.sorts i → HasSortIn g scope t i → HasSortIn g scope (term.Read a t) e
    last : (a : ArrayTerm) (e : Plain) → IsArrayIn g scope a plain.Int e → varies a ≡ false → HasSortIn g scope (term.Default a) e

  -- Terms of the sorts of places, one each.
  pub data HaveSortsIn (g : Setting) (scope : List Binder) : List Term → List Plain → Type 0 where
    no_terms : HaveSortsIn g scope [] []
    more_terms : (t : Term) (ts : List Term) (s : Plain) (ss : List Plain) → IsIndexSort g.sorts s → HasSortIn g scope t s → HaveSortsIn g scope ts ss → HaveSortsIn g scope (t ∷ ts) (s ∷ ss)

  -- An array term with its index and element sorts. No variable stands in one that is no name.
  pub data IsArrayIn (g : Setting) (scope : List Binder) : ArrayTerm → Plain → Plain → Type 0 where
    name : (f : ℕ) (i e : Plain) → IsDeclared g.lists f [] (sort.Array i e) → IsArrayIn g scope (array.Name f) i e
    store : (a : ArrayTerm) (t v : Term) (i e : Plain) → IsArrayIn g scope a i e → IsIndexSort g.sorts i → HasSortIn g scope t i → HasSortIn g scope v e → varies (array.Store a t v) ≡ false → IsArrayIn g scope (array.Store a t v) i e
    constant : (v : Term) (i e : Plain) → IsIndexSort g.sorts i → IsPlainSort g.sorts e → HasSortIn g scope v e → varies (array.Const (sort.Array i e) v) ≡ false → IsArrayIn g scope (array.Const (sort.Array i e) v) i e
    pointwise : (op : MapOp) (a : ArrayTerm) (arrays : List ArrayTerm) (i e : Plain) (es : List Plain) → IsPointwise g.lists op es e → AreArraysIn g scope (a ∷ arrays) i es → varies (array.Map op (a ∷ arrays)) ≡ false → IsArrayIn g scope (array.Map op (a ∷ arrays)) i e

  -- Array terms of one index sort with these element sorts, one each.
  pub data AreArraysIn (g : Setting) (scope : List Binder) : List ArrayTerm → Plain → List Plain → Type 0 where
    no_arrays : (i : Plain) → AreArraysIn g scope [] i []
    more_arrays : (a : ArrayTerm) (arrays : List ArrayTerm) (i e : Plain) (es : List Plain) → IsArrayIn g scope a i e → AreArraysIn g scope arrays i es → AreArraysIn g scope (a ∷ arrays) i (e ∷ es)

-- What stands as an atom: a term of sort Bool that is no truth.
abbrev pub IsNoTruth : Term → Type 0
IsNoTruth t = (b : Bool) → t ≢ term.Truth b

pub record IsAtomIn (g : Setting) (scope : List Binder) (t : Term) : Type 0 where
  pub sort : HasSortIn g scope t plain.Truth
  pub other : IsNoTruth t

mutual
  -- A formula without quantifiers, in the scope of binders.
  pub data IsMatrix (g : Setting) (scope : List Binder) : Formula → Type 0 where
    truth : (b : Bool) → IsMatrix g scope (formula.Truth b)
    atom : (t : Term) → IsAtomIn g scope t → IsMatrix g scope (formula.Atom t)
    equal : (s t : Term) (e : Plain) → IsIndexSort g.sorts e → HasSortIn g scope s e → HasSortIn g scope t e → IsMatrix g scope (formula.Equal s t)
    at_most : (s t : Term) → HasSortIn g scope s plain.Int → HasSortIn g scope t plain.Int → IsMatrix g scope (formula.AtMost s t)
    same : (a b : ArrayTerm) (i e : Plain) → IsArrayIn g scope a i e → IsArrayIn g scope b i e → IsMatrix g scope (formula.SameArray a b)
    negation : (f : Formula) → IsMatrix g scope f → IsMatrix g scope (formula.Not f)
    conjunction : (f h : Formula) (fs : List Formula) → AreMatrices g scope (f ∷ h ∷ fs) → IsMatrix g scope (formula.All (f ∷ h ∷ fs))
    disjunction : (f h : Formula) (fs : List Formula) → AreMatrices g scope (f ∷ h ∷ fs) → IsMatrix g scope (formula.Any (f ∷ h ∷ fs))
    equivalence : (f h : Formula) → IsMatrix g scope f → IsMatrix g scope h → IsMatrix g scope (formula.Iff f h)
    choice : (c f h : Formula) → IsMatrix g scope c → IsMatrix g scope f → IsMatrix g scope h → IsMatrix g scope (formula.Choose c f h)

  pub data AreMatrices (g : Setting) (scope : List Binder) : List Formula → Type 0 where
    no_matrices : AreMatrices g scope []
    more_matrices : (f : Formula) (fs : List Formula) → IsMatrix g scope f → AreMatrices g scope fs → AreMatrices g scope (f ∷ fs)
