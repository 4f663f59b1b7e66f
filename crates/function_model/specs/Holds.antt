-- When a formula holds or fails in a model.
use Rattle.std.specs.Prelude.{◌≡◌, ℕ, ◌<◌, ◌==◌, Bool, true, false, not, List, [], ◌∷◌, ◌⊎◌, ⊤, Option, None, Some, if◌then◌else◌, slice_get, slice_index}
use Rattle.std.specs.Ordering.{is_le}
use Rattle.mbqi_values.specs.Value.{rank_of, is_same, is_true}
use Rattle.mbqi_values.specs.declared.value.Value.{Value}
use Rattle.mbqi_values.specs.declared.value.Value.TheVariants.{Num, Elem, Truth}
use Rattle.mbqi_terms.specs.declared.formula.Formula.{Formula, Row_of-Formula, end_of-Formula, more_of-Formula}
use Rattle.mbqi_terms.specs.declared.formula.Formula.TheVariants.{Atom, Equal, AtMost, SameArray, Not', All', Any', Iff', Choose', Forall', Exists'}
use Rattle.mbqi_terms.specs.declared.formula.Formula.TheVariants as formula
use Rattle.mbqi_terms.specs.declared.script.Assertion.{Assertion}
use Rattle.mbqi_terms.specs.declared.script.Function.{Function}
use Rattle.mbqi_terms.specs.declared.script.Script.{Script}
use Rattle.mbqi_terms.specs.declared.sort.Binder.{Binder}
use Rattle.mbqi_terms.specs.declared.sort.Plain.{Plain}
use Rattle.mbqi_terms.specs.declared.sort.Plain.TheVariants as plain
use Rattle.mbqi_terms.specs.declared.sort.Sort.{Sort}
use Rattle.mbqi_terms.specs.declared.sort.Sort.TheVariants as sort
use Rattle.mbqi_terms.specs.declared.term.ArrayTerm.{ArrayTerm}
use Rattle.mbqi_terms.specs.declared.term.ArrayTerm.TheFolds.{fold-ArrayTerm}
use Rattle.mbqi_terms.specs.declared.term.ArrayTerm.TheOpen.{ArrayTerm-F}
use Rattle.function_model.specs.declared.model.FunctionModel.{FunctionModel}
use Rattle.mbqi_terms.specs.Meanings.{Meanings}
use Rattle.mbqi_terms.specs.Sort.{plain_sort}
use Rattle.function_model.specs.Lookup.{is_full}
use Rattle.function_model.specs.ValueOf.{Point, value_of, array_of, sameness_in}

-- The value has the sort in a universe of these sizes; all integers have the sort Int.
abbrev pub IsOf : List ℕ → Sort → Value → Type 0
IsOf sizes sort.Truth (Truth t) = Unit {0}
IsOf sizes sort.Int (Num n) = Unit {0}
IsOf sizes (sort.Elem s) (Elem e) = e < slice_index sizes s
IsOf sizes sort.Truth (Num n) = ⊥
IsOf sizes sort.Truth (Elem e) = ⊥
IsOf sizes sort.Int (Elem e) = ⊥
IsOf sizes sort.Int (Truth t) = ⊥
IsOf sizes (sort.Elem s) (Num n) = ⊥
IsOf sizes (sort.Elem s) (Truth t) = ⊥
IsOf sizes (sort.Array i e) v = ⊥

-- The point with this value at one place.
abbrev pub with_value : Point → ℕ → Value → Point
with_value p place v n = if n == place then v else p n

-- For all values of the binders.
abbrev pub ForAll : List ℕ → List Binder → Point → (Point → Type 0) → Type 0
ForAll sizes [] p body = body p
ForAll sizes (b ∷ bs) p body = (v : Value) → IsOf sizes b.sort v → ForAll sizes bs (with_value p b.place v) body

-- For some values of the binders.
abbrev pub ForSome : List ℕ → List Binder → Point → (Point → Type 0) → Type 0
ForSome sizes [] p body = body p
ForSome sizes (b ∷ bs) p body = (v : Value) × IsOf sizes b.sort v × ForSome sizes bs (with_value p b.place v) body

-- The sort of an array's index: that of a declared array, of the array that is stored into or mapped, or of the sort
-- that a constant array names.
abbrev pub index_in : Sort → Plain
index_in (sort.Array i e) = i
index_in sort.Truth = plain.Int
index_in sort.Int = plain.Int
index_in (sort.Elem s) = plain.Int

abbrev pub index_of_declared : Option Function → Plain
index_of_declared None = plain.Int
index_of_declared (Some function) = index_in function.result

abbrev pub index_layer : List Function → ArrayTerm-F Plain ⊤ ⊤ → Plain
index_layer functions (ArrayTerm-F.Name f) = index_of_declared (slice_get functions f)
index_layer functions (ArrayTerm-F.Store a i v) = a
index_layer functions (ArrayTerm-F.Const s v) = index_in s
index_layer functions (ArrayTerm-F.Map f []) = plain.Int
index_layer functions (ArrayTerm-F.Map f (a ∷ parts)) = a

abbrev pub index_sort : List Function → ArrayTerm → Sort
index_sort functions a = plain_sort (fold-ArrayTerm Plain ⊤ ⊤ (index_layer functions) (λ symbol. tt) (λ term. tt) a)

-- Two arrays have the same reads at every index of their sort; they differ at some index.
abbrev pub ReadAlike : List Function → FunctionModel → Bool → ArrayTerm → ArrayTerm → Point → Type 0
ReadAlike functions m true a b p =
    (i : Value) → IsOf m.sizes (index_sort functions a) i → is_same ((array_of m a p).read i) ((array_of m b p).read i) ≡ true
ReadAlike functions m false a b p =
    (i : Value) × IsOf m.sizes (index_sort functions a) i × (is_same ((array_of m a p).read i) ((array_of m b p).read i) ≡ false)

-- Two arrays are the same at a point (`true`), or differ there (`false`): by their own table in a full model, by their reads in a shown one.
abbrev pub Alike : Bool → List Function → FunctionModel → Bool → ArrayTerm → ArrayTerm → Point → Type 0
Alike true gs m b s t p = sameness_in m s t ≡ Truth b
Alike false gs m b s t p = ReadAlike gs m b s t p

-- The formula holds at the point (`true`), or fails there (`false`), as SMT-LIB 2.6 (section 5.3) and its
-- theories Core, Ints and ArraysEx say. The two are defined side by side, so that a quantifier that fails
-- has a point at which it does. The declared functions `gs` give the sorts of arrays.
unfoldable mutual
  pub HoldsAt : List Function → FunctionModel → Bool → Formula → Point → Type 0
  HoldsAt gs m b (formula.Truth t) p = t ≡ b
  HoldsAt gs m b (Atom t) p = value_of m t p ≡ Truth b
  HoldsAt gs m b (Equal s t) p = is_same (value_of m s p) (value_of m t p) ≡ b
  HoldsAt gs m b (AtMost s t) p = is_le (rank_of (value_of m s p) (value_of m t p)) ≡ b
  HoldsAt gs m b (SameArray s t) p = Alike (is_full m) gs m b s t p
  HoldsAt gs m b (Not' u (more_of-Formula f end_of-Formula)) p = HoldsAt gs m (not b) f p
  HoldsAt gs m true (All' n fs) p = EachHolds gs m true fs p
  HoldsAt gs m false (All' n fs) p = SomeHolds gs m false fs p
  HoldsAt gs m true (Any' n fs) p = SomeHolds gs m true fs p
  HoldsAt gs m false (Any' n fs) p = EachHolds gs m false fs p
  HoldsAt gs m b (Iff' u (more_of-Formula f end_of-Formula) v (more_of-Formula g end_of-Formula)) p =
      (HoldsAt gs m true f p × HoldsAt gs m b g p) ⊎ (HoldsAt gs m false f p × HoldsAt gs m (not b) g p)
  HoldsAt gs m b (Choose' u (more_of-Formula c end_of-Formula) v (more_of-Formula f end_of-Formula) w (more_of-Formula g end_of-Formula)) p =
      (HoldsAt gs m true c p × HoldsAt gs m b f p) ⊎ (HoldsAt gs m false c p × HoldsAt gs m b g p)
  HoldsAt gs m true (Forall' bs u (more_of-Formula f end_of-Formula)) p = ForAll m.sizes bs p (HoldsAt gs m true f)
  HoldsAt gs m false (Forall' bs u (more_of-Formula f end_of-Formula)) p = ForSome m.sizes bs p (HoldsAt gs m false f)
  HoldsAt gs m true (Exists' bs u (more_of-Formula f end_of-Formula)) p = ForSome m.sizes bs p (HoldsAt gs m true f)
  HoldsAt gs m false (Exists' bs u (more_of-Formula f end_of-Formula)) p = ForAll m.sizes bs p (HoldsAt gs m false f)

  -- Each of the formulas holds, or fails.
  pub EachHolds : List Function → FunctionModel → Bool → {n : _} → Row_of-Formula n → Point → Type 0
  EachHolds gs m b end_of-Formula p = Unit {0}
  EachHolds gs m b (more_of-Formula f fs) p = HoldsAt gs m b f p × EachHolds gs m b fs p

  -- Some of the formulas holds, or fails.
  pub SomeHolds : List Function → FunctionModel → Bool → {n : _} → Row_of-Formula n → Point → Type 0
  SomeHolds gs m b end_of-Formula p = ⊥
  SomeHolds gs m b (more_of-Formula f fs) p = HoldsAt gs m b f p ⊎ SomeHolds gs m b fs p

-- The point of a formula without free variables: nothing reads it.
abbrev pub nowhere : Point
nowhere place = Truth false

-- The values of ground terms in a full model, and the truths of the equalities of its arrays.
abbrev pub values_in : FunctionModel → Meanings
values_in model = record { value = λ t. value_of model t nowhere; same = λ a b. is_true (sameness_in model a b) }

-- Each assertion of the script holds, over all integers and the whole universe of the model.
abbrev pub AssertionsHold : List Function → FunctionModel → List Assertion → Type 0
AssertionsHold gs m [] = Unit {0}
AssertionsHold gs m (a ∷ as') = HoldsAt gs m true a.formula nowhere × AssertionsHold gs m as'

abbrev pub Holds : FunctionModel → Script → Type 0
Holds m script = AssertionsHold script.functions m script.assertions
