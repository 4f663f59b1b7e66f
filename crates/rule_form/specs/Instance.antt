-- Instances of assertions (Skolem form, with this project's numbers for Skolem symbols).
use Rattle.std.specs.Prelude.{◌≡◌, ℕ, ◌==◌, Bool, true, false, not, List, [], ◌∷◌, ◌++◌, map, ◌⊎◌, Some, slice_get, if◌then◌else◌}
use Rattle.std.specs.List.{AllZip, list_any}
use Rattle.mbqi_terms.specs.Binders.{universals_at}
use Rattle.mbqi_terms.specs.InForm.{IsGroundTerm}
use Rattle.mbqi_terms.specs.Sort.{plain_sort}
use Rattle.mbqi_terms.specs.declared.formula.Formula.{Formula, Row_of-Formula, end_of-Formula, more_of-Formula}
use Rattle.mbqi_terms.specs.declared.formula.Formula.TheVariants.{Atom, Equal, AtMost, SameArray, Not', All', Any', Iff', Choose', Forall', Exists'}
use Rattle.mbqi_terms.specs.declared.formula.Formula.TheVariants as formula
use Rattle.mbqi_terms.specs.declared.script.Assertion.{Assertion}
use Rattle.mbqi_terms.specs.declared.script.Script.{Script}
use Rattle.mbqi_terms.specs.declared.sort.Binder.{Binder}
use Rattle.mbqi_terms.specs.declared.sort.Plain.{Plain}
use Rattle.mbqi_terms.specs.declared.term.Symbol.TheVariants as symbol
use Rattle.mbqi_terms.specs.declared.term.Term.{Term}
use Rattle.mbqi_terms.specs.declared.term.Term.TheVariants as term
use Rattle.mbqi_terms.specs.Substitution.{put_into, put_into_array, put_into_formula}

-- The term for the variable of a place, where the variables have these terms in order.
abbrev pub term_for : List Binder → List Term → ℕ → Term
term_for [] terms place = term.Var place
term_for (binder ∷ binders) [] place = term.Var place
term_for (binder ∷ binders) (t ∷ terms) place = if place == binder.place then t else term_for binders terms place

-- How far an instance has come: its assertion's number, the terms for the universal variables by place, those of the universal
-- variables whose quantifiers enclose the formula, outermost first, and the terms for all of its variables.
pub record Instantiation : Type 0 where
  pub assertion : ℕ
  pub given : ℕ → Term
  pub outer : List Term
  pub at : ℕ → Term

abbrev pub is_bound : List Binder → ℕ → Bool
is_bound binders place = list_any (λ (binder : Binder). place == binder.place) binders

-- Below the quantifier of universal variables, and below that of existential ones, which have Skolem terms.
abbrev pub below_universal : List Binder → Instantiation → Instantiation
below_universal binders i = record i {
  outer = i.outer ++ map (λ (binder : Binder). i.given binder.place) binders;
  at = λ place. if is_bound binders place then i.given place else i.at place;
}

abbrev pub below_existential : List Binder → Instantiation → Instantiation
below_existential binders i = record i {
  at = λ place. if is_bound binders place then term.Apply (symbol.Skolem i.assertion place) i.outer else i.at place;
}

-- A formula at a polarity, as one that holds where it is to.
abbrev pub signed : Bool → Formula → Formula
signed true f = f
signed false f = formula.Not f

-- The second formula is an instance of the first at the polarity.
unfoldable mutual
  pub InstanceAt : Instantiation → Bool → Formula → Formula → Type 0
  InstanceAt i b (formula.Truth t) g = g ≡ signed b (formula.Truth t)
  InstanceAt i b (Atom t) g = g ≡ signed b (Atom (put_into i.at t))
  InstanceAt i b (Equal s t) g = g ≡ signed b (Equal (put_into i.at s) (put_into i.at t))
  InstanceAt i b (AtMost s t) g = g ≡ signed b (AtMost (put_into i.at s) (put_into i.at t))
  InstanceAt i b (SameArray s t) g = g ≡ signed b (SameArray (put_into_array i.at s) (put_into_array i.at t))
  InstanceAt i b (Not' u (more_of-Formula f end_of-Formula)) g = InstanceAt i (not b) f g
  InstanceAt i true (All' n fs) g = OneInstance i true fs g ⊎ ((gs : List Formula) × (g ≡ formula.All gs) × EachInstance i true fs gs)
  InstanceAt i false (All' n fs) g = (gs : List Formula) × (g ≡ formula.Any gs) × EachInstance i false fs gs
  InstanceAt i true (Any' n fs) g = (gs : List Formula) × (g ≡ formula.Any gs) × EachInstance i true fs gs
  InstanceAt i false (Any' n fs) g = OneInstance i false fs g ⊎ ((gs : List Formula) × (g ≡ formula.All gs) × EachInstance i false fs gs)
  InstanceAt i b (Iff' u (more_of-Formula f end_of-Formula) v (more_of-Formula h end_of-Formula)) g =
      g ≡ signed b (formula.Iff (put_into_formula i.at f) (put_into_formula i.at h))
  InstanceAt i b (Choose' u (more_of-Formula c end_of-Formula) v (more_of-Formula f end_of-Formula) w (more_of-Formula h end_of-Formula)) g =
      (left right : Formula) × (g ≡ formula.Choose (put_into_formula i.at c) left right) × InstanceAt i b f left × InstanceAt i b h right
  InstanceAt i true (Forall' bs u (more_of-Formula f end_of-Formula)) g = InstanceAt (below_universal bs i) true f g
  InstanceAt i false (Forall' bs u (more_of-Formula f end_of-Formula)) g = InstanceAt (below_existential bs i) false f g
  InstanceAt i true (Exists' bs u (more_of-Formula f end_of-Formula)) g = InstanceAt (below_existential bs i) true f g
  InstanceAt i false (Exists' bs u (more_of-Formula f end_of-Formula)) g = InstanceAt (below_universal bs i) false f g

  -- One instance of each of the formulas, in order.
  pub EachInstance : Instantiation → Bool → {n : _} → Row_of-Formula n → List Formula → Type 0
  EachInstance i b end_of-Formula [] = Unit {0}
  EachInstance i b end_of-Formula (g ∷ gs) = ⊥
  EachInstance i b (more_of-Formula f fs) [] = ⊥
  EachInstance i b (more_of-Formula f fs) (g ∷ gs) = InstanceAt i b f g × EachInstance i b fs gs

  -- An instance of one of the formulas.
  pub OneInstance : Instantiation → Bool → {n : _} → Row_of-Formula n → Formula → Type 0
  OneInstance i b end_of-Formula g = ⊥
  OneInstance i b (more_of-Formula f fs) g = InstanceAt i b f g ⊎ OneInstance i b fs g

-- The instance of a formula at a polarity that takes every part, wherever one part may be taken.
unfoldable mutual
  pub whole : Instantiation → Bool → Formula → Formula
  whole i b (formula.Truth t) = signed b (formula.Truth t)
  whole i b (Atom t) = signed b (Atom (put_into i.at t))
  whole i b (Equal s t) = signed b (Equal (put_into i.at s) (put_into i.at t))
  whole i b (AtMost s t) = signed b (AtMost (put_into i.at s) (put_into i.at t))
  whole i b (SameArray s t) = signed b (SameArray (put_into_array i.at s) (put_into_array i.at t))
  whole i b (Not' u (more_of-Formula f end_of-Formula)) = whole i (not b) f
  whole i true (All' n fs) = formula.All (whole_each i true fs)
  whole i false (All' n fs) = formula.Any (whole_each i false fs)
  whole i true (Any' n fs) = formula.Any (whole_each i true fs)
  whole i false (Any' n fs) = formula.All (whole_each i false fs)
  whole i b (Iff' u (more_of-Formula f end_of-Formula) v (more_of-Formula h end_of-Formula)) =
      signed b (formula.Iff (put_into_formula i.at f) (put_into_formula i.at h))
  whole i b (Choose' u (more_of-Formula c end_of-Formula) v (more_of-Formula f end_of-Formula) w (more_of-Formula h end_of-Formula)) =
      formula.Choose (put_into_formula i.at c) (whole i b f) (whole i b h)
  whole i true (Forall' bs u (more_of-Formula f end_of-Formula)) = whole (below_universal bs i) true f
  whole i false (Forall' bs u (more_of-Formula f end_of-Formula)) = whole (below_existential bs i) false f
  whole i true (Exists' bs u (more_of-Formula f end_of-Formula)) = whole (below_existential bs i) true f
  whole i false (Exists' bs u (more_of-Formula f end_of-Formula)) = whole (below_universal bs i) false f

  pub whole_each : Instantiation → Bool → {n : _} → Row_of-Formula n → List Formula
  whole_each i b end_of-Formula = []
  whole_each i b (more_of-Formula f fs) = whole i b f ∷ whole_each i b fs

-- Where an instance begins.
abbrev pub start : ℕ → (ℕ → Term) → Instantiation
start assertion given = record { assertion = assertion; given = given; outer = []; at = λ place. term.Var place }

-- A term for a variable: ground, and of the variable's sort.
pub record IsTermFor (script : Script) (binder : Binder) (t : Term) : Type 0 where
  pub sort : Plain
  pub same : binder.sort ≡ plain_sort sort
  pub ground : IsGroundTerm script sort t

-- The formula is an instance of the assertion of a number, with one ground term of its sort for each universal variable.
abbrev pub IsInstance : Script → ℕ → List Term → Formula → Type 0
IsInstance script assertion terms g =
    (a : Assertion) × (slice_get script.assertions assertion ≡ Some a)
    × AllZip (IsTermFor script) (universals_at a.formula true) terms
    × InstanceAt (start assertion (term_for (universals_at a.formula true) terms)) true a.formula g

-- The whole instance of an assertion at terms for its universal variables.
abbrev pub whole_at : ℕ → Formula → List Term → Formula
whole_at assertion f terms = whole (start assertion (term_for (universals_at f true) terms)) true f
