-- When a conjunction or a disjunction holds or fails, by its parts as a list.
use Rattle.std.proofs.Common.{◌≡◌, Bool, true, false, List, [], ◌∷◌, ◌⊎◌, refl, ap}
use Rattle.mbqi_terms.specs.declared.formula.Formula.{Formula}
use Rattle.mbqi_terms.specs.declared.formula.Formula.TheBlock.{hidden-the_row-Formula-0, hidden-the_row-Formula-1}
use Rattle.mbqi_terms.specs.declared.formula.Formula.TheVariants as formula
use denote.Hole.Carrier.{hidden}
use Rattle.mbqi_terms.specs.declared.script.Function.{Function}
use Rattle.function_model.specs.declared.model.FunctionModel.{FunctionModel}
use Rattle.function_model.specs.Holds.{EachHolds, HoldsAt, SomeHolds}
use Rattle.function_model.specs.ValueOf.{Point}

abbrev pub EachOf : (Formula → Type 0) → List Formula → Type 0
EachOf P [] = Unit {0}
EachOf P (f ∷ fs) = P f × EachOf P fs

abbrev pub SomeOf : (Formula → Type 0) → List Formula → Type 0
SomeOf P [] = ⊥
SomeOf P (f ∷ fs) = P f ⊎ SomeOf P fs

module _ (gs : List Function) (m : FunctionModel) (b : Bool) (p : Point) where
  abbrev each_in : Formula → Type 0
  each_in (formula.All' n row) = EachHolds gs m b row p
  each_in (formula.Any' n row) = EachHolds gs m b row p
  each_in other = ⊥

  abbrev some_in : Formula → Type 0
  some_in (formula.All' n row) = SomeHolds gs m b row p
  some_in (formula.Any' n row) = SomeHolds gs m b row p
  some_in other = ⊥

  each_all : (fs : List Formula) → each_in (formula.All fs) ≡ EachOf (λ f. HoldsAt gs m b f p) fs
  unfolding HoldsAt hidden-the_row-Formula-0 hidden hidden-the_row-Formula-1
  each_all [] = refl
  each_all (f ∷ fs) = ap (λ (X : Type 0). HoldsAt gs m b f p × X) (each_all fs)

  each_any : (fs : List Formula) → each_in (formula.Any fs) ≡ EachOf (λ f. HoldsAt gs m b f p) fs
  unfolding HoldsAt hidden-the_row-Formula-0 hidden hidden-the_row-Formula-1
  each_any [] = refl
  each_any (f ∷ fs) = ap (λ (X : Type 0). HoldsAt gs m b f p × X) (each_any fs)

  some_all : (fs : List Formula) → some_in (formula.All fs) ≡ SomeOf (λ f. HoldsAt gs m b f p) fs
  unfolding HoldsAt hidden-the_row-Formula-0 hidden hidden-the_row-Formula-1
  some_all [] = refl
  some_all (f ∷ fs) = ap (λ (X : Type 0). HoldsAt gs m b f p ⊎ X) (some_all fs)

  some_any : (fs : List Formula) → some_in (formula.Any fs) ≡ SomeOf (λ f. HoldsAt gs m b f p) fs
  unfolding HoldsAt hidden-the_row-Formula-0 hidden hidden-the_row-Formula-1
  some_any [] = refl
  some_any (f ∷ fs) = ap (λ (X : Type 0). HoldsAt gs m b f p ⊎ X) (some_any fs)

module _ (gs : List Function) (m : FunctionModel) (p : Point) (fs : List Formula) where
  pub holds_all : HoldsAt gs m true (formula.All fs) p ≡ EachOf (λ f. HoldsAt gs m true f p) fs
  unfolding HoldsAt hidden-the_row-Formula-0 hidden hidden-the_row-Formula-1
  holds_all = each_all gs m true p fs

  pub fails_all : HoldsAt gs m false (formula.All fs) p ≡ SomeOf (λ f. HoldsAt gs m false f p) fs
  unfolding HoldsAt hidden-the_row-Formula-0 hidden hidden-the_row-Formula-1
  fails_all = some_all gs m false p fs

  pub holds_any : HoldsAt gs m true (formula.Any fs) p ≡ SomeOf (λ f. HoldsAt gs m true f p) fs
  unfolding HoldsAt hidden-the_row-Formula-0 hidden hidden-the_row-Formula-1
  holds_any = some_any gs m true p fs

  pub fails_any : HoldsAt gs m false (formula.Any fs) p ≡ EachOf (λ f. HoldsAt gs m false f p) fs
  unfolding HoldsAt hidden-the_row-Formula-0 hidden hidden-the_row-Formula-1
  fails_any = each_any gs m false p fs
