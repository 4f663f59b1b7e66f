-- A formula doesn't hold and fail at one point.
use Rattle.std.proofs.Common.{Bool, true, false, List, [], ◌∷◌, inl, inr}
use Rattle.mbqi_terms.specs.declared.formula.Formula.{Formula, Row_of-Formula, end_of-Formula, more_of-Formula}
use Rattle.mbqi_terms.specs.declared.formula.Formula.TheBlock.{hidden-the_row-Formula-0, hidden-the_row-Formula-1}
use Rattle.mbqi_terms.specs.declared.formula.Formula.TheVariants as formula
use Rattle.mbqi_terms.specs.declared.formula.Formula.TheVariants.{Atom, Equal, AtMost, SameArray, Not', All', Any', Iff', Choose', Forall', Exists'}
use denote.Hole.Carrier.{hidden}
use Rattle.mbqi_terms.specs.declared.script.Function.{Function}
use Rattle.mbqi_terms.specs.declared.sort.Binder.{Binder}
use Rattle.mbqi_terms.specs.declared.term.ArrayTerm.{ArrayTerm}
use Rattle.function_model.specs.declared.model.FunctionModel.{FunctionModel}
use Rattle.function_model.specs.Holds.{Alike, EachHolds, ForAll, ForSome, HoldsAt, SomeHolds, with_value}
use Rattle.function_model.specs.Lookup.{is_full}
use Rattle.function_model.specs.ValueOf.{Point}

module _ (gs : List Function) (m : FunctionModel) where
  -- for all values and for some one
  for_both : (bs : List Binder) (p : Point) (P Q : Point → Type 0) → ((q : Point) → P q → Q q → ⊥) → ForAll m.sizes bs p P → ForSome m.sizes bs p Q → ⊥
  for_both [] p P Q apart all some = apart p all some
  for_both (b ∷ bs) p P Q apart all some = for_both bs (with_value p b.place some.0) P Q apart (all some.0 some.1) some.2

  arrays_apart : (full : Bool) (a b : ArrayTerm) (p : Point) → Alike full gs m true a b p → Alike full gs m false a b p → ⊥
  arrays_apart true a b p same other = cc
  arrays_apart false a b p same other = let alike = same other.0 other.1 in let differ = other.2 in cc

  mutual
    unfolding HoldsAt hidden-the_row-Formula-0 hidden hidden-the_row-Formula-1

    pub one_truth : (f : Formula) (p : Point) → HoldsAt gs m true f p → HoldsAt gs m false f p → ⊥
    one_truth (formula.Truth t) p holds fails = cc
    one_truth (Atom t) p holds fails = cc
    one_truth (Equal s t) p holds fails = cc
    one_truth (AtMost s t) p holds fails = cc
    one_truth (SameArray a b) p holds fails = arrays_apart (is_full m) a b p holds fails
    one_truth (Not' u (more_of-Formula f end_of-Formula)) p holds fails = one_truth f p fails holds
    one_truth (All' n fs) p holds fails = all_hold fs p holds fails
    one_truth (Any' n fs) p holds fails = all_fail fs p fails holds
    one_truth (Iff' u (more_of-Formula f end_of-Formula) v (more_of-Formula g end_of-Formula)) p (inl holds) (inl fails) = one_truth g p holds.1 fails.1
    one_truth (Iff' u (more_of-Formula f end_of-Formula) v (more_of-Formula g end_of-Formula)) p (inl holds) (inr fails) = one_truth f p holds.0 fails.0
    one_truth (Iff' u (more_of-Formula f end_of-Formula) v (more_of-Formula g end_of-Formula)) p (inr holds) (inl fails) = one_truth f p fails.0 holds.0
    one_truth (Iff' u (more_of-Formula f end_of-Formula) v (more_of-Formula g end_of-Formula)) p (inr holds) (inr fails) = one_truth g p fails.1 holds.1
    one_truth (Choose' u (more_of-Formula c end_of-Formula) v (more_of-Formula f end_of-Formula) w (more_of-Formula g end_of-Formula)) p (inl holds) (inl fails) =
        one_truth f p holds.1 fails.1
    one_truth (Choose' u (more_of-Formula c end_of-Formula) v (more_of-Formula f end_of-Formula) w (more_of-Formula g end_of-Formula)) p (inl holds) (inr fails) =
        one_truth c p holds.0 fails.0
    one_truth (Choose' u (more_of-Formula c end_of-Formula) v (more_of-Formula f end_of-Formula) w (more_of-Formula g end_of-Formula)) p (inr holds) (inl fails) =
        one_truth c p fails.0 holds.0
    one_truth (Choose' u (more_of-Formula c end_of-Formula) v (more_of-Formula f end_of-Formula) w (more_of-Formula g end_of-Formula)) p (inr holds) (inr fails) =
        one_truth g p holds.1 fails.1
    one_truth (Forall' bs u (more_of-Formula f end_of-Formula)) p holds fails =
        for_both bs p (HoldsAt gs m true f) (HoldsAt gs m false f) (λ q here there. one_truth f q here there) holds fails
    one_truth (Exists' bs u (more_of-Formula f end_of-Formula)) p holds fails =
        for_both bs p (HoldsAt gs m false f) (HoldsAt gs m true f) (λ q here there. one_truth f q there here) fails holds

    all_hold : {n : _} (fs : Row_of-Formula n) (p : Point) → EachHolds gs m true fs p → SomeHolds gs m false fs p → ⊥
    all_hold end_of-Formula p each some = some
    all_hold (more_of-Formula f fs) p each (inl fails) = one_truth f p each.0 fails
    all_hold (more_of-Formula f fs) p each (inr some) = all_hold fs p each.1 some

    all_fail : {n : _} (fs : Row_of-Formula n) (p : Point) → EachHolds gs m false fs p → SomeHolds gs m true fs p → ⊥
    all_fail end_of-Formula p each some = some
    all_fail (more_of-Formula f fs) p each (inl holds) = one_truth f p holds each.0
    all_fail (more_of-Formula f fs) p each (inr some) = all_fail fs p each.1 some
