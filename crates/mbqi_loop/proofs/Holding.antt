-- A clause that is true under the values of a model at a point holds there.
use Rattle.std.proofs.Common.{◌≡◌, Bool, true, false, not, List, [], ◌∷◌, map, refl, sym, ap, subst, ◌∙◌, inl, inr, rules, ◌||◌}
use Rattle.std.specs.Prelude.{All}
use Rattle.std.specs.List.{list_any}
use Rattle.std.proofs.lemmas.List.Elements.{All-head, All-tail}
use Rattle.mbqi_values.specs.declared.value.Value.{Value}
use Rattle.mbqi_values.specs.declared.value.Value.TheVariants.{Num, Elem, Truth}
use Rattle.mbqi_terms.specs.declared.formula.Formula as formulas
use Rattle.mbqi_terms.specs.declared.formula.Formula.{Formula}
use Rattle.mbqi_terms.specs.declared.formula.Formula.TheBlock.{hidden-the_row-Formula-0, hidden-the_row-Formula-1}
use Rattle.mbqi_terms.specs.declared.formula.Formula.TheFolds.{fold-roll-Formula}
use Rattle.mbqi_terms.specs.declared.formula.Formula.TheOpen.{Formula-F}
use Rattle.mbqi_terms.specs.declared.formula.Formula.TheVariants as formula
use Rattle.mbqi_terms.specs.declared.formula.Formula.TheVariants.{rolls-Any}
use denote.Hole.Carrier.{hidden}
use Rattle.mbqi_terms.specs.declared.script.Function.{Function}
use Rattle.mbqi_terms.specs.declared.script.Script.{Script}
use Rattle.mbqi_terms.specs.declared.sort.Binder.{Binder}
use Rattle.mbqi_terms.specs.declared.term.Term.{Term}
use Rattle.function_model.specs.Fits.{Fits}
use Rattle.function_model.specs.Holds.{ForAll, HoldsAt}
use Rattle.mbqi_terms.specs.Meanings.{Meanings, truth_layer, truth_of}
use Rattle.function_model.specs.ValueOf.{Point, value_of}
use Rattle.function_model.specs.declared.model.FunctionModel.{FunctionModel}
use Rattle.function_model.proofs.HoldsLaws.{SomeOf, holds_any}
use Rattle.element_atoms.specs.Profile.{IsLiteral, IsClause}
use Rattle.mbqi_loop.proofs.Atoms.{IsTruth, atom_value}
use Rattle.mbqi_values.specs.Value.{is_true}

-- the values of terms in a model at a point; no array equality is read
abbrev pub values_at : FunctionModel → Point → Meanings
values_at model p = record { value = λ t. value_of model t p; same = λ a b. false }

pub truth_atom : (m : Meanings) (t : Term) → truth_of m (formula.Atom t) ≡ is_true (m.value t)
truth_atom m t = search (rules, formulas.the_lemmas)

pub truth_not : (m : Meanings) (t : Term) → truth_of m (formula.Not (formula.Atom t)) ≡ not (is_true (m.value t))
truth_not m t = search (rules, formulas.the_lemmas)

pub truth_any : (m : Meanings) (fs : List Formula) → truth_of m (formula.Any fs) ≡ list_any (λ f. f) (map (truth_of m) fs)
truth_any m fs = ap (truth_of m) (sym (rolls-Any fs)) ∙ fold-roll-Formula Bool (truth_layer m) (Formula-F.Any fs)

holds_some : (gs : List Function) (m : FunctionModel) (p : Point) (fs : List Formula) → SomeOf (λ f. HoldsAt gs m true f p) fs
    → HoldsAt gs m true (formula.Any fs) p
holds_some gs m p fs some = subst (λ (X : Type 0). X) (sym (holds_any gs m p fs)) some

-- an atom that is true holds, and the negation of one that is false
of_true : (v : Value) → is_true v ≡ true → v ≡ Truth true
of_true (Truth true) h = refl
of_true (Truth false) h = cc
of_true (Num n) h = cc
of_true (Elem e) h = cc

of_false : (v : Value) → IsTruth v → not (is_true v) ≡ true → v ≡ Truth false
of_false (Truth true) is h = cc
of_false (Truth false) is h = refl
of_false (Num n) is h = let e : Num n ≡ Truth is.0 = is.1 in cc
of_false (Elem n) is h = let e : Elem n ≡ Truth is.0 = is.1 in cc

holds_atom : (gs : List Function) (m : FunctionModel) (p : Point) (t : Term) → value_of m t p ≡ Truth true → HoldsAt gs m true (formula.Atom t) p
unfolding HoldsAt
holds_atom gs m p t h = h

holds_not : (gs : List Function) (m : FunctionModel) (p : Point) (t : Term) → value_of m t p ≡ Truth false
    → HoldsAt gs m true (formula.Not (formula.Atom t)) p
unfolding HoldsAt hidden-the_row-Formula-0 hidden hidden-the_row-Formula-1
holds_not gs m p t h = h

pub holds_for_all : (gs : List Function) (m : FunctionModel) (p : Point) (bs : List Binder) (f : Formula)
    → ForAll m.sizes bs p (HoldsAt gs m true f) → HoldsAt gs m true (formula.Forall bs f) p
unfolding HoldsAt hidden-the_row-Formula-0 hidden hidden-the_row-Formula-1
holds_for_all gs m p bs f h = h

which : {P : Type 0} (a b : Bool) → (a || b) ≡ true → (a ≡ true → P) → (b ≡ true → P) → P
which true b h f g = f refl
which false b h f g = g h

module _ (script : Script) (m : FunctionModel) (fits : Fits script m) (p : Point) (IsArg : Term → Type 0) where
  abbrev HoldsHere : Formula → Type 0
  HoldsHere f = HoldsAt script.functions m true f p

  literal_holds : (f : Formula) → IsLiteral script.functions IsArg f → truth_of (values_at m p) f ≡ true → HoldsHere f
  literal_holds f is h = elim is.2 [
    | inl e ↦ subst HoldsHere (sym e) (holds_atom script.functions m p is.0
        (of_true (value_of m is.0 p) (sym (truth_atom (values_at m p) is.0) ∙ (sym (ap (truth_of (values_at m p)) e) ∙ h))))
    | inr e ↦ subst HoldsHere (sym e) (holds_not script.functions m p is.0
        (of_false (value_of m is.0 p) (atom_value script m p IsArg is.0 fits is.1)
        (sym (truth_not (values_at m p) is.0) ∙ (sym (ap (truth_of (values_at m p)) e) ∙ h))))
  ]

  some_literal_holds : (fs : List Formula) → All (IsLiteral script.functions IsArg) fs
      → list_any (λ f. f) (map (truth_of (values_at m p)) fs) ≡ true → SomeOf HoldsHere fs
  some_literal_holds [] all h = cc
  some_literal_holds (f ∷ fs) all h =
      which (truth_of (values_at m p) f) (list_any (λ g. g) (map (truth_of (values_at m p)) fs)) h
      (λ e. inl (literal_holds f (All-head (IsLiteral script.functions IsArg) f fs all) e))
      (λ e. inr (some_literal_holds fs (All-tail (IsLiteral script.functions IsArg) f fs all) e))

  pub clause_holds : (f : Formula) → IsClause script.functions IsArg f → truth_of (values_at m p) f ≡ true → HoldsHere f
  clause_holds f (inl one) h = literal_holds f one h
  clause_holds f (inr any) h =
      subst HoldsHere (sym any.1) (holds_some script.functions m p any.0 (some_literal_holds any.0 any.2
      (sym (truth_any (values_at m p) any.0) ∙ (sym (ap (truth_of (values_at m p)) any.1) ∙ h))))
