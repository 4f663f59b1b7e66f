-- A matrix whose functions give values of their sorts holds where it is true, and fails where it is false.
use Rattle.std.proofs.Common.{◌≡◌, ℕ, Bool, true, false, true≢false, not, List, [], ◌∷◌, map, ◌⊎◌, inl, inr, ⊎_elim, refl, ap, sym, subst, ◌∙◌}
use Rattle.std.specs.Prelude.{All, if◌then◌else◌}
use Rattle.std.specs.List.{list_all, list_any}
use Rattle.std.specs.Ordering.{is_le}
use Rattle.std.proofs.lemmas.Bool.{and_cases, and_parts, cases_Bool, or_cases, or_parts}
use Rattle.std.proofs.lemmas.List.Elements.{All-head, All-tail}
use Rattle.mbqi_values.specs.Value.{is_same, is_true, rank_of}
use Rattle.mbqi_values.specs.declared.value.Value.{Value}
use Rattle.mbqi_values.specs.declared.value.Value.TheVariants.{Num, Elem, Truth}
use Rattle.mbqi_terms.specs.declared.formula.Formula.{Formula}
use Rattle.mbqi_terms.specs.declared.formula.Formula.TheBlock.{hidden-the_row-Formula-0, hidden-the_row-Formula-1}
use Rattle.mbqi_terms.specs.declared.formula.Formula.TheVariants as formula
use denote.Hole.Carrier.{hidden}
use Rattle.mbqi_terms.specs.declared.script.Function.{Function}
use Rattle.mbqi_terms.specs.declared.sort.Binder.{Binder}
use Rattle.mbqi_terms.specs.declared.sort.Plain.{Plain}
use Rattle.mbqi_terms.specs.declared.sort.Plain.TheVariants as plain
use Rattle.mbqi_terms.specs.declared.sort.Sort.{Sort}
use Rattle.mbqi_terms.specs.declared.sort.Sort.TheVariants as sort
use Rattle.mbqi_terms.specs.declared.term.ArrayTerm.{ArrayTerm, out-ArrayTerm}
use Rattle.mbqi_terms.specs.declared.term.ArrayTerm.TheOpen.{ArrayTerm-F}
use Rattle.mbqi_terms.specs.declared.term.ArrayTerm.TheVariants as array
use Rattle.mbqi_terms.specs.declared.term.ArrayTerm.TheViews.{out-roll-ArrayTerm}
use Rattle.mbqi_terms.specs.declared.term.MapOp.{MapOp}
use Rattle.mbqi_terms.specs.declared.term.Term.{Term}
use Rattle.mbqi_terms.specs.declared.term.Term.TheVariants as term
use Rattle.mbqi_terms.specs.HasSort.{AreMatrices, HasSortIn, IsArrayIn, IsIndexSort, IsMatrix, Setting}
use Rattle.mbqi_terms.specs.Meanings.{truth_of}
use Rattle.mbqi_terms.specs.Sort.{plain_sort}
use Rattle.function_model.specs.Evaluable.{IsEvaluable, IsEvaluableFormula}
use Rattle.function_model.specs.Fits.{values_of}
use Rattle.function_model.specs.Holds.{HoldsAt, IsOf}
use Rattle.function_model.specs.Points.{values_at}
use Rattle.function_model.specs.Sound.{GivesSorts}
use Rattle.function_model.specs.ValueOf.{Point, is_compound, is_compound_layer, value_of}
use Rattle.function_model.specs.declared.model.FunctionModel.{FunctionModel}
use Rattle.function_model.proofs.FormulaTruths.{all_parts, any_parts, atom_part, choose_parts, iff_parts, no_arrays, not_part, truth_all, truth_any, truth_at_most, truth_atom, truth_choose, truth_equal, truth_iff, truth_not, truth_truth}
use Rattle.function_model.proofs.HoldsLaws.{EachOf, SomeOf, fails_all, fails_any, holds_all, holds_any}
use Rattle.function_model.proofs.TermParts.{no_default, read_level}
use Rattle.function_model.proofs.Values.{read_name, value_apply, value_read, value_skolem, value_truth}

-- a value of sort Bool is a truth
abbrev IsTruth : Value → Type 0
IsTruth v = (b : Bool) × (v ≡ Truth b)

of_truth : (sizes : List ℕ) (v : Value) → IsOf sizes sort.Truth v → IsTruth v
of_truth sizes (Num n) is = absurd is
of_truth sizes (Elem e) is = absurd is
of_truth sizes (Truth t) is = (t, refl)

of_sort : (sizes : List ℕ) (s : Sort) (v : Value) → s ≡ sort.Truth → IsOf sizes s v → IsTruth v
of_sort sizes s v e is = of_truth sizes v (subst (λ own. IsOf sizes own v) e is)

same_truth : (v : Value) (b : Bool) → IsTruth v → is_true v ≡ b → v ≡ Truth b
same_truth v b is e = is.1 ∙ ap Truth (sym (ap is_true is.1) ∙ e)

compound_store : (a : ArrayTerm) (t v : Term) → is_compound (array.Store a t v) ≡ true
compound_store a t v = ap is_compound_layer (ap out-ArrayTerm (sym (array.rolls-Store a t v)) ∙ out-roll-ArrayTerm (ArrayTerm-F.Store a t v))

compound_constant : (s : Sort) (v : Term) → is_compound (array.Const s v) ≡ true
compound_constant s v = ap is_compound_layer (ap out-ArrayTerm (sym (array.rolls-Const s v)) ∙ out-roll-ArrayTerm (ArrayTerm-F.Const s v))

compound_map : (f : MapOp) (parts : List ArrayTerm) → is_compound (array.Map f parts) ≡ true
compound_map f parts = ap is_compound_layer (ap out-ArrayTerm (sym (array.rolls-Map f parts)) ∙ out-roll-ArrayTerm (ArrayTerm-F.Map f parts))

module _ (m : FunctionModel) (p : Point) (g : Setting) (scope : List Binder) (sorts : GivesSorts g.lists m) where
  read_truth : (a : ArrayTerm) (i e : Plain) → IsArrayIn g scope a i e → e ≡ plain.Truth → is_compound a ≡ false → (t : Term) → IsTruth (value_of m (term.Read a t) p)
  read_truth a i e (IsArrayIn.name f j d declared) same name t =
      let gives : values_of declared.function.result ≡ sort.Truth = ap values_of declared.gives ∙ ap plain_sort same in
      let value = value_read m p (array.Name f) t ∙ read_name m p f (value_of m t p) in
      subst IsTruth (sym value) (of_sort m.sizes _ _ gives (sorts.functions f declared.function declared.there (value_of m t p ∷ [])))
  read_truth a i e (IsArrayIn.store b u v j d inner index place stored varies) same name t = absurd (true≢false (sym (compound_store b u v) ∙ name))
  read_truth a i e (IsArrayIn.constant v j d index element value varies) same name t = absurd (true≢false (sym (compound_constant (sort.Array j d) v) ∙ name))
  read_truth a i e (IsArrayIn.pointwise f b arrays j d ds takes inner varies) same name t = absurd (true≢false (sym (compound_map f (b ∷ arrays)) ∙ name))

  term_truth : (t : Term) (s : Plain) → HasSortIn g scope t s → s ≡ plain.Truth → IsEvaluable t → IsTruth (value_of m t p)
  term_truth t s (HasSortIn.number n numeral) same is = cc
  term_truth t s (HasSortIn.sum u n int base other offset) same is = cc
  term_truth t s (HasSortIn.variable place r index there) same is = absurd (subst (IsIndexSort g.sorts) same index)
  term_truth t s (HasSortIn.truth b) same is = (b, value_truth m p b)
  term_truth t s (HasSortIn.application f ts args r declared have) same is =
      let gives : values_of declared.function.result ≡ sort.Truth = ap values_of (declared.gives ∙ ap plain_sort same) in
      subst IsTruth (sym (value_apply m p f ts)) (of_sort m.sizes _ _ gives (sorts.functions f declared.function declared.there (map (λ u. value_of m u p) ts)))
  term_truth t s (HasSortIn.skolem assertion place ts args r hidden declared have) same is =
      let gives : declared.skolem.result ≡ sort.Truth = declared.gives ∙ ap plain_sort same in
      subst IsTruth (sym (value_skolem m p assertion place ts))
      (of_sort m.sizes _ _ gives (sorts.skolems assertion place declared.skolem declared.there (map (λ u. value_of m u p) ts)))
  term_truth t s (HasSortIn.seed r hidden below) same is = cc
  term_truth t s (HasSortIn.far hidden) same is = cc
  term_truth t s (HasSortIn.differing a b i e hidden index left right) same is = absurd (subst (IsIndexSort g.sorts) same index)
  term_truth t s (HasSortIn.reading a u i e inside index at) same is = read_truth a i e inside same (read_level (term.Read a u) u a refl is) u
  term_truth t s (HasSortIn.last a e inside plainly) same is = absurd (no_default (term.Default a) a refl is)

not_is : (x b : Bool) → not x ≡ b → x ≡ not b
not_is true true e = absurd (true≢false (sym e))
not_is true false e = refl
not_is false true e = refl
not_is false false e = absurd (true≢false e)

module _ (gs : List Function) (m : FunctionModel) (p : Point) where
  abbrev Holds : Bool → Formula → Type 0
  Holds b f = HoldsAt gs m b f p

  abbrev truth : Formula → Bool
  truth f = truth_of (values_at m p) f

  -- one step of the definition
  truth_step : (t b : Bool) → t ≡ b → Holds b (formula.Truth t)
  unfolding HoldsAt
  truth_step t b e = e

  atom_step : (t : Term) (b : Bool) → value_of m t p ≡ Truth b → Holds b (formula.Atom t)
  unfolding HoldsAt
  atom_step t b e = e

  equal_step : (s t : Term) (b : Bool) → is_same (value_of m s p) (value_of m t p) ≡ b → Holds b (formula.Equal s t)
  unfolding HoldsAt
  equal_step s t b e = e

  at_most_step : (s t : Term) (b : Bool) → is_le (rank_of (value_of m s p) (value_of m t p)) ≡ b → Holds b (formula.AtMost s t)
  unfolding HoldsAt
  at_most_step s t b e = e

  not_step : (f : Formula) (b : Bool) → Holds (not b) f → Holds b (formula.Not f)
  unfolding HoldsAt hidden-the_row-Formula-0 hidden hidden-the_row-Formula-1
  not_step f b h = h

  iff_step : (f h : Formula) (b : Bool) → (Holds true f × Holds b h) ⊎ (Holds false f × Holds (not b) h) → Holds b (formula.Iff f h)
  unfolding HoldsAt hidden-the_row-Formula-0 hidden hidden-the_row-Formula-1
  iff_step f h b holds = holds

  choose_step : (c f h : Formula) (b : Bool) → (Holds true c × Holds b f) ⊎ (Holds false c × Holds b h) → Holds b (formula.Choose c f h)
  unfolding HoldsAt hidden-the_row-Formula-0 hidden hidden-the_row-Formula-1
  choose_step c f h b holds = holds

  all_step : (fs : List Formula) (b : Bool) → (b ≡ true → EachOf (Holds true) fs) → (b ≡ false → SomeOf (Holds false) fs) → Holds b (formula.All fs)
  all_step fs true each some = subst (λ (X : Type 0). X) (sym (holds_all gs m p fs)) (each refl)
  all_step fs false each some = subst (λ (X : Type 0). X) (sym (fails_all gs m p fs)) (some refl)

  any_step : (fs : List Formula) (b : Bool) → (b ≡ true → SomeOf (Holds true) fs) → (b ≡ false → EachOf (Holds false) fs) → Holds b (formula.Any fs)
  any_step fs true some each = subst (λ (X : Type 0). X) (sym (holds_any gs m p fs)) (some refl)
  any_step fs false some each = subst (λ (X : Type 0). X) (sym (fails_any gs m p fs)) (each refl)

  module _ (g : Setting) (scope : List Binder) (sorts : GivesSorts g.lists m) where
    mutual
      pub matrix_holds : (f : Formula) → IsMatrix g scope f → IsEvaluableFormula f → (b : Bool) → truth f ≡ b → Holds b f
      matrix_holds f (IsMatrix.truth t) is b e = truth_step t b (sym (truth_truth (values_at m p) t) ∙ e)
      matrix_holds f (IsMatrix.atom t atom) is b e =
          atom_step t b (same_truth (value_of m t p) b (term_truth m p g scope sorts t plain.Truth atom.sort refl (atom_part t is)) (sym (truth_atom (values_at m p) t) ∙ e))
      matrix_holds f (IsMatrix.equal s t r index left right) is b e = equal_step s t b (sym (truth_equal (values_at m p) s t) ∙ e)
      matrix_holds f (IsMatrix.at_most s t left right) is b e = at_most_step s t b (sym (truth_at_most (values_at m p) s t) ∙ e)
      matrix_holds f (IsMatrix.same s t i r left right) is b e = absurd (no_arrays s t is)
      matrix_holds f (IsMatrix.negation h matrix) is b e =
          not_step h b (matrix_holds h matrix (not_part h is) (not b) (not_is (truth h) b (sym (truth_not (values_at m p) h) ∙ e)))
      matrix_holds f (IsMatrix.conjunction h k hs matrices) is b e =
          let own = sym (truth_all (values_at m p) (h ∷ k ∷ hs)) ∙ e in
          let parts = all_parts (h ∷ k ∷ hs) is in
          all_step (h ∷ k ∷ hs) b (λ same. each_true (h ∷ k ∷ hs) matrices parts (own ∙ same)) (λ same. some_false (h ∷ k ∷ hs) matrices parts (own ∙ same))
      matrix_holds f (IsMatrix.disjunction h k hs matrices) is b e =
          let own = sym (truth_any (values_at m p) (h ∷ k ∷ hs)) ∙ e in
          let parts = any_parts (h ∷ k ∷ hs) is in
          any_step (h ∷ k ∷ hs) b (λ same. some_true (h ∷ k ∷ hs) matrices parts (own ∙ same)) (λ same. each_false (h ∷ k ∷ hs) matrices parts (own ∙ same))
      matrix_holds f (IsMatrix.equivalence h k left right) is b e =
          let own = sym (truth_iff (values_at m p) h k) ∙ e in
          let parts = iff_parts h k is in
          iff_step h k b (⊎_elim
          (λ passed. inl (matrix_holds h left parts.0 true passed, matrix_holds k right parts.1 b (sym (ap (λ x. if x then truth k else not (truth k)) passed) ∙ own)))
          (λ failed. inr (matrix_holds h left parts.0 false failed, matrix_holds k right parts.1 (not b) (not_is (truth k) b (sym (ap (λ x. if x then truth k else not (truth k)) failed) ∙ own))))
          (cases_Bool (truth h)))
      matrix_holds f (IsMatrix.choice c h k condition left right) is b e =
          let own = sym (truth_choose (values_at m p) c h k) ∙ e in
          let parts = choose_parts c h k is in
          choose_step c h k b (⊎_elim
          (λ passed. inl (matrix_holds c condition parts.0 true passed, matrix_holds h left parts.1 b (sym (ap (λ x. if x then truth h else truth k) passed) ∙ own)))
          (λ failed. inr (matrix_holds c condition parts.0 false failed, matrix_holds k right parts.2 b (sym (ap (λ x. if x then truth h else truth k) failed) ∙ own)))
          (cases_Bool (truth c)))

      each_true : (fs : List Formula) → AreMatrices g scope fs → All IsEvaluableFormula fs → list_all truth fs ≡ true → EachOf (Holds true) fs
      each_true fs AreMatrices.no_matrices is e = tt
      each_true fs (AreMatrices.more_matrices f rest matrix matrices) is e =
          let both = and_parts (truth f) (list_all truth rest) e in (
            matrix_holds f matrix (All-head IsEvaluableFormula f rest is) true both.0,
            each_true rest matrices (All-tail IsEvaluableFormula f rest is) both.1,
          )

      some_false : (fs : List Formula) → AreMatrices g scope fs → All IsEvaluableFormula fs → list_all truth fs ≡ false → SomeOf (Holds false) fs
      some_false fs AreMatrices.no_matrices is e = absurd (true≢false e)
      some_false fs (AreMatrices.more_matrices f rest matrix matrices) is e =
          ⊎_elim
          (λ here. inl (matrix_holds f matrix (All-head IsEvaluableFormula f rest is) false here))
          (λ there. inr (some_false rest matrices (All-tail IsEvaluableFormula f rest is) there))
          (and_cases (truth f) (list_all truth rest) e)

      some_true : (fs : List Formula) → AreMatrices g scope fs → All IsEvaluableFormula fs → list_any truth fs ≡ true → SomeOf (Holds true) fs
      some_true fs AreMatrices.no_matrices is e = absurd (true≢false (sym e))
      some_true fs (AreMatrices.more_matrices f rest matrix matrices) is e =
          ⊎_elim
          (λ here. inl (matrix_holds f matrix (All-head IsEvaluableFormula f rest is) true here))
          (λ there. inr (some_true rest matrices (All-tail IsEvaluableFormula f rest is) there))
          (or_cases (truth f) (list_any truth rest) e)

      each_false : (fs : List Formula) → AreMatrices g scope fs → All IsEvaluableFormula fs → list_any truth fs ≡ false → EachOf (Holds false) fs
      each_false fs AreMatrices.no_matrices is e = tt
      each_false fs (AreMatrices.more_matrices f rest matrix matrices) is e =
          let both = or_parts (truth f) (list_any truth rest) e in (
            matrix_holds f matrix (All-head IsEvaluableFormula f rest is) false both.0,
            each_false rest matrices (All-tail IsEvaluableFormula f rest is) both.1,
          )
