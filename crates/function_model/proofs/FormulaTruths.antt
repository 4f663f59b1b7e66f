-- The truth of each kind of formula, by those of its parts, and what its parts are where it has its truth from tables alone.
use Rattle.std.proofs.Common.{◌≡◌, Bool, not, ◌&&◌, ◌||◌, List, [], ◌∷◌, map, if◌then◌else◌, refl, ap, sym, ◌∙◌, rules}
use Rattle.std.specs.Prelude.{All}
use Rattle.std.specs.List.{list_all, list_any}
use Rattle.std.specs.Ordering.{is_le}
use Rattle.std.proofs.lemmas.List.Elements.{All-cons, All-nil}
use Rattle.mbqi_values.specs.Value.{is_same, is_true, rank_of}
use Rattle.mbqi_terms.specs.declared.formula.Formula as formulas
use Rattle.mbqi_terms.specs.declared.formula.Formula.{Formula}
use Rattle.mbqi_terms.specs.declared.formula.Formula.TheBlock.{hidden-the_row-Formula-0, hidden-the_row-Formula-1}
use Rattle.mbqi_terms.specs.declared.formula.Formula.TheFolds.{fold-roll-Formula}
use Rattle.mbqi_terms.specs.declared.formula.Formula.TheOpen.{Formula-F}
use Rattle.mbqi_terms.specs.declared.formula.Formula.TheVariants as formula
use denote.Hole.Carrier.{hidden}
use Rattle.mbqi_terms.specs.declared.sort.Binder.{Binder}
use Rattle.mbqi_terms.specs.declared.term.ArrayTerm.{ArrayTerm}
use Rattle.mbqi_terms.specs.declared.term.Term.{Term}
use Rattle.mbqi_terms.specs.Meanings.{Meanings, truth_layer, truth_of}
use Rattle.function_model.specs.Evaluable.{AreEvaluableFormulas, IsEvaluable, IsEvaluableFormula}

module _ (m : Meanings) where
  pub truth_truth : (b : Bool) → truth_of m (formula.Truth b) ≡ b
  truth_truth b = search (rules, formulas.the_lemmas)

  pub truth_atom : (t : Term) → truth_of m (formula.Atom t) ≡ is_true (m.value t)
  truth_atom t = search (rules, formulas.the_lemmas)

  pub truth_equal : (s t : Term) → truth_of m (formula.Equal s t) ≡ is_same (m.value s) (m.value t)
  truth_equal s t = search (rules, formulas.the_lemmas)

  pub truth_at_most : (s t : Term) → truth_of m (formula.AtMost s t) ≡ is_le (rank_of (m.value s) (m.value t))
  truth_at_most s t = search (rules, formulas.the_lemmas)

  pub truth_not : (f : Formula) → truth_of m (formula.Not f) ≡ not (truth_of m f)
  truth_not f = search (rules, formulas.the_lemmas)

  pub truth_iff : (f g : Formula) → truth_of m (formula.Iff f g) ≡ (if truth_of m f then truth_of m g else not (truth_of m g))
  truth_iff f g = search (rules, formulas.the_lemmas)

  pub truth_choose : (c f g : Formula) → truth_of m (formula.Choose c f g) ≡ (if truth_of m c then truth_of m f else truth_of m g)
  truth_choose c f g = search (rules, formulas.the_lemmas)

  all_in_map : (fs : List Formula) → list_all (λ f. f) (map (truth_of m) fs) ≡ list_all (truth_of m) fs
  all_in_map [] = refl
  all_in_map (f ∷ fs) = ap (λ rest. truth_of m f && rest) (all_in_map fs)

  any_in_map : (fs : List Formula) → list_any (λ f. f) (map (truth_of m) fs) ≡ list_any (truth_of m) fs
  any_in_map [] = refl
  any_in_map (f ∷ fs) = ap (λ rest. truth_of m f || rest) (any_in_map fs)

  pub truth_all : (fs : List Formula) → truth_of m (formula.All fs) ≡ list_all (truth_of m) fs
  truth_all fs = ap (truth_of m) (sym (formula.rolls-All fs)) ∙ (fold-roll-Formula Bool (truth_layer m) (Formula-F.All fs) ∙ all_in_map fs)

  pub truth_any : (fs : List Formula) → truth_of m (formula.Any fs) ≡ list_any (truth_of m) fs
  truth_any fs = ap (truth_of m) (sym (formula.rolls-Any fs)) ∙ (fold-roll-Formula Bool (truth_layer m) (Formula-F.Any fs) ∙ any_in_map fs)

-- the parts
pub atom_part : (t : Term) → IsEvaluableFormula (formula.Atom t) → IsEvaluable t
unfolding IsEvaluableFormula
atom_part t is = is

pub equal_parts : (s t : Term) → IsEvaluableFormula (formula.Equal s t) → IsEvaluable s × IsEvaluable t
unfolding IsEvaluableFormula
equal_parts s t is = is

pub at_most_parts : (s t : Term) → IsEvaluableFormula (formula.AtMost s t) → IsEvaluable s × IsEvaluable t
unfolding IsEvaluableFormula
at_most_parts s t is = is

pub no_arrays : (a b : ArrayTerm) → IsEvaluableFormula (formula.SameArray a b) → ⊥
unfolding IsEvaluableFormula
no_arrays a b is = is

pub not_part : (f : Formula) → IsEvaluableFormula (formula.Not f) → IsEvaluableFormula f
unfolding IsEvaluableFormula hidden-the_row-Formula-0 hidden hidden-the_row-Formula-1
not_part f is = is

pub iff_parts : (f g : Formula) → IsEvaluableFormula (formula.Iff f g) → IsEvaluableFormula f × IsEvaluableFormula g
unfolding IsEvaluableFormula hidden-the_row-Formula-0 hidden hidden-the_row-Formula-1
iff_parts f g is = is

pub choose_parts : (c f g : Formula) → IsEvaluableFormula (formula.Choose c f g) → IsEvaluableFormula c × IsEvaluableFormula f × IsEvaluableFormula g
unfolding IsEvaluableFormula hidden-the_row-Formula-0 hidden hidden-the_row-Formula-1
choose_parts c f g is = is

pub no_forall : (bs : List Binder) (f : Formula) → IsEvaluableFormula (formula.Forall bs f) → ⊥
unfolding IsEvaluableFormula hidden-the_row-Formula-0 hidden hidden-the_row-Formula-1
no_forall bs f is = is

pub no_exists : (bs : List Binder) (f : Formula) → IsEvaluableFormula (formula.Exists bs f) → ⊥
unfolding IsEvaluableFormula hidden-the_row-Formula-0 hidden hidden-the_row-Formula-1
no_exists bs f is = is

abbrev parts_in : Formula → Type 0
parts_in (formula.All' n row) = AreEvaluableFormulas row
parts_in (formula.Any' n row) = AreEvaluableFormulas row
parts_in other = ⊥

listed_all : (fs : List Formula) → parts_in (formula.All fs) → All IsEvaluableFormula fs
unfolding IsEvaluableFormula hidden-the_row-Formula-0 hidden hidden-the_row-Formula-1
listed_all [] is = All-nil IsEvaluableFormula
listed_all (f ∷ fs) is = All-cons IsEvaluableFormula f fs is.0 (listed_all fs is.1)

listed_any : (fs : List Formula) → parts_in (formula.Any fs) → All IsEvaluableFormula fs
unfolding IsEvaluableFormula hidden-the_row-Formula-0 hidden hidden-the_row-Formula-1
listed_any [] is = All-nil IsEvaluableFormula
listed_any (f ∷ fs) is = All-cons IsEvaluableFormula f fs is.0 (listed_any fs is.1)

pub all_parts : (fs : List Formula) → IsEvaluableFormula (formula.All fs) → All IsEvaluableFormula fs
unfolding IsEvaluableFormula hidden-the_row-Formula-0 hidden hidden-the_row-Formula-1
all_parts fs is = listed_all fs is

pub any_parts : (fs : List Formula) → IsEvaluableFormula (formula.Any fs) → All IsEvaluableFormula fs
unfolding IsEvaluableFormula hidden-the_row-Formula-0 hidden hidden-the_row-Formula-1
any_parts fs is = listed_any fs is
