-- What terms are worth and which formulas are true under a valuation (SMT-LIB 2.6, theory Core).
use Rattle.std.specs.Prelude.{◌≡◌, Bool, false, not, List, [], ◌∷◌, length, if◌then◌else◌}
use Rattle.std.specs.List.{list_all, list_any}
use Rattle.std.specs.Ordering.{is_le}
use Rattle.mbqi_values.specs.Value.{is_same, is_true, rank_of}
use Rattle.mbqi_values.specs.declared.value.Value.{Value}
use Rattle.mbqi_values.specs.declared.value.Value.TheVariants.{Truth}
use Rattle.mbqi_terms.specs.declared.arrays.ArrayPair.{ArrayPair}
use Rattle.mbqi_terms.specs.declared.formula.Formula.{Formula}
use Rattle.mbqi_terms.specs.declared.formula.Formula.TheFolds.{fold-Formula}
use Rattle.mbqi_terms.specs.declared.formula.Formula.TheOpen.{Formula-F}
use Rattle.mbqi_terms.specs.declared.instance.Valuation.{Valuation}
use Rattle.mbqi_terms.specs.declared.term.ArrayTerm.{ArrayTerm}
use Rattle.mbqi_terms.specs.declared.term.Term.{Term}
use Rattle.mbqi_terms.specs.Distinct.{AreDistinct}
use Rattle.mbqi_terms.specs.SameTree.{same_pair, same_term}

-- What a valuation gives: a value for each term, and a truth for each pair of arrays.
pub record Meanings : Type 0 where
  pub value : Term → Value
  pub same : ArrayTerm → ArrayTerm → Bool

-- The truth of a formula whose parts have these truths (SMT-LIB 2.6, theory Core).
abbrev pub truth_layer : Meanings → Formula-F Bool → Bool
truth_layer m (Formula-F.Truth t) = t
truth_layer m (Formula-F.Atom t) = is_true (m.value t)
truth_layer m (Formula-F.Equal s t) = is_same (m.value s) (m.value t)
truth_layer m (Formula-F.AtMost s t) = is_le (rank_of (m.value s) (m.value t))
truth_layer m (Formula-F.SameArray a b) = m.same a b
truth_layer m (Formula-F.Not f) = not f
truth_layer m (Formula-F.All fs) = list_all (λ f. f) fs
truth_layer m (Formula-F.Any fs) = list_any (λ f. f) fs
truth_layer m (Formula-F.Iff f g) = if f then g else not g
truth_layer m (Formula-F.Choose c f g) = if c then f else g
truth_layer m (Formula-F.Forall binders f) = f
truth_layer m (Formula-F.Exists binders f) = f

-- The truth of a formula without quantifiers under a valuation.
abbrev pub truth_of : Meanings → Formula → Bool
truth_of m f = fold-Formula Bool (truth_layer m) f

-- What a list of terms with their values gives, and a list of pairs of arrays with their truths: each term and pair what stands at its own
-- place. What isn't there is false.
abbrev pub value_by : List Term → List Value → Term → Value
value_by [] values t = Truth false
value_by (u ∷ terms) [] t = Truth false
value_by (u ∷ terms) (v ∷ values) t = if same_term u t then v else value_by terms values t

abbrev pub same_by : List ArrayPair → List Bool → ArrayPair → Bool
same_by [] truths pair = false
same_by (p ∷ pairs) [] pair = false
same_by (p ∷ pairs) (truth ∷ truths) pair = if same_pair p pair then truth else same_by pairs truths pair

abbrev pub meanings_of : Valuation → Meanings
meanings_of v = record {
  value = λ t. value_by v.terms v.values t;
  same = λ a b. same_by v.pairs v.same (record { left = a; right = b });
}

-- Each term and each pair has its own value or truth, and none stands twice.
pub record IsValuation (v : Valuation) : Type 0 where
  pub values : length v.values ≡ length v.terms
  pub truths : length v.same ≡ length v.pairs
  pub terms_differ : AreDistinct v.terms
  pub pairs_differ : AreDistinct v.pairs
