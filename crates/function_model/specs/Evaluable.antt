-- Terms and formulas that have their values from tables alone (this project's own): their array terms are names, no default is named, no
-- arrays are compared, and each number that is added to another term is absolutely below 2 ^ 124.
use Rattle.std.specs.Prelude.{◌≡◌, Bool, true, false, not, ◌&&◌, ⊤, ℤ}
use Rattle.std.specs.List.{list_all}
use Rattle.mbqi_values.specs.Sum.{IsBelow}
use Rattle.mbqi_terms.specs.declared.formula.Formula.{Formula, Row_of-Formula, end_of-Formula, more_of-Formula}
use Rattle.mbqi_terms.specs.declared.formula.Formula.TheVariants.{Atom, Equal, AtMost, SameArray, Not', All', Any', Iff', Choose', Forall', Exists'}
use Rattle.mbqi_terms.specs.declared.formula.Formula.TheFolds.{fold-Formula}
use Rattle.mbqi_terms.specs.declared.formula.Formula.TheOpen.{Formula-F}
use Rattle.mbqi_terms.specs.declared.formula.Formula.TheVariants as formula
use Rattle.mbqi_terms.specs.declared.term.ArrayTerm.TheFolds.{fold-Term}
use Rattle.mbqi_terms.specs.declared.term.ArrayTerm.TheOpen.{Term-F}
use Rattle.mbqi_terms.specs.declared.term.Term.{Term, out-Term}
use Rattle.mbqi_terms.specs.HasSort.{Setting}
use Rattle.mbqi_terms.specs.Tree.{IsBase, IsPart, Layer}
use Rattle.function_model.specs.ValueOf.{is_compound, is_compound_layer}

-- One level of such a term.
abbrev pub IsEvaluableLayer : Layer → Type 0
IsEvaluableLayer (Term-F.Num n) = Unit {0}
IsEvaluableLayer (Term-F.Plus t n) = IsBase (out-Term t) × IsBelow n 124
IsEvaluableLayer (Term-F.Var place) = Unit {0}
IsEvaluableLayer (Term-F.Truth b) = Unit {0}
IsEvaluableLayer (Term-F.Apply f ts) = Unit {0}
IsEvaluableLayer (Term-F.Read a i) = is_compound a ≡ false
IsEvaluableLayer (Term-F.Default a) = ⊥

-- Each part of the term is so.
abbrev pub IsEvaluable : Term → Type 0
IsEvaluable t = (part : Term) → IsPart part t → IsEvaluableLayer (out-Term part)

-- A formula over such terms, without quantifiers and equalities of arrays.
unfoldable mutual
  pub IsEvaluableFormula : Formula → Type 0
  IsEvaluableFormula (formula.Truth b) = Unit {0}
  IsEvaluableFormula (Atom t) = IsEvaluable t
  IsEvaluableFormula (Equal s t) = IsEvaluable s × IsEvaluable t
  IsEvaluableFormula (AtMost s t) = IsEvaluable s × IsEvaluable t
  IsEvaluableFormula (SameArray a b) = ⊥
  IsEvaluableFormula (Not' u (more_of-Formula f end_of-Formula)) = IsEvaluableFormula f
  IsEvaluableFormula (All' n fs) = AreEvaluableFormulas fs
  IsEvaluableFormula (Any' n fs) = AreEvaluableFormulas fs
  IsEvaluableFormula (Iff' u (more_of-Formula f end_of-Formula) v (more_of-Formula g end_of-Formula)) = IsEvaluableFormula f × IsEvaluableFormula g
  IsEvaluableFormula (Choose' u (more_of-Formula c end_of-Formula) v (more_of-Formula f end_of-Formula) w (more_of-Formula g end_of-Formula)) =
      IsEvaluableFormula c × IsEvaluableFormula f × IsEvaluableFormula g
  IsEvaluableFormula (Forall' bs u f) = ⊥
  IsEvaluableFormula (Exists' bs u f) = ⊥

  -- Each of the formulas is.
  pub AreEvaluableFormulas : {n : _} → Row_of-Formula n → Type 0
  AreEvaluableFormulas end_of-Formula = Unit {0}
  AreEvaluableFormulas (more_of-Formula f fs) = IsEvaluableFormula f × AreEvaluableFormulas fs

-- Whether each array that a term reads is a name, and no default stands in it: a test on the tree, beside which form gives the rest.
abbrev pub layer_reads_names : Term-F Bool ⊤ Bool → Bool
layer_reads_names (Term-F.Num n) = true
layer_reads_names (Term-F.Plus t n) = t
layer_reads_names (Term-F.Var place) = true
layer_reads_names (Term-F.Truth b) = true
layer_reads_names (Term-F.Apply symbol args) = list_all (λ arg. arg) args
layer_reads_names (Term-F.Read compound i) = not compound && i
layer_reads_names (Term-F.Default compound) = false

unfoldable pub reads_names : Term → Bool
reads_names t = fold-Term Bool ⊤ Bool (λ layer. is_compound_layer layer) (λ symbol. tt) layer_reads_names t

-- Whether all terms of a formula do, no arrays are compared in it, and no quantifier stands in it.
abbrev pub formula_layer_reads_names : Formula-F Bool → Bool
formula_layer_reads_names (Formula-F.Truth b) = true
formula_layer_reads_names (Formula-F.Atom t) = reads_names t
formula_layer_reads_names (Formula-F.Equal s t) = reads_names s && reads_names t
formula_layer_reads_names (Formula-F.AtMost s t) = reads_names s && reads_names t
formula_layer_reads_names (Formula-F.SameArray a b) = false
formula_layer_reads_names (Formula-F.Not f) = f
formula_layer_reads_names (Formula-F.All fs) = list_all (λ f. f) fs
formula_layer_reads_names (Formula-F.Any fs) = list_all (λ f. f) fs
formula_layer_reads_names (Formula-F.Iff f g) = f && g
formula_layer_reads_names (Formula-F.Choose c f g) = c && (f && g)
formula_layer_reads_names (Formula-F.Forall binders f) = false
formula_layer_reads_names (Formula-F.Exists binders f) = false

unfoldable pub formula_reads_names : Formula → Bool
formula_reads_names f = fold-Formula Bool formula_layer_reads_names f

-- Each number that may be added to a term is absolutely below 2 ^ 124.
abbrev pub AddsSmall : Setting → Type 0
AddsSmall g = (n : ℤ) → g.offsets n ≡ true → IsBelow n 124
