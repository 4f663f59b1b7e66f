-- Moving the variables of each kind of formula, by moving those of its parts.
use Rattle.std.proofs.Common.{◌≡◌, ℕ, Bool, List, map, rules}
use Rattle.mbqi_terms.specs.declared.formula.Formula.{Formula}
use Rattle.mbqi_terms.specs.declared.formula.Formula as formulas
use Rattle.mbqi_terms.specs.declared.formula.Formula.TheBlock.{hidden-the_row-Formula-0}
use Rattle.mbqi_terms.specs.declared.formula.Formula.TheVariants as formula
use Rattle.mbqi_terms.specs.declared.sort.Binder.{Binder}
use Rattle.mbqi_terms.specs.declared.term.ArrayTerm.{ArrayTerm}
use Rattle.mbqi_terms.specs.declared.term.Term.{Term}
use denote.Hole.Carrier.{hidden}
use Rattle.smtlib_terms.specs.Meaning.{shifted_binder, shifted_formula, shifted_term}

pub moved-Truth : (from by : ℕ) (b : Bool) → shifted_formula from by (formula.Truth b) ≡ formula.Truth b
unfolding shifted_formula hidden-the_row-Formula-0 hidden
moved-Truth from by b = search (rules, formulas.the_lemmas)

pub moved-Atom : (from by : ℕ) (t : Term) → shifted_formula from by (formula.Atom t) ≡ formula.Atom (shifted_term from by t)
unfolding shifted_formula hidden-the_row-Formula-0 hidden
moved-Atom from by t = search (rules, formulas.the_lemmas)

pub moved-Equal : (from by : ℕ) (s t : Term) → shifted_formula from by (formula.Equal s t) ≡ formula.Equal (shifted_term from by s) (shifted_term from by t)
unfolding shifted_formula hidden-the_row-Formula-0 hidden
moved-Equal from by s t = search (rules, formulas.the_lemmas)

pub moved-AtMost : (from by : ℕ) (s t : Term) → shifted_formula from by (formula.AtMost s t) ≡ formula.AtMost (shifted_term from by s) (shifted_term from by t)
unfolding shifted_formula hidden-the_row-Formula-0 hidden
moved-AtMost from by s t = search (rules, formulas.the_lemmas)

pub moved-SameArray : (from by : ℕ) (a b : ArrayTerm) → shifted_formula from by (formula.SameArray a b) ≡ formula.SameArray a b
unfolding shifted_formula hidden-the_row-Formula-0 hidden
moved-SameArray from by a b = search (rules, formulas.the_lemmas)

pub moved-Not : (from by : ℕ) (f : Formula) → shifted_formula from by (formula.Not f) ≡ formula.Not (shifted_formula from by f)
unfolding shifted_formula hidden-the_row-Formula-0 hidden
moved-Not from by f = search (rules, formulas.the_lemmas)

pub moved-All : (from by : ℕ) (fs : List Formula) → shifted_formula from by (formula.All fs) ≡ formula.All (map (shifted_formula from by) fs)
unfolding shifted_formula hidden-the_row-Formula-0 hidden
moved-All from by fs = search (rules, formulas.the_lemmas)

pub moved-Any : (from by : ℕ) (fs : List Formula) → shifted_formula from by (formula.Any fs) ≡ formula.Any (map (shifted_formula from by) fs)
unfolding shifted_formula hidden-the_row-Formula-0 hidden
moved-Any from by fs = search (rules, formulas.the_lemmas)

pub moved-Iff : (from by : ℕ) (f g : Formula) → shifted_formula from by (formula.Iff f g) ≡ formula.Iff (shifted_formula from by f) (shifted_formula from by g)
unfolding shifted_formula hidden-the_row-Formula-0 hidden
moved-Iff from by f g = search (rules, formulas.the_lemmas)

pub moved-Choose : (from by : ℕ) (c f g : Formula) → shifted_formula from by (formula.Choose c f g) ≡ formula.Choose (shifted_formula from by c) (shifted_formula from by f) (shifted_formula from by g)
unfolding shifted_formula hidden-the_row-Formula-0 hidden
moved-Choose from by c f g = search (rules, formulas.the_lemmas)

pub moved-Forall : (from by : ℕ) (bs : List Binder) (f : Formula) → shifted_formula from by (formula.Forall bs f) ≡ formula.Forall (map (shifted_binder from by) bs) (shifted_formula from by f)
unfolding shifted_formula hidden-the_row-Formula-0 hidden
moved-Forall from by bs f = search (rules, formulas.the_lemmas)

pub moved-Exists : (from by : ℕ) (bs : List Binder) (f : Formula) → shifted_formula from by (formula.Exists bs f) ≡ formula.Exists (map (shifted_binder from by) bs) (shifted_formula from by f)
unfolding shifted_formula hidden-the_row-Formula-0 hidden
moved-Exists from by bs f = search (rules, formulas.the_lemmas)

pub ruleset formula_laws = (moved-Truth, moved-Atom, moved-Equal, moved-AtMost, moved-SameArray, moved-Not, moved-All, moved-Any, moved-Iff, moved-Choose, moved-Forall, moved-Exists)
