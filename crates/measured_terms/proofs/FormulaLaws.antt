-- The measures of each kind of formula by those of its parts.
use Rattle.std.proofs.Common.{◌≡◌, ◌+◌, Bool, false, List, length, map, max, sum, refl, rules}
use Rattle.mbqi_terms.specs.declared.formula.Formula.{Formula}
use Rattle.mbqi_terms.specs.declared.formula.Formula as formulas
use Rattle.mbqi_terms.specs.declared.formula.Formula.TheBlock.{hidden-the_row-Formula-0}
use Rattle.mbqi_terms.specs.declared.formula.Formula.TheVariants as formula
use Rattle.mbqi_terms.specs.declared.sort.Binder.{Binder}
use Rattle.mbqi_terms.specs.declared.term.ArrayTerm.{ArrayTerm}
use Rattle.mbqi_terms.specs.declared.term.Term.{Term}
use denote.Hole.Carrier.{hidden}
use Rattle.measured_terms.specs.Measures.{atom_varies}
use Rattle.mbqi_terms.specs.Depth.{deepest, depth_of_array, depth_of_formula, depth_of_term}
use Rattle.mbqi_terms.specs.Binders.{variables_in}
use Rattle.mbqi_terms.specs.Varies.{varies_term}

pub depth-Truth : (b : Bool) → depth_of_formula (formula.Truth b) ≡ 1
unfolding depth_of_formula
depth-Truth b = search (rules, formulas.the_lemmas)

pub variables-Truth : (b : Bool) → variables_in (formula.Truth b) ≡ 0
unfolding variables_in
variables-Truth b = search (rules, formulas.the_lemmas)

pub atom_varies-Truth : (b : Bool) → atom_varies (formula.Truth b) ≡ false
unfolding atom_varies hidden-the_row-Formula-0 hidden
atom_varies-Truth b = refl

pub ruleset truth_laws = (depth-Truth, variables-Truth, atom_varies-Truth)

pub depth-Atom : (t : Term) → depth_of_formula (formula.Atom t) ≡ depth_of_term t
unfolding depth_of_formula
depth-Atom t = search (rules, formulas.the_lemmas)

pub variables-Atom : (t : Term) → variables_in (formula.Atom t) ≡ 0
unfolding variables_in
variables-Atom t = search (rules, formulas.the_lemmas)

pub atom_varies-Atom : (t : Term) → atom_varies (formula.Atom t) ≡ varies_term t
unfolding atom_varies hidden-the_row-Formula-0 hidden
atom_varies-Atom t = refl

pub ruleset atom_laws = (depth-Atom, variables-Atom, atom_varies-Atom)

pub depth-Equal : (s t : Term) → depth_of_formula (formula.Equal s t) ≡ max (depth_of_term s) (depth_of_term t) + 1
unfolding depth_of_formula
depth-Equal s t = search (rules, formulas.the_lemmas)

pub variables-Equal : (s t : Term) → variables_in (formula.Equal s t) ≡ 0
unfolding variables_in
variables-Equal s t = search (rules, formulas.the_lemmas)

pub atom_varies-Equal : (s t : Term) → atom_varies (formula.Equal s t) ≡ false
unfolding atom_varies hidden-the_row-Formula-0 hidden
atom_varies-Equal s t = refl

pub ruleset equal_laws = (depth-Equal, variables-Equal, atom_varies-Equal)

pub depth-AtMost : (s t : Term) → depth_of_formula (formula.AtMost s t) ≡ max (depth_of_term s) (depth_of_term t) + 1
unfolding depth_of_formula
depth-AtMost s t = search (rules, formulas.the_lemmas)

pub variables-AtMost : (s t : Term) → variables_in (formula.AtMost s t) ≡ 0
unfolding variables_in
variables-AtMost s t = search (rules, formulas.the_lemmas)

pub atom_varies-AtMost : (s t : Term) → atom_varies (formula.AtMost s t) ≡ false
unfolding atom_varies hidden-the_row-Formula-0 hidden
atom_varies-AtMost s t = refl

pub ruleset at_most_laws = (depth-AtMost, variables-AtMost, atom_varies-AtMost)

pub depth-SameArray : (a b : ArrayTerm) → depth_of_formula (formula.SameArray a b) ≡ max (depth_of_array a) (depth_of_array b) + 1
unfolding depth_of_formula
depth-SameArray a b = search (rules, formulas.the_lemmas)

pub variables-SameArray : (a b : ArrayTerm) → variables_in (formula.SameArray a b) ≡ 0
unfolding variables_in
variables-SameArray a b = search (rules, formulas.the_lemmas)

pub atom_varies-SameArray : (a b : ArrayTerm) → atom_varies (formula.SameArray a b) ≡ false
unfolding atom_varies hidden-the_row-Formula-0 hidden
atom_varies-SameArray a b = refl

pub ruleset same_array_laws = (depth-SameArray, variables-SameArray, atom_varies-SameArray)

pub depth-Not : (f : Formula) → depth_of_formula (formula.Not f) ≡ depth_of_formula f + 1
unfolding depth_of_formula
depth-Not f = search (rules, formulas.the_lemmas)

pub variables-Not : (f : Formula) → variables_in (formula.Not f) ≡ variables_in f
unfolding variables_in
variables-Not f = search (rules, formulas.the_lemmas)

pub atom_varies-Not : (f : Formula) → atom_varies (formula.Not f) ≡ false
unfolding atom_varies hidden-the_row-Formula-0 hidden
atom_varies-Not f = refl

pub ruleset not_laws = (depth-Not, variables-Not, atom_varies-Not)

pub depth-All : (fs : List Formula) → depth_of_formula (formula.All fs) ≡ deepest (map depth_of_formula fs) + 1
unfolding depth_of_formula
depth-All fs = search (rules, formulas.the_lemmas)

pub variables-All : (fs : List Formula) → variables_in (formula.All fs) ≡ sum (map variables_in fs)
unfolding variables_in
variables-All fs = search (rules, formulas.the_lemmas)

pub atom_varies-All : (fs : List Formula) → atom_varies (formula.All fs) ≡ false
unfolding atom_varies hidden-the_row-Formula-0 hidden
atom_varies-All fs = refl

pub ruleset all_laws = (depth-All, variables-All, atom_varies-All)

pub depth-Any : (fs : List Formula) → depth_of_formula (formula.Any fs) ≡ deepest (map depth_of_formula fs) + 1
unfolding depth_of_formula
depth-Any fs = search (rules, formulas.the_lemmas)

pub variables-Any : (fs : List Formula) → variables_in (formula.Any fs) ≡ sum (map variables_in fs)
unfolding variables_in
variables-Any fs = search (rules, formulas.the_lemmas)

pub atom_varies-Any : (fs : List Formula) → atom_varies (formula.Any fs) ≡ false
unfolding atom_varies hidden-the_row-Formula-0 hidden
atom_varies-Any fs = refl

pub ruleset any_laws = (depth-Any, variables-Any, atom_varies-Any)

pub depth-Iff : (f g : Formula) → depth_of_formula (formula.Iff f g) ≡ max (depth_of_formula f) (depth_of_formula g) + 1
unfolding depth_of_formula
depth-Iff f g = search (rules, formulas.the_lemmas)

pub variables-Iff : (f g : Formula) → variables_in (formula.Iff f g) ≡ variables_in f + variables_in g
unfolding variables_in
variables-Iff f g = search (rules, formulas.the_lemmas)

pub atom_varies-Iff : (f g : Formula) → atom_varies (formula.Iff f g) ≡ false
unfolding atom_varies hidden-the_row-Formula-0 hidden
atom_varies-Iff f g = refl

pub ruleset iff_laws = (depth-Iff, variables-Iff, atom_varies-Iff)

pub depth-Choose : (c f g : Formula) → depth_of_formula (formula.Choose c f g) ≡ max (depth_of_formula c) (max (depth_of_formula f) (depth_of_formula g)) + 1
unfolding depth_of_formula
depth-Choose c f g = search (rules, formulas.the_lemmas)

pub variables-Choose : (c f g : Formula) → variables_in (formula.Choose c f g) ≡ variables_in c + (variables_in f + variables_in g)
unfolding variables_in
variables-Choose c f g = search (rules, formulas.the_lemmas)

pub atom_varies-Choose : (c f g : Formula) → atom_varies (formula.Choose c f g) ≡ false
unfolding atom_varies hidden-the_row-Formula-0 hidden
atom_varies-Choose c f g = refl

pub ruleset choose_laws = (depth-Choose, variables-Choose, atom_varies-Choose)

pub depth-Forall : (bs : List Binder) (f : Formula) → depth_of_formula (formula.Forall bs f) ≡ depth_of_formula f + 1
unfolding depth_of_formula
depth-Forall bs f = search (rules, formulas.the_lemmas)

pub variables-Forall : (bs : List Binder) (f : Formula) → variables_in (formula.Forall bs f) ≡ length bs + variables_in f
unfolding variables_in
variables-Forall bs f = search (rules, formulas.the_lemmas)

pub atom_varies-Forall : (bs : List Binder) (f : Formula) → atom_varies (formula.Forall bs f) ≡ false
unfolding atom_varies hidden-the_row-Formula-0 hidden
atom_varies-Forall bs f = refl

pub ruleset forall_laws = (depth-Forall, variables-Forall, atom_varies-Forall)

pub depth-Exists : (bs : List Binder) (f : Formula) → depth_of_formula (formula.Exists bs f) ≡ depth_of_formula f + 1
unfolding depth_of_formula
depth-Exists bs f = search (rules, formulas.the_lemmas)

pub variables-Exists : (bs : List Binder) (f : Formula) → variables_in (formula.Exists bs f) ≡ length bs + variables_in f
unfolding variables_in
variables-Exists bs f = search (rules, formulas.the_lemmas)

pub atom_varies-Exists : (bs : List Binder) (f : Formula) → atom_varies (formula.Exists bs f) ≡ false
unfolding atom_varies hidden-the_row-Formula-0 hidden
atom_varies-Exists bs f = refl

pub ruleset exists_laws = (depth-Exists, variables-Exists, atom_varies-Exists)
