-- The whole instance of a formula: it is an instance, and that of a clause is the clause with its terms.
use Rattle.std.proofs.Common.{◌≡◌, ℕ, ◌<◌, Bool, true, false, not, List, [], ◌∷◌, map, refl, sym, ap, ◌∙◌, inl, inr}
use Rattle.std.specs.Prelude.{All}
use Rattle.std.proofs.lemmas.List.Elements.{All-head, All-tail}
use Rattle.mbqi_terms.specs.declared.formula.Formula.{Formula, Row_of-Formula, end_of-Formula, more_of-Formula}
use Rattle.mbqi_terms.specs.declared.formula.Formula.TheBlock.{hidden-the_row-Formula-0, hidden-the_row-Formula-1}
use denote.Hole.Carrier.{hidden}
use Rattle.mbqi_terms.specs.declared.formula.Formula.TheVariants as formula
use Rattle.mbqi_terms.specs.declared.formula.Formula.TheVariants.{Atom, Equal, AtMost, SameArray, Not', All', Any', Iff', Choose', Forall', Exists'}
use Rattle.mbqi_terms.specs.declared.script.Function.{Function}
use Rattle.mbqi_terms.specs.declared.sort.Binder.{Binder}
use Rattle.mbqi_terms.specs.declared.term.Term.{Term}
use Rattle.mbqi_terms.specs.Substitution.{put_into, put_into_formula}
use Rattle.element_atoms.specs.Profile.{IsArgument, IsClause, IsLiteral}
use Rattle.rule_form.specs.Instance.{EachInstance, Instantiation, InstanceAt, below_existential, below_universal, whole, whole_each}
use Rattle.rule_form.specs.Rules.{clause_at, term_at}
use Rattle.rule_form.proofs.Putting.{alike_atom, put_any, put_atom, put_not}

-- the whole instance is an instance
mutual
  unfolding InstanceAt whole hidden-the_row-Formula-0 hidden hidden-the_row-Formula-1

  pub whole_is : (f : Formula) (i : Instantiation) (b : Bool) → InstanceAt i b f (whole i b f)
  whole_is (formula.Truth t) i b = refl
  whole_is (Atom t) i b = refl
  whole_is (Equal s t) i b = refl
  whole_is (AtMost s t) i b = refl
  whole_is (SameArray s t) i b = refl
  whole_is (Not' u (more_of-Formula f end_of-Formula)) i b = whole_is f i (not b)
  whole_is (All' n fs) i true = inr (whole_each i true fs, refl, each_is fs i true)
  whole_is (All' n fs) i false = (whole_each i false fs, refl, each_is fs i false)
  whole_is (Any' n fs) i true = (whole_each i true fs, refl, each_is fs i true)
  whole_is (Any' n fs) i false = inr (whole_each i false fs, refl, each_is fs i false)
  whole_is (Iff' u (more_of-Formula f end_of-Formula) v (more_of-Formula h end_of-Formula)) i b = refl
  whole_is (Choose' u (more_of-Formula c end_of-Formula) v (more_of-Formula f end_of-Formula) w (more_of-Formula h end_of-Formula)) i b =
      (whole i b f, whole i b h, refl, whole_is f i b, whole_is h i b)
  whole_is (Forall' bs u (more_of-Formula f end_of-Formula)) i true = whole_is f (below_universal bs i) true
  whole_is (Forall' bs u (more_of-Formula f end_of-Formula)) i false = whole_is f (below_existential bs i) false
  whole_is (Exists' bs u (more_of-Formula f end_of-Formula)) i true = whole_is f (below_existential bs i) true
  whole_is (Exists' bs u (more_of-Formula f end_of-Formula)) i false = whole_is f (below_universal bs i) false

  each_is : {n : _} (fs : Row_of-Formula n) (i : Instantiation) (b : Bool) → EachInstance i b fs (whole_each i b fs)
  each_is end_of-Formula i b = tt
  each_is (more_of-Formula f fs) i b = (whole_is f i b, each_is fs i b)

-- the whole instance of each kind of formula in a clause
whole_atom : (i : Instantiation) (t : Term) → whole i true (formula.Atom t) ≡ formula.Atom (put_into i.at t)
unfolding whole hidden-the_row-Formula-0 hidden hidden-the_row-Formula-1
whole_atom i t = refl

whole_not_atom : (i : Instantiation) (t : Term) → whole i true (formula.Not (formula.Atom t)) ≡ formula.Not (formula.Atom (put_into i.at t))
unfolding whole hidden-the_row-Formula-0 hidden hidden-the_row-Formula-1
whole_not_atom i t = refl

abbrev wholes_in : Instantiation → Formula → List Formula
wholes_in i (formula.Any' n row) = whole_each i true row
wholes_in i other = []

wholes_any : (i : Instantiation) (fs : List Formula) → wholes_in i (formula.Any fs) ≡ map (whole i true) fs
unfolding whole hidden-the_row-Formula-0 hidden hidden-the_row-Formula-1
wholes_any i [] = refl
wholes_any i (f ∷ fs) = ap (λ gs. whole i true f ∷ gs) (wholes_any i fs)

whole_any : (i : Instantiation) (fs : List Formula) → whole i true (formula.Any fs) ≡ formula.Any (wholes_in i (formula.Any fs))
unfolding whole hidden-the_row-Formula-0 hidden hidden-the_row-Formula-1
whole_any i fs = refl

pub whole_forall : (i : Instantiation) (bs : List Binder) (f : Formula) → whole i true (formula.Forall bs f) ≡ whole (below_universal bs i) true f
unfolding whole hidden-the_row-Formula-0 hidden hidden-the_row-Formula-1
whole_forall i bs f = refl

-- the whole instance of a clause is the clause with its terms where the instantiation has these terms
module _ (functions : List Function) (n : ℕ) (ts : List Term) (i : Instantiation) (same : (place : ℕ) → place < n → term_at ts place ≡ i.at place) where
  literal_whole : (f : Formula) → IsLiteral functions (IsArgument functions n) f → whole i true f ≡ clause_at f ts
  literal_whole f is = elim is.2 [
    | inl e ↦
        ap (whole i true) e ∙ whole_atom i is.0 ∙ ap formula.Atom (sym (alike_atom functions n (term_at ts) i.at same is.0 is.1))
        ∙ sym (put_atom (term_at ts) is.0) ∙ ap (λ g. clause_at g ts) (sym e)
    | inr e ↦
        ap (whole i true) e ∙ whole_not_atom i is.0
        ∙ ap (λ t. formula.Not (formula.Atom t)) (sym (alike_atom functions n (term_at ts) i.at same is.0 is.1))
        ∙ sym (put_not (term_at ts) (formula.Atom is.0) ∙ ap formula.Not (put_atom (term_at ts) is.0)) ∙ ap (λ g. clause_at g ts) (sym e)
  ]

  literals_whole : (fs : List Formula) → All (IsLiteral functions (IsArgument functions n)) fs → map (whole i true) fs ≡ map (put_into_formula (term_at ts)) fs
  literals_whole [] all = refl
  literals_whole (f ∷ fs) all =
      ap (λ g. g ∷ map (whole i true) fs) (literal_whole f (All-head (IsLiteral functions (IsArgument functions n)) f fs all))
      ∙ ap (λ gs. clause_at f ts ∷ gs) (literals_whole fs (All-tail (IsLiteral functions (IsArgument functions n)) f fs all))

  pub clause_whole : (f : Formula) → IsClause functions (IsArgument functions n) f → whole i true f ≡ clause_at f ts
  clause_whole f (inl one) = literal_whole f one
  clause_whole f (inr any) =
      ap (whole i true) any.1 ∙ whole_any i any.0 ∙ ap formula.Any (wholes_any i any.0 ∙ literals_whole any.0 any.2)
      ∙ sym (put_any (term_at ts) any.0) ∙ ap (λ g. clause_at g ts) (sym any.1)
