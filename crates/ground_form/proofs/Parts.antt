-- The parts of formulas and the clauses that define them, by the kinds of formulas.
use Rattle.std.proofs.Common.{◌≡◌, ℕ, zero, suc, ◌+◌, ◌≤◌, take, Some, slice_get, append-nil, length, Bool, if◌then◌else◌, List, [], ◌∷◌, ◌++◌, refl, sym, ap, subst, ◌∙◌, arith}
use Rattle.std.specs.Prelude.{Contains}
use Rattle.std.specs.List.{flat_map}
use Rattle.std.proofs.lemmas.List.{take_all}
use Rattle.std.proofs.lemmas.List.Concat.{flat_map-append}
use Rattle.std.proofs.lemmas.List.Elements.{Contains-append_left, Contains-append_right}
use Rattle.mbqi_terms.specs.declared.formula.Formula.{Formula, end_of-Formula, more_of-Formula, out-Formula}
use Rattle.mbqi_terms.specs.declared.formula.Formula.TheBlock.{hidden-the_row-Formula-0, hidden-the_row-Formula-1}
use Rattle.mbqi_terms.specs.declared.formula.Formula.TheOpen.{Formula-F}
use Rattle.mbqi_terms.specs.declared.formula.Formula.TheVariants as formula
use Rattle.mbqi_terms.specs.declared.formula.Formula.TheVariants.{Atom, Equal, AtMost, SameArray, Not', All', Any', Iff', Choose', Forall', Exists'}
use Rattle.mbqi_terms.specs.declared.formula.Formula.TheViews.{out-roll-Formula, roll-Formula}
use denote.Hole.Carrier.{hidden}
use Rattle.mbqi_terms.specs.declared.sort.Binder.{Binder}
use Rattle.mbqi_terms.specs.declared.term.ArrayTerm.{ArrayTerm}
use Rattle.mbqi_terms.specs.declared.term.Term.{Term}
use Rattle.ground_form.specs.Clauses.{AddsClauses, GrowsBy}
use Rattle.mbqi_values.specs.declared.lit.Lit.{Lit}
use Rattle.mbqi_terms.proofs.Trees.{take-push}
use Rattle.ground_form.specs.Definitions.{definition_layer, definition_of, definitions_in, parts_in, parts_in_all}
use Rattle.ground_form.proofs.Growth.{adds_again, grows_again, grows_wider}

-- the parts below a conjunction or a disjunction, as of a list
abbrev parts_below : Formula → List Formula
parts_below (All' n row) = parts_in_all row
parts_below (Any' n row) = parts_in_all row
parts_below other = []

parts_below_all : (fs : List Formula) → parts_below (formula.All fs) ≡ flat_map parts_in fs
unfolding parts_in hidden-the_row-Formula-0 hidden hidden-the_row-Formula-1
parts_below_all [] = refl
parts_below_all (f ∷ fs) = ap (λ parts. parts_in f ++ parts) (parts_below_all fs)

parts_below_any : (fs : List Formula) → parts_below (formula.Any fs) ≡ flat_map parts_in fs
unfolding parts_in hidden-the_row-Formula-0 hidden hidden-the_row-Formula-1
parts_below_any [] = refl
parts_below_any (f ∷ fs) = ap (λ parts. parts_in f ++ parts) (parts_below_any fs)

-- each formula is the first of its parts
parts_of_not : (f : Formula) → parts_in (formula.Not f) ≡ formula.Not f ∷ parts_in f
unfolding parts_in hidden-the_row-Formula-0 hidden hidden-the_row-Formula-1
parts_of_not f = refl

parts_of_all : (fs : List Formula) → parts_in (formula.All fs) ≡ formula.All fs ∷ flat_map parts_in fs
unfolding parts_in hidden-the_row-Formula-0 hidden hidden-the_row-Formula-1
parts_of_all fs = ap (λ parts. formula.All fs ∷ parts) (parts_below_all fs)

parts_of_any : (fs : List Formula) → parts_in (formula.Any fs) ≡ formula.Any fs ∷ flat_map parts_in fs
unfolding parts_in hidden-the_row-Formula-0 hidden hidden-the_row-Formula-1
parts_of_any fs = ap (λ parts. formula.Any fs ∷ parts) (parts_below_any fs)

parts_of_iff : (f g : Formula) → parts_in (formula.Iff f g) ≡ formula.Iff f g ∷ (parts_in f ++ parts_in g)
unfolding parts_in hidden-the_row-Formula-0 hidden hidden-the_row-Formula-1
parts_of_iff f g = refl

parts_of_choice : (c f g : Formula) → parts_in (formula.Choose c f g) ≡ formula.Choose c f g ∷ (parts_in c ++ (parts_in f ++ parts_in g))
unfolding parts_in hidden-the_row-Formula-0 hidden hidden-the_row-Formula-1
parts_of_choice c f g = refl

first_of : (f : Formula) (fs : List Formula) → Contains (f ∷ fs) f
first_of f fs = (0, omega arith, refl)

pub own_part : (f : Formula) → Contains (parts_in f) f
unfolding parts_in hidden-the_row-Formula-0 hidden hidden-the_row-Formula-1
own_part (formula.Truth b) = first_of (formula.Truth b) []
own_part (Atom t) = first_of (Atom t) []
own_part (Equal s t) = first_of (Equal s t) []
own_part (AtMost s t) = first_of (AtMost s t) []
own_part (SameArray a b) = first_of (SameArray a b) []
own_part (Not' u (more_of-Formula f end_of-Formula)) = first_of (Not' u (more_of-Formula f end_of-Formula)) (parts_in f)
own_part (All' n fs) = first_of (All' n fs) (parts_in_all fs)
own_part (Any' n fs) = first_of (Any' n fs) (parts_in_all fs)
own_part (Iff' u (more_of-Formula f end_of-Formula) v (more_of-Formula g end_of-Formula)) =
    first_of (Iff' u (more_of-Formula f end_of-Formula) v (more_of-Formula g end_of-Formula)) (parts_in f ++ parts_in g)
own_part (Choose' u (more_of-Formula c end_of-Formula) v (more_of-Formula f end_of-Formula) w (more_of-Formula g end_of-Formula)) =
    first_of (Choose' u (more_of-Formula c end_of-Formula) v (more_of-Formula f end_of-Formula) w (more_of-Formula g end_of-Formula))
    (parts_in c ++ (parts_in f ++ parts_in g))
own_part (Forall' bs u f) = first_of (Forall' bs u f) []
own_part (Exists' bs u f) = first_of (Exists' bs u f) []

-- a table that grows by parts of a part grows by parts of the whole
module _ (whole : Formula) (old new : List Formula) where
  below : (parts : List Formula) → parts_in whole ≡ whole ∷ parts → GrowsBy parts old new → GrowsBy (parts_in whole) old new
  below parts is = grows_wider parts (parts_in whole) old new
      (λ f has. subst (λ all. Contains all f) (sym is) (Contains-append_right (whole ∷ []) parts f has))

  pub grows_below_not : (f : Formula) → whole ≡ formula.Not f → GrowsBy (parts_in f) old new → GrowsBy (parts_in whole) old new
  grows_below_not f is = below (parts_in f) (ap parts_in is ∙ (parts_of_not f ∙ ap (λ g. g ∷ parts_in f) (sym is)))

  pub grows_below_all : (fs : List Formula) → whole ≡ formula.All fs → GrowsBy (flat_map parts_in fs) old new → GrowsBy (parts_in whole) old new
  grows_below_all fs is = below (flat_map parts_in fs) (ap parts_in is ∙ (parts_of_all fs ∙ ap (λ g. g ∷ flat_map parts_in fs) (sym is)))

  pub grows_below_any : (fs : List Formula) → whole ≡ formula.Any fs → GrowsBy (flat_map parts_in fs) old new → GrowsBy (parts_in whole) old new
  grows_below_any fs is = below (flat_map parts_in fs) (ap parts_in is ∙ (parts_of_any fs ∙ ap (λ g. g ∷ flat_map parts_in fs) (sym is)))

  pub grows_below_iff : (f g : Formula) → whole ≡ formula.Iff f g → GrowsBy (parts_in f ++ parts_in g) old new → GrowsBy (parts_in whole) old new
  grows_below_iff f g is = below (parts_in f ++ parts_in g)
      (ap parts_in is ∙ (parts_of_iff f g ∙ ap (λ h. h ∷ (parts_in f ++ parts_in g)) (sym is)))

  pub grows_below_left : (f g : Formula) → whole ≡ formula.Iff f g → GrowsBy (parts_in f) old new → GrowsBy (parts_in whole) old new
  grows_below_left f g is grows = grows_below_iff f g is (grows_wider (parts_in f) (parts_in f ++ parts_in g) old new
      (Contains-append_left (parts_in f) (parts_in g)) grows)

  pub grows_below_right : (f g : Formula) → whole ≡ formula.Iff f g → GrowsBy (parts_in g) old new → GrowsBy (parts_in whole) old new
  grows_below_right f g is grows = grows_below_iff f g is (grows_wider (parts_in g) (parts_in f ++ parts_in g) old new
      (Contains-append_right (parts_in f) (parts_in g)) grows)

  pub grows_below_choice : (c f g : Formula) → whole ≡ formula.Choose c f g → GrowsBy (parts_in c ++ (parts_in f ++ parts_in g)) old new
      → GrowsBy (parts_in whole) old new
  grows_below_choice c f g is = below (parts_in c ++ (parts_in f ++ parts_in g))
      (ap parts_in is ∙ (parts_of_choice c f g ∙ ap (λ h. h ∷ (parts_in c ++ (parts_in f ++ parts_in g))) (sym is)))

  pub grows_below_condition : (c f g : Formula) → whole ≡ formula.Choose c f g → GrowsBy (parts_in c) old new → GrowsBy (parts_in whole) old new
  grows_below_condition c f g is grows = grows_below_choice c f g is (grows_wider (parts_in c) (parts_in c ++ (parts_in f ++ parts_in g)) old new
      (Contains-append_left (parts_in c) (parts_in f ++ parts_in g)) grows)

  pub grows_below_yes : (c f g : Formula) → whole ≡ formula.Choose c f g → GrowsBy (parts_in f) old new → GrowsBy (parts_in whole) old new
  grows_below_yes c f g is grows = grows_below_choice c f g is (grows_wider (parts_in f) (parts_in c ++ (parts_in f ++ parts_in g)) old new
      (λ h has. Contains-append_right (parts_in c) (parts_in f ++ parts_in g) h (Contains-append_left (parts_in f) (parts_in g) h has)) grows)

  pub grows_below_no : (c f g : Formula) → whole ≡ formula.Choose c f g → GrowsBy (parts_in g) old new → GrowsBy (parts_in whole) old new
  grows_below_no c f g is grows = grows_below_choice c f g is (grows_wider (parts_in g) (parts_in c ++ (parts_in f ++ parts_in g)) old new
      (λ h has. Contains-append_right (parts_in c) (parts_in f ++ parts_in g) h (Contains-append_right (parts_in f) (parts_in g) h has)) grows)

-- a table that grows by the parts of one of several formulas
in_some : (fs : List Formula) (i : ℕ) (part : Formula) → slice_get fs i ≡ Some part → (f : Formula) → Contains (parts_in part) f
    → Contains (flat_map parts_in fs) f
in_some [] i part at f has = cc
in_some (g ∷ gs) zero part at f has =
    let same : g ≡ part = cc in
    Contains-append_left (parts_in g) (flat_map parts_in gs) f (subst (λ h. Contains (parts_in h) f) (sym same) has)
in_some (g ∷ gs) (suc i) part at f has = Contains-append_right (parts_in g) (flat_map parts_in gs) f (in_some gs i part at f has)

pub grows_at : (fs : List Formula) (i : ℕ) (part : Formula) → slice_get fs i ≡ Some part → (old mid new : List Formula)
    → GrowsBy (flat_map parts_in fs) old mid → GrowsBy (parts_in part) mid new → GrowsBy (flat_map parts_in fs) old new
grows_at fs i part at old mid new first second =
    grows_again (flat_map parts_in fs) old mid new first (grows_wider (parts_in part) (flat_map parts_in fs) mid new (in_some fs i part at) second)

-- the definition of a formula by its layer
defined : (layer : Formula-F Formula) (f : Formula) → roll-Formula layer ≡ f → definition_of f ≡ definition_layer f layer
defined layer f is = ap (definition_layer f) (ap out-Formula (sym is) ∙ out-roll-Formula layer)

in_all : (fs : List Formula) → flat_map definition_of (flat_map parts_in fs) ≡ flat_map definitions_in fs
in_all [] = refl
in_all (f ∷ fs) =
    flat_map-append definition_of (parts_in f) (flat_map parts_in fs) ∙ ap (λ rows. definitions_in f ++ rows) (in_all fs)

in_two : (f g : Formula) → flat_map definition_of (parts_in f ++ parts_in g) ≡ definitions_in f ++ definitions_in g
in_two f g = flat_map-append definition_of (parts_in f) (parts_in g)

-- the definitions in a formula are its own and those in its parts
with_own : (layer : Formula-F Formula) (f : Formula) (parts : List Formula) (rows : List (List Formula)) → roll-Formula layer ≡ f
    → parts_in f ≡ f ∷ parts → flat_map definition_of parts ≡ rows → definitions_in f ≡ definition_layer f layer ++ rows
with_own layer f parts rows rolls is those =
    ap (flat_map definition_of) is ∙ λ i. defined layer f rolls i ++ those i

pub definitions_of_not : (f : Formula) → definitions_in (formula.Not f) ≡ definitions_in f
definitions_of_not f = with_own (Formula-F.Not f) (formula.Not f) (parts_in f) (definitions_in f) (formula.rolls-Not f) (parts_of_not f) refl

pub definitions_of_all : (fs : List Formula)
    → definitions_in (formula.All fs) ≡ definition_layer (formula.All fs) (Formula-F.All fs) ++ flat_map definitions_in fs
definitions_of_all fs =
    with_own (Formula-F.All fs) (formula.All fs) (flat_map parts_in fs) (flat_map definitions_in fs) (formula.rolls-All fs) (parts_of_all fs) (in_all fs)

pub definitions_of_any : (fs : List Formula)
    → definitions_in (formula.Any fs) ≡ definition_layer (formula.Any fs) (Formula-F.Any fs) ++ flat_map definitions_in fs
definitions_of_any fs =
    with_own (Formula-F.Any fs) (formula.Any fs) (flat_map parts_in fs) (flat_map definitions_in fs) (formula.rolls-Any fs) (parts_of_any fs) (in_all fs)

pub definitions_of_iff : (f g : Formula)
    → definitions_in (formula.Iff f g) ≡ definition_layer (formula.Iff f g) (Formula-F.Iff f g) ++ (definitions_in f ++ definitions_in g)
definitions_of_iff f g =
    with_own (Formula-F.Iff f g) (formula.Iff f g) (parts_in f ++ parts_in g) (definitions_in f ++ definitions_in g)
    (formula.rolls-Iff f g) (parts_of_iff f g) (in_two f g)

pub definitions_of_choice : (c f g : Formula) → definitions_in (formula.Choose c f g)
    ≡ definition_layer (formula.Choose c f g) (Formula-F.Choose c f g) ++ (definitions_in c ++ (definitions_in f ++ definitions_in g))
definitions_of_choice c f g =
    with_own (Formula-F.Choose c f g) (formula.Choose c f g) (parts_in c ++ (parts_in f ++ parts_in g))
    (definitions_in c ++ (definitions_in f ++ definitions_in g)) (formula.rolls-Choose c f g) (parts_of_choice c f g)
    (flat_map-append definition_of (parts_in c) (parts_in f ++ parts_in g) ∙ ap (λ rows. definitions_in c ++ rows) (in_two f g))

-- a constant's is one clause, and what has no parts has none
pub definitions_of_truth : (b : Bool) → definitions_in (formula.Truth b) ≡ ((if b then formula.Truth b else formula.Not (formula.Truth b)) ∷ []) ∷ []
unfolding parts_in
definitions_of_truth b = with_own (Formula-F.Truth b) (formula.Truth b) [] [] (formula.rolls-Truth b) refl refl

pub definitions_of_atom : (t : Term) → definitions_in (formula.Atom t) ≡ []
unfolding parts_in
definitions_of_atom t = with_own (Formula-F.Atom t) (formula.Atom t) [] [] (formula.rolls-Atom t) refl refl

pub definitions_of_equal : (s t : Term) → definitions_in (formula.Equal s t) ≡ []
unfolding parts_in
definitions_of_equal s t = with_own (Formula-F.Equal s t) (formula.Equal s t) [] [] (formula.rolls-Equal s t) refl refl

pub definitions_of_order : (s t : Term) → definitions_in (formula.AtMost s t) ≡ []
unfolding parts_in
definitions_of_order s t = with_own (Formula-F.AtMost s t) (formula.AtMost s t) [] [] (formula.rolls-AtMost s t) refl refl

pub definitions_of_arrays : (a b : ArrayTerm) → definitions_in (formula.SameArray a b) ≡ []
unfolding parts_in
definitions_of_arrays a b = with_own (Formula-F.SameArray a b) (formula.SameArray a b) [] [] (formula.rolls-SameArray a b) refl refl

pub definitions_of_forall : (bs : List Binder) (f : Formula) → definitions_in (formula.Forall bs f) ≡ []
unfolding parts_in hidden-the_row-Formula-0 hidden hidden-the_row-Formula-1
definitions_of_forall bs f = with_own (Formula-F.Forall bs f) (formula.Forall bs f) [] [] (formula.rolls-Forall bs f) refl refl

pub definitions_of_exists : (bs : List Binder) (f : Formula) → definitions_in (formula.Exists bs f) ≡ []
unfolding parts_in hidden-the_row-Formula-0 hidden hidden-the_row-Formula-1
definitions_of_exists bs f = with_own (Formula-F.Exists bs f) (formula.Exists bs f) [] [] (formula.rolls-Exists bs f) refl refl

-- the clauses that define the formulas of a list, one after the other
module _ (table : List Formula) (before mid after : List (List Lit)) (fs : List Formula) (i : ℕ) where
  pub adds_next : (part : Formula) → slice_get fs i ≡ Some part → AddsClauses table before mid (flat_map definitions_in (take i fs))
      → AddsClauses table mid after (definitions_in part) → AddsClauses table before after (flat_map definitions_in (take (i + 1) fs))
  adds_next part at first second =
      let longer : flat_map definitions_in (take (i + 1) fs) ≡ flat_map definitions_in (take i fs) ++ definitions_in part =
      ap (flat_map definitions_in) (take-push fs i part at)
      ∙ (flat_map-append definitions_in (take i fs) (part ∷ []) ∙ ap (λ rows. flat_map definitions_in (take i fs) ++ rows) (append-nil (definitions_in part))) in
      subst (AddsClauses table before after) (sym longer)
      (adds_again table before mid after (flat_map definitions_in (take i fs)) (definitions_in part) first second)

pub adds_whole : (table : List Formula) (before after : List (List Lit)) (fs : List Formula) (i : ℕ) → length fs ≤ i
    → AddsClauses table before after (flat_map definitions_in (take i fs)) → AddsClauses table before after (flat_map definitions_in fs)
adds_whole table before after fs i all adds = subst (λ gs. AddsClauses table before after (flat_map definitions_in gs)) (take_all i fs all) adds
