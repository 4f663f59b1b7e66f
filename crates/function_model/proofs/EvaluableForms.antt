-- Terms and formulas that have their sorts and read names alone have their values from tables, where only small numbers are added.
use Rattle.std.proofs.Common.{◌≡◌, ℕ, zero, suc, ◌^◌, ◌<◌, ◌≤◌, ℤ, pos, negsuc, Bool, true, false, true≢false, not, ◌&&◌, List, [], ◌∷◌, map, refl, ap, sym, subst, ◌∙◌, arith, rules, leb-true, ltb-true}
use Rattle.std.specs.Prelude.{Contains, ⊤}
use Rattle.std.specs.List.{list_all}
use Rattle.std.proofs.lemmas.Bool.{and_parts, not-true}
use Rattle.std.proofs.lemmas.Int.{ints}
use Rattle.mbqi_values.specs.Sum.{IsBelow}
use Rattle.mbqi_terms.specs.declared.formula.Formula as formulas
use Rattle.mbqi_terms.specs.declared.formula.Formula.{Formula}
use Rattle.mbqi_terms.specs.declared.formula.Formula.TheBlock.{hidden-the_row-Formula-0, hidden-the_row-Formula-1}
use Rattle.mbqi_terms.specs.declared.formula.Formula.TheFolds.{fold-roll-Formula}
use Rattle.mbqi_terms.specs.declared.formula.Formula.TheOpen.{Formula-F}
use Rattle.mbqi_terms.specs.declared.formula.Formula.TheVariants as formula
use denote.Hole.Carrier.{hidden}
use Rattle.mbqi_terms.specs.declared.sort.Binder.{Binder}
use Rattle.mbqi_terms.specs.declared.sort.Plain.{Plain}
use Rattle.mbqi_terms.specs.declared.sort.Plain.TheVariants as plain
use Rattle.mbqi_terms.specs.declared.term.ArrayTerm.{ArrayTerm, out-ArrayTerm}
use Rattle.mbqi_terms.specs.declared.term.ArrayTerm.TheFolds.{fold-ArrayTerm, fold-roll-ArrayTerm, fold-roll-Term, map-ArrayTerm}
use Rattle.mbqi_terms.specs.declared.term.ArrayTerm.TheOpen.{ArrayTerm-F, Term-F}
use Rattle.mbqi_terms.specs.declared.term.ArrayTerm.TheVariants as array
use Rattle.mbqi_terms.specs.declared.term.ArrayTerm.TheViews.{out-roll-ArrayTerm, roll-out-ArrayTerm}
use Rattle.mbqi_terms.specs.declared.term.Symbol.{Symbol}
use Rattle.mbqi_terms.specs.declared.term.Symbol.TheVariants as symbol
use Rattle.mbqi_terms.specs.declared.term.Term as terms
use Rattle.mbqi_terms.specs.declared.term.Term.{Term, out-Term}
use Rattle.mbqi_terms.specs.declared.term.Term.TheVariants as term
use Rattle.mbqi_terms.specs.HasSort.{AreMatrices, HasSortIn, HaveSortsIn, IsMatrix, Setting}
use Rattle.mbqi_terms.specs.Limits.{is_offset}
use Rattle.mbqi_terms.specs.Tree.{IsBase, IsPart, Layer}
use Rattle.mbqi_terms.proofs.Levels.{out-apply, out-num, out-plus, out-read, out-truth, out-var}
use Rattle.function_model.specs.Evaluable.{AddsSmall, AreEvaluableFormulas, IsEvaluable, IsEvaluableFormula, IsEvaluableLayer, formula_layer_reads_names, formula_reads_names, layer_reads_names, reads_names}
use Rattle.function_model.specs.ValueOf.{is_compound, is_compound_layer}

-- a term is evaluable where its level is and what stands directly in it
abbrev AreChildren : Layer → Type 0
AreChildren (Term-F.Plus t n) = IsEvaluable t
AreChildren (Term-F.Apply f ts) = (t : Term) → Contains ts t → IsEvaluable t
AreChildren (Term-F.Read a i) = IsEvaluable i
AreChildren layer = Unit {0}

by_level : (t : Term) (layer : Layer) → out-Term t ≡ layer → IsEvaluableLayer layer → AreChildren layer → IsEvaluable t
by_level t layer e level children part (IsPart.itself u) = subst IsEvaluableLayer (sym e) level
by_level t layer e level children part (IsPart.of_sum p u v n s inside) =
    let own : AreChildren (out-Term t) = subst AreChildren (sym e) children in
    let base : AreChildren (Term-F.Plus v n) = subst AreChildren s own in
    base part inside
by_level t layer e level children part (IsPart.of_argument p u v f us s among inside) =
    let own : AreChildren (out-Term t) = subst AreChildren (sym e) children in
    let arguments : AreChildren (Term-F.Apply f us) = subst AreChildren s own in
    arguments v among part inside
by_level t layer e level children part (IsPart.of_index p u v a s inside) =
    let own : AreChildren (out-Term t) = subst AreChildren (sym e) children in
    let index : AreChildren (Term-F.Read a v) = subst AreChildren s own in
    index part inside

pub numeral_is : (n : ℤ) → IsEvaluable (term.Num n)
numeral_is n = by_level (term.Num n) (Term-F.Num n) (out-num n) tt tt

pub sum_is : (t : Term) (n : ℤ) → IsBase (out-Term t) → IsBelow n 124 → IsEvaluable t → IsEvaluable (term.Plus t n)
sum_is t n base small is = by_level (term.Plus t n) (Term-F.Plus t n) (out-plus t n) (base, small) is

pub variable_is : (place : ℕ) → IsEvaluable (term.Var place)
variable_is place = by_level (term.Var place) (Term-F.Var place) (out-var place) tt tt

pub truth_is : (b : Bool) → IsEvaluable (term.Truth b)
truth_is b = by_level (term.Truth b) (Term-F.Truth b) (out-truth b) tt tt

pub applied : (f : Symbol) (ts : List Term) → ((t : Term) → Contains ts t → IsEvaluable t) → IsEvaluable (term.Apply f ts)
applied f ts each = by_level (term.Apply f ts) (Term-F.Apply f ts) (out-apply f ts) tt each

none_of : (t : Term) → Contains [] t → IsEvaluable t
none_of t there = absurd (omega (arith, there.1))

-- as code makes them
pub constant_is : (f : Symbol) (ts : List Term) → ts ≡ [] → IsEvaluable (term.Apply f ts)
constant_is f ts e = applied f ts (λ t there. none_of t (subst (λ us. Contains us t) e there))

one_of : (t u : Term) → IsEvaluable t → Contains (t ∷ []) u → IsEvaluable u
one_of t u is (zero, within, e) = subst IsEvaluable e is
one_of t u is (suc k, within, e) = absurd (omega (arith, within))

pub call_is : (f : Symbol) (ts : List Term) (t : Term) → ts ≡ t ∷ [] → IsEvaluable t → IsEvaluable (term.Apply f ts)
call_is f ts t e is = applied f ts (λ u there. one_of t u is (subst (λ us. Contains us u) e there))

pub call_base : (f : Symbol) (ts : List Term) → IsBase (out-Term (term.Apply f ts))
call_base f ts = let base : IsBase (Term-F.Apply f ts) = tt in subst IsBase (sym (out-apply f ts)) base

pub name_is : (f : ℕ) → is_compound (array.Name f) ≡ false
name_is f = ap is_compound_layer (ap out-ArrayTerm (sym (array.rolls-Name f)) ∙ out-roll-ArrayTerm (ArrayTerm-F.Name f))

pub read_is : (a : ArrayTerm) (i : Term) → is_compound a ≡ false → IsEvaluable i → IsEvaluable (term.Read a i)
read_is a i name is = by_level (term.Read a i) (Term-F.Read a i) (out-read a i) name is

-- the test of each kind of term
compound_by_level : (a : ArrayTerm → Bool) (f : Symbol → ⊤) (t : Term → Bool) (layer : ArrayTerm-F ArrayTerm Symbol Term)
    → is_compound_layer (map-ArrayTerm ArrayTerm Symbol Term Bool ⊤ Bool a f t layer) ≡ is_compound_layer layer
compound_by_level a f t (ArrayTerm-F.Name g) = refl
compound_by_level a f t (ArrayTerm-F.Store b i v) = refl
compound_by_level a f t (ArrayTerm-F.Const s v) = refl
compound_by_level a f t (ArrayTerm-F.Map g parts) = refl

abbrev compound : ArrayTerm → Bool
compound a = fold-ArrayTerm Bool ⊤ Bool (λ layer. is_compound_layer layer) (λ symbol. tt) layer_reads_names a

compound_is : (a : ArrayTerm) → compound a ≡ is_compound a
compound_is a =
    ap compound (sym (roll-out-ArrayTerm a))
    ∙ (fold-roll-ArrayTerm Bool ⊤ Bool (λ layer. is_compound_layer layer) (λ symbol. tt) layer_reads_names (out-ArrayTerm a)
    ∙ compound_by_level _ _ _ (out-ArrayTerm a))

all_in_map : {X : Type 0} (test : X → Bool) (xs : List X) → list_all (λ b. b) (map test xs) ≡ list_all test xs
all_in_map test [] = refl
all_in_map test (x ∷ xs) = ap (λ rest. test x && rest) (all_in_map test xs)

reads_sum : (t : Term) (n : ℤ) → reads_names (term.Plus t n) ≡ reads_names t
unfolding reads_names
reads_sum t n = search (rules, terms.the_lemmas)

reads_apply : (f : Symbol) (ts : List Term) → reads_names (term.Apply f ts) ≡ list_all reads_names ts
unfolding reads_names
reads_apply f ts =
    ap reads_names (sym (term.rolls-Apply f ts))
    ∙ (fold-roll-Term Bool ⊤ Bool (λ layer. is_compound_layer layer) (λ symbol. tt) layer_reads_names (Term-F.Apply f ts) ∙ all_in_map reads_names ts)

reads_read : (a : ArrayTerm) (i : Term) → reads_names (term.Read a i) ≡ (not (is_compound a) && reads_names i)
unfolding reads_names
reads_read a i =
    ap reads_names (sym (term.rolls-Read a i))
    ∙ (fold-roll-Term Bool ⊤ Bool (λ layer. is_compound_layer layer) (λ symbol. tt) layer_reads_names (Term-F.Read a i) ∙ ap (λ b. not b && reads_names i) (compound_is a))

reads_default : (a : ArrayTerm) → reads_names (term.Default a) ≡ false
unfolding reads_names
reads_default a = search (rules, terms.the_lemmas)

module _ (g : Setting) (scope : List Binder) (small : AddsSmall g) where
  mutual
    pub term_is : (t : Term) (s : Plain) → HasSortIn g scope t s → reads_names t ≡ true → IsEvaluable t
    term_is t s (HasSortIn.number n numeral) e = numeral_is n
    term_is t s (HasSortIn.sum u n int base other offset) e = sum_is u n base (small n offset) (term_is u plain.Int int (sym (reads_sum u n) ∙ e))
    term_is t s (HasSortIn.variable place p index at) e = variable_is place
    term_is t s (HasSortIn.truth b) e = truth_is b
    term_is t s (HasSortIn.application f ts args p declared have) e =
        applied (symbol.Declared f) ts (terms_are ts args have (sym (reads_apply (symbol.Declared f) ts) ∙ e))
    term_is t s (HasSortIn.skolem assertion place ts args p hidden declared have) e =
        applied (symbol.Skolem assertion place) ts (terms_are ts args have (sym (reads_apply (symbol.Skolem assertion place) ts) ∙ e))
    term_is t s (HasSortIn.seed k hidden below) e = applied (symbol.Seed k) [] none_of
    term_is t s (HasSortIn.far hidden) e = applied symbol.Far [] none_of
    term_is t s (HasSortIn.differing a b i element hidden index left right) e = applied (symbol.Diff a b) [] none_of
    term_is t s (HasSortIn.reading a u i element inside index at) e =
        let both = and_parts (not (is_compound a)) (reads_names u) (sym (reads_read a u) ∙ e) in
        read_is a u (not-true (is_compound a) both.0) (term_is u i at both.1)
    term_is t s (HasSortIn.last a element inside plainly) e = absurd (true≢false (sym e ∙ reads_default a))

    terms_are : (ts : List Term) (ss : List Plain) → HaveSortsIn g scope ts ss → list_all reads_names ts ≡ true → (t : Term) → Contains ts t → IsEvaluable t
    terms_are ts ss HaveSortsIn.no_terms e t there = none_of t there
    terms_are ts ss (HaveSortsIn.more_terms u us p ps index first rest) e t (zero, within, same) =
        subst IsEvaluable same (term_is u p first (and_parts (reads_names u) (list_all reads_names us) e).0)
    terms_are ts ss (HaveSortsIn.more_terms u us p ps index first rest) e t (suc k, within, same) =
        terms_are us ps rest (and_parts (reads_names u) (list_all reads_names us) e).1 t (k, omega (arith, within), same)

-- the test of each kind of formula
reads_atom : (t : Term) → formula_reads_names (formula.Atom t) ≡ reads_names t
unfolding formula_reads_names
reads_atom t = search (rules, formulas.the_lemmas)

reads_equal : (s t : Term) → formula_reads_names (formula.Equal s t) ≡ (reads_names s && reads_names t)
unfolding formula_reads_names
reads_equal s t = search (rules, formulas.the_lemmas)

reads_at_most : (s t : Term) → formula_reads_names (formula.AtMost s t) ≡ (reads_names s && reads_names t)
unfolding formula_reads_names
reads_at_most s t = search (rules, formulas.the_lemmas)

reads_same : (a b : ArrayTerm) → formula_reads_names (formula.SameArray a b) ≡ false
unfolding formula_reads_names
reads_same a b = search (rules, formulas.the_lemmas)

reads_not : (f : Formula) → formula_reads_names (formula.Not f) ≡ formula_reads_names f
unfolding formula_reads_names
reads_not f = search (rules, formulas.the_lemmas)

reads_all : (fs : List Formula) → formula_reads_names (formula.All fs) ≡ list_all formula_reads_names fs
unfolding formula_reads_names
reads_all fs =
    ap formula_reads_names (sym (formula.rolls-All fs))
    ∙ (fold-roll-Formula Bool formula_layer_reads_names (Formula-F.All fs) ∙ all_in_map formula_reads_names fs)

reads_any : (fs : List Formula) → formula_reads_names (formula.Any fs) ≡ list_all formula_reads_names fs
unfolding formula_reads_names
reads_any fs =
    ap formula_reads_names (sym (formula.rolls-Any fs))
    ∙ (fold-roll-Formula Bool formula_layer_reads_names (Formula-F.Any fs) ∙ all_in_map formula_reads_names fs)

reads_iff : (f h : Formula) → formula_reads_names (formula.Iff f h) ≡ (formula_reads_names f && formula_reads_names h)
unfolding formula_reads_names
reads_iff f h = search (rules, formulas.the_lemmas)

reads_choose : (c f h : Formula)
    → formula_reads_names (formula.Choose c f h) ≡ (formula_reads_names c && (formula_reads_names f && formula_reads_names h))
unfolding formula_reads_names
reads_choose c f h = search (rules, formulas.the_lemmas)

-- each kind of formula, of its parts
pub is_truth : (b : Bool) → IsEvaluableFormula (formula.Truth b)
unfolding IsEvaluableFormula
is_truth b = tt

pub is_atom : (t : Term) → IsEvaluable t → IsEvaluableFormula (formula.Atom t)
unfolding IsEvaluableFormula
is_atom t is = is

pub is_equal : (s t : Term) → IsEvaluable s × IsEvaluable t → IsEvaluableFormula (formula.Equal s t)
unfolding IsEvaluableFormula
is_equal s t is = is

pub is_at_most : (s t : Term) → IsEvaluable s × IsEvaluable t → IsEvaluableFormula (formula.AtMost s t)
unfolding IsEvaluableFormula
is_at_most s t is = is

pub is_not : (f : Formula) → IsEvaluableFormula f → IsEvaluableFormula (formula.Not f)
unfolding IsEvaluableFormula hidden-the_row-Formula-0 hidden hidden-the_row-Formula-1
is_not f is = is

pub is_iff : (f h : Formula) → IsEvaluableFormula f × IsEvaluableFormula h → IsEvaluableFormula (formula.Iff f h)
unfolding IsEvaluableFormula hidden-the_row-Formula-0 hidden hidden-the_row-Formula-1
is_iff f h is = is

pub is_choose : (c f h : Formula) → IsEvaluableFormula c × IsEvaluableFormula f × IsEvaluableFormula h → IsEvaluableFormula (formula.Choose c f h)
unfolding IsEvaluableFormula hidden-the_row-Formula-0 hidden hidden-the_row-Formula-1
is_choose c f h is = is

abbrev AreEach : List Formula → Type 0
AreEach [] = Unit {0}
AreEach (f ∷ fs) = IsEvaluableFormula f × AreEach fs

abbrev rows_of : Formula → Type 0
rows_of (formula.All' n row) = AreEvaluableFormulas row
rows_of (formula.Any' n row) = AreEvaluableFormulas row
rows_of other = ⊥

row_of_all : (fs : List Formula) → AreEach fs → rows_of (formula.All fs)
unfolding IsEvaluableFormula hidden-the_row-Formula-0 hidden hidden-the_row-Formula-1
row_of_all [] is = tt
row_of_all (f ∷ fs) is = (is.0, row_of_all fs is.1)

row_of_any : (fs : List Formula) → AreEach fs → rows_of (formula.Any fs)
unfolding IsEvaluableFormula hidden-the_row-Formula-0 hidden hidden-the_row-Formula-1
row_of_any [] is = tt
row_of_any (f ∷ fs) is = (is.0, row_of_any fs is.1)

is_all : (fs : List Formula) → AreEach fs → IsEvaluableFormula (formula.All fs)
unfolding IsEvaluableFormula hidden-the_row-Formula-0 hidden hidden-the_row-Formula-1
is_all fs is = row_of_all fs is

is_any : (fs : List Formula) → AreEach fs → IsEvaluableFormula (formula.Any fs)
unfolding IsEvaluableFormula hidden-the_row-Formula-0 hidden hidden-the_row-Formula-1
is_any fs is = row_of_any fs is

module _ (g : Setting) (scope : List Binder) (small : AddsSmall g) where
  pair_is : (s t : Term) (p q : Plain) → HasSortIn g scope s p → HasSortIn g scope t q → (reads_names s && reads_names t) ≡ true → IsEvaluable s × IsEvaluable t
  pair_is s t p q left right e =
      let both = and_parts (reads_names s) (reads_names t) e in
      (term_is g scope small s p left both.0, term_is g scope small t q right both.1)

  mutual
    pub formula_is : (f : Formula) → IsMatrix g scope f → formula_reads_names f ≡ true → IsEvaluableFormula f
    formula_is f (IsMatrix.truth b) e = is_truth b
    formula_is f (IsMatrix.atom t atom) e = is_atom t (term_is g scope small t plain.Truth atom.sort (sym (reads_atom t) ∙ e))
    formula_is f (IsMatrix.equal s t p index left right) e = is_equal s t (pair_is s t p p left right (sym (reads_equal s t) ∙ e))
    formula_is f (IsMatrix.at_most s t left right) e = is_at_most s t (pair_is s t plain.Int plain.Int left right (sym (reads_at_most s t) ∙ e))
    formula_is f (IsMatrix.same a b i p left right) e = absurd (true≢false (sym e ∙ reads_same a b))
    formula_is f (IsMatrix.negation h matrix) e = is_not h (formula_is h matrix (sym (reads_not h) ∙ e))
    formula_is f (IsMatrix.conjunction h k hs matrices) e = is_all (h ∷ k ∷ hs) (formulas_are (h ∷ k ∷ hs) matrices (sym (reads_all (h ∷ k ∷ hs)) ∙ e))
    formula_is f (IsMatrix.disjunction h k hs matrices) e = is_any (h ∷ k ∷ hs) (formulas_are (h ∷ k ∷ hs) matrices (sym (reads_any (h ∷ k ∷ hs)) ∙ e))
    formula_is f (IsMatrix.equivalence h k left right) e =
        let both = and_parts (formula_reads_names h) (formula_reads_names k) (sym (reads_iff h k) ∙ e) in
        is_iff h k (formula_is h left both.0, formula_is k right both.1)
    formula_is f (IsMatrix.choice c h k condition left right) e =
        let one = and_parts (formula_reads_names c) (formula_reads_names h && formula_reads_names k) (sym (reads_choose c h k) ∙ e) in
        let two = and_parts (formula_reads_names h) (formula_reads_names k) one.1 in
        is_choose c h k (formula_is c condition one.0, formula_is h left two.0, formula_is k right two.1)

    formulas_are : (fs : List Formula) → AreMatrices g scope fs → list_all formula_reads_names fs ≡ true → AreEach fs
    formulas_are fs AreMatrices.no_matrices e = tt
    formulas_are fs (AreMatrices.more_matrices f rest matrix matrices) e =
        let both = and_parts (formula_reads_names f) (list_all formula_reads_names rest) e in
        (formula_is f matrix both.0, formulas_are rest matrices both.1)

-- the numbers that are added in scripts and rules
pub offset_small : (n : ℤ) → is_offset n ≡ true → IsBelow n 124
offset_small (pos n) e = let within : n ≤ 2 ^ 59 = leb-true n (2 ^ 59) e in (omega (arith, ints), omega (arith, ints, within))
offset_small (negsuc n) e = let within : n < 2 ^ 59 = ltb-true n (2 ^ 59) e in (omega (arith, ints, within), omega (arith, ints))
