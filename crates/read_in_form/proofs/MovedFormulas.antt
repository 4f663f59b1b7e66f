-- Formulas in form with their variables moved, and what names in scope mean.
use Rattle.std.proofs.Common.{◌≡◌, ◌≤◌, ◌<◌, ℕ, suc, ◌+◌, ◌-◌, Bool, true, false, cond, eqb, leb, List, [], ◌∷◌, ◌++◌, length, map, sum, Option, Some, refl, sym, ap, ◌∙◌, subst, arith}
use Rattle.std.proofs.lemmas.Bool.Decides.{nat_tests}
use Rattle.mbqi_terms.specs.declared.formula.Formula.{Formula}
use Rattle.mbqi_terms.specs.declared.script.Script.{Script}
use Rattle.mbqi_terms.specs.declared.sort.Binder.{Binder}
use Rattle.mbqi_terms.specs.declared.sort.Plain.{Plain}
use Rattle.mbqi_terms.specs.declared.sort.Plain.TheVariants as plain
use Rattle.mbqi_terms.specs.declared.sort.Sort.{Sort}
use Rattle.mbqi_terms.specs.declared.sort.Sort.TheVariants as sort
use Rattle.mbqi_terms.specs.declared.term.Term.TheVariants as term
use Rattle.smtlib_terms.specs.declared.meaning.Bound.{Bound}
use Rattle.smtlib_terms.specs.declared.meaning.Bound.TheVariants.{Variable, Value}
use Rattle.smtlib_terms.specs.declared.meaning.Meaning.{Meaning}
use Rattle.smtlib_terms.specs.declared.meaning.Meaning.TheVariants as meaning
use Rattle.smtlib_terms.specs.Applying.{meaning_in_scope}
use Rattle.smtlib_terms.specs.Meaning.{shifted, shifted_binder, shifted_formula, shifted_place, shifted_term}
use Rattle.mbqi_terms.specs.Depth.{deepest, depth_of_formula}
use Rattle.measured_terms.proofs.FormulaLaws as measure
use Rattle.measured_terms.proofs.TermLaws as term_measure
use Rattle.moved_terms.proofs.FormulaMoves as move
use Rattle.mbqi_terms.specs.HasSort.{HasSortIn, IsIndexSort, sort_at}
use Rattle.mbqi_terms.specs.InForm.{AreAllPlaced, AreBinders, ArePlaced, IsPlaced, IsVariableSort}
use Rattle.smtlib_terms.specs.InForm.{AreFormulas, IsFormula}
use Rattle.read_in_form.proofs.Placed.{Extends, IsBelow, IsBound, IsRead, Moves}
use Rattle.read_in_form.proofs.NoTruths.{moved_no_truth}
use Rattle.read_in_form.proofs.Moving.{closed_array, moved_term, moved_term_depth, widened_array, widened_term}
use Rattle.mbqi_terms.specs.Binders.{variables_in}
use Rattle.mbqi_terms.specs.Sort.{plain_sort}

moved_length : (from by : ℕ) (bs : List Binder) → length (map (shifted_binder from by) bs) ≡ length bs
moved_length from by [] = refl
moved_length from by (b ∷ bs) = ap suc (moved_length from by bs)

-- formulas have as many variables as before
module _ (script : Script) where
  mutual
    pub moved_variables : (from by next : ℕ) (scope : List Binder) (f : Formula) → IsFormula script scope next f → variables_in (shifted_formula from by f) ≡ variables_in f
    moved_variables from by next scope f (IsPlaced.truth sc n b) = ap variables_in (move.moved-Truth from by b)
    moved_variables from by next scope f (IsPlaced.atom sc n t h) =
        rw (move.moved-Atom from by t, measure.variables-Atom (shifted_term from by t), measure.variables-Atom t) refl
    moved_variables from by next scope f (IsPlaced.equal sc n s t e index g h) =
        rw (move.moved-Equal from by s t, measure.variables-Equal (shifted_term from by s) (shifted_term from by t), measure.variables-Equal s t) refl
    moved_variables from by next scope f (IsPlaced.at_most sc n s t g h) =
        rw (move.moved-AtMost from by s t, measure.variables-AtMost (shifted_term from by s) (shifted_term from by t), measure.variables-AtMost s t) refl
    moved_variables from by next scope f (IsPlaced.same sc n a b i e g h) = ap variables_in (move.moved-SameArray from by a b)
    moved_variables from by next scope f (IsPlaced.negation sc n g h) =
        rw (move.moved-Not from by g, measure.variables-Not (shifted_formula from by g), measure.variables-Not g) (moved_variables from by n sc g h)
    moved_variables from by next scope f (IsPlaced.conjunction sc n g h gs hs) =
        rw (move.moved-All from by (g ∷ h ∷ gs), measure.variables-All (map (shifted_formula from by) (g ∷ h ∷ gs)), measure.variables-All (g ∷ h ∷ gs)) (ap sum (all_variables from by n sc (g ∷ h ∷ gs) hs))
    moved_variables from by next scope f (IsPlaced.disjunction sc n g h gs hs) =
        rw (move.moved-Any from by (g ∷ h ∷ gs), measure.variables-Any (map (shifted_formula from by) (g ∷ h ∷ gs)), measure.variables-Any (g ∷ h ∷ gs)) (ap sum (all_variables from by n sc (g ∷ h ∷ gs) hs))
    moved_variables from by next scope f (IsPlaced.equivalence sc n g h hg hh ng nh) =
        rw (move.moved-Iff from by g h, measure.variables-Iff (shifted_formula from by g) (shifted_formula from by h), measure.variables-Iff g h, moved_variables from by n sc g hg, moved_variables from by n sc h hh) refl
    moved_variables from by next scope f (IsPlaced.choice sc n c g h nc hc hg hh) =
        rw (
          move.moved-Choose from by c g h,
          measure.variables-Choose (shifted_formula from by c) (shifted_formula from by g) (shifted_formula from by h),
          measure.variables-Choose c g h,
          moved_variables from by n sc c hc,
          moved_variables from by n sc g hg,
          moved_variables from by (n + variables_in g) sc h hh,
        ) refl
    moved_variables from by next scope f (IsPlaced.universal sc n bs g bound h) =
        rw (move.moved-Forall from by bs g, measure.variables-Forall (map (shifted_binder from by) bs) (shifted_formula from by g), measure.variables-Forall bs g, moved_length from by bs, moved_variables from by (n + length bs) (bs ++ sc) g h) refl
    moved_variables from by next scope f (IsPlaced.existential sc n bs g bound h) =
        rw (move.moved-Exists from by bs g, measure.variables-Exists (map (shifted_binder from by) bs) (shifted_formula from by g), measure.variables-Exists bs g, moved_length from by bs, moved_variables from by (n + length bs) (bs ++ sc) g h) refl

    all_variables : (from by next : ℕ) (scope : List Binder) (fs : List Formula) → AreFormulas script scope next fs → map variables_in (map (shifted_formula from by) fs) ≡ map variables_in fs
    all_variables from by next scope fs (AreAllPlaced.no_formulas sc n) = refl
    all_variables from by next scope fs (AreAllPlaced.more_formulas sc n f gs h hs) =
        rw (moved_variables from by n sc f h, all_variables from by (n + variables_in f) sc gs hs) refl

-- and are as deep
module _ (script : Script) where
  mutual
    pub moved_depth : (from by next : ℕ) (scope : List Binder) (f : Formula) → IsFormula script scope next f → depth_of_formula (shifted_formula from by f) ≡ depth_of_formula f
    moved_depth from by next scope f (IsPlaced.truth sc n b) = ap depth_of_formula (move.moved-Truth from by b)
    moved_depth from by next scope f (IsPlaced.atom sc n t h) =
        rw (move.moved-Atom from by t, measure.depth-Atom (shifted_term from by t), measure.depth-Atom t) (moved_term_depth script from by sc t plain.Truth h.sort)
    moved_depth from by next scope f (IsPlaced.equal sc n s t e index g h) =
        rw (move.moved-Equal from by s t, measure.depth-Equal (shifted_term from by s) (shifted_term from by t), measure.depth-Equal s t, moved_term_depth script from by sc s e g, moved_term_depth script from by sc t e h) refl
    moved_depth from by next scope f (IsPlaced.at_most sc n s t g h) =
        rw (move.moved-AtMost from by s t, measure.depth-AtMost (shifted_term from by s) (shifted_term from by t), measure.depth-AtMost s t, moved_term_depth script from by sc s plain.Int g, moved_term_depth script from by sc t plain.Int h) refl
    moved_depth from by next scope f (IsPlaced.same sc n a b i e g h) = ap depth_of_formula (move.moved-SameArray from by a b)
    moved_depth from by next scope f (IsPlaced.negation sc n g h) =
        rw (move.moved-Not from by g, measure.depth-Not (shifted_formula from by g), measure.depth-Not g, moved_depth from by n sc g h) refl
    moved_depth from by next scope f (IsPlaced.conjunction sc n g h gs hs) =
        rw (move.moved-All from by (g ∷ h ∷ gs), measure.depth-All (map (shifted_formula from by) (g ∷ h ∷ gs)), measure.depth-All (g ∷ h ∷ gs)) (ap (λ (ds : List ℕ). deepest ds + 1) (all_depths from by n sc (g ∷ h ∷ gs) hs))
    moved_depth from by next scope f (IsPlaced.disjunction sc n g h gs hs) =
        rw (move.moved-Any from by (g ∷ h ∷ gs), measure.depth-Any (map (shifted_formula from by) (g ∷ h ∷ gs)), measure.depth-Any (g ∷ h ∷ gs)) (ap (λ (ds : List ℕ). deepest ds + 1) (all_depths from by n sc (g ∷ h ∷ gs) hs))
    moved_depth from by next scope f (IsPlaced.equivalence sc n g h hg hh ng nh) =
        rw (move.moved-Iff from by g h, measure.depth-Iff (shifted_formula from by g) (shifted_formula from by h), measure.depth-Iff g h, moved_depth from by n sc g hg, moved_depth from by n sc h hh) refl
    moved_depth from by next scope f (IsPlaced.choice sc n c g h nc hc hg hh) =
        rw (
          move.moved-Choose from by c g h,
          measure.depth-Choose (shifted_formula from by c) (shifted_formula from by g) (shifted_formula from by h),
          measure.depth-Choose c g h,
          moved_depth from by n sc c hc,
          moved_depth from by n sc g hg,
          moved_depth from by (n + variables_in g) sc h hh,
        ) refl
    moved_depth from by next scope f (IsPlaced.universal sc n bs g bound h) =
        rw (move.moved-Forall from by bs g, measure.depth-Forall (map (shifted_binder from by) bs) (shifted_formula from by g), measure.depth-Forall bs g, moved_depth from by (n + length bs) (bs ++ sc) g h) refl
    moved_depth from by next scope f (IsPlaced.existential sc n bs g bound h) =
        rw (move.moved-Exists from by bs g, measure.depth-Exists (map (shifted_binder from by) bs) (shifted_formula from by g), measure.depth-Exists bs g, moved_depth from by (n + length bs) (bs ++ sc) g h) refl

    all_depths : (from by next : ℕ) (scope : List Binder) (fs : List Formula) → AreFormulas script scope next fs → map depth_of_formula (map (shifted_formula from by) fs) ≡ map depth_of_formula fs
    all_depths from by next scope fs (AreAllPlaced.no_formulas sc n) = refl
    all_depths from by next scope fs (AreAllPlaced.more_formulas sc n f gs h hs) =
        rw (moved_depth from by n sc f h, all_depths from by (n + variables_in f) sc gs hs) refl

-- places keep what they differ in
moved_eqb_at : (from by p q : ℕ) (tp tq : Bool) → leb from p ≡ tp → leb from q ≡ tq → eqb (cond tp (p + by) p) (cond tq (q + by) q) ≡ eqb p q
moved_eqb_at from by p q true true ep eq = grind (arith, nat_tests)
moved_eqb_at from by p q true false ep eq = grind (arith, nat_tests)
moved_eqb_at from by p q false true ep eq = grind (arith, nat_tests)
moved_eqb_at from by p q false false ep eq = refl

moved_eqb : (from by p q : ℕ) → eqb (shifted_place from by p) (shifted_place from by q) ≡ eqb p q
moved_eqb from by p q = moved_eqb_at from by p q (leb from p) (leb from q) refl refl

moved_step : (t : Bool) (s found : Sort) (more others : Option Sort) → (more ≡ Some s → others ≡ Some s) → cond t (Some found) more ≡ Some s → cond t (Some found) others ≡ Some s
moved_step true s found more others later e = e
moved_step false s found more others later e = later e

moved_scope : (from by : ℕ) (bs scope other : List Binder) → Moves from by scope other → Moves from by (bs ++ scope) (map (shifted_binder from by) bs ++ other)
moved_scope from by [] scope other moves place s e = moves place s e
moved_scope from by (b ∷ bs) scope other moves place s e =
    rw (moved_eqb from by b.place place) (moved_step (eqb b.place place) s b.sort (sort_at (bs ++ scope) place) (sort_at (map (shifted_binder from by) bs ++ other) (shifted_place from by place)) (moved_scope from by bs scope other moves place s) e)

above_at : (from by place : ℕ) (t : Bool) → leb from place ≡ t → from ≤ place → cond t (place + by) place ≡ place + by
above_at from by place true e le = refl
above_at from by place false e le = absurd (grind (arith, nat_tests))

above : (from by place : ℕ) → from ≤ place → shifted_place from by place ≡ place + by
above from by place le = above_at from by place (leb from place) refl le

moved_places : (script : Script) (from by next : ℕ) (bs : List Binder) → from ≤ next → ArePlaced (length script.sorts) next bs → ArePlaced (length script.sorts) (next + by) (map (shifted_binder from by) bs)
moved_places script from by next [] le placed = placed
moved_places script from by next (b ∷ bs) le placed =
    let later : next + 1 + by ≡ next + by + 1 = omega arith in
    (ap (shifted_place from by) placed.0 ∙ above from by next le, placed.1, subst (λ (n : ℕ). ArePlaced (length script.sorts) n (map (shifted_binder from by) bs)) later (moved_places script from by (next + 1) bs (omega arith) placed.2))

moved_binders : (script : Script) (from by next : ℕ) (bs : List Binder) → from ≤ next → AreBinders (length script.sorts) next bs → AreBinders (length script.sorts) (next + by) (map (shifted_binder from by) bs)
moved_binders script from by next bs le bound =
    record { some = subst (λ (n : ℕ). 0 < n) (sym (moved_length from by bs)) bound.some; placed = moved_places script from by next bs le bound.placed }

-- formulas with their variables moved
module _ (script : Script) where
  mutual
    pub moved_formula : (from by next : ℕ) (scope other : List Binder) → from ≤ next → Moves from by scope other → (f : Formula) → IsFormula script scope next f → IsFormula script other (next + by) (shifted_formula from by f)
    moved_formula from by next scope other le moves f (IsPlaced.truth sc n b) = rw (move.moved-Truth from by b) (IsPlaced.truth other (n + by) b)
    moved_formula from by next scope other le moves f (IsPlaced.atom sc n t h) =
        rw (move.moved-Atom from by t) (IsPlaced.atom other (n + by) (shifted_term from by t) (record { sort = moved_term script from by sc other moves t plain.Truth h.sort; other = moved_no_truth script from by sc t h.sort h.other }))
    moved_formula from by next scope other le moves f (IsPlaced.equal sc n s t e index g h) =
        rw (move.moved-Equal from by s t) (IsPlaced.equal other (n + by) (shifted_term from by s) (shifted_term from by t) e index (moved_term script from by sc other moves s e g) (moved_term script from by sc other moves t e h))
    moved_formula from by next scope other le moves f (IsPlaced.at_most sc n s t g h) =
        rw (move.moved-AtMost from by s t) (IsPlaced.at_most other (n + by) (shifted_term from by s) (shifted_term from by t) (moved_term script from by sc other moves s plain.Int g) (moved_term script from by sc other moves t plain.Int h))
    moved_formula from by next scope other le moves f (IsPlaced.same sc n a b i e g h) =
        rw (move.moved-SameArray from by a b) (IsPlaced.same other (n + by) a b i e (closed_array script sc other a i e g) (closed_array script sc other b i e h))
    moved_formula from by next scope other le moves f (IsPlaced.negation sc n g h) =
        rw (move.moved-Not from by g) (IsPlaced.negation other (n + by) (shifted_formula from by g) (moved_formula from by n sc other le moves g h))
    moved_formula from by next scope other le moves f (IsPlaced.conjunction sc n g h gs hs) =
        rw (move.moved-All from by (g ∷ h ∷ gs)) (IsPlaced.conjunction other (n + by) (shifted_formula from by g) (shifted_formula from by h) (map (shifted_formula from by) gs) (moved_formulas from by n sc other le moves (g ∷ h ∷ gs) hs))
    moved_formula from by next scope other le moves f (IsPlaced.disjunction sc n g h gs hs) =
        rw (move.moved-Any from by (g ∷ h ∷ gs)) (IsPlaced.disjunction other (n + by) (shifted_formula from by g) (shifted_formula from by h) (map (shifted_formula from by) gs) (moved_formulas from by n sc other le moves (g ∷ h ∷ gs) hs))
    moved_formula from by next scope other le moves f (IsPlaced.equivalence sc n g h hg hh ng nh) =
        rw (move.moved-Iff from by g h) (IsPlaced.equivalence other (n + by) (shifted_formula from by g) (shifted_formula from by h)
        (moved_formula from by n sc other le moves g hg) (moved_formula from by n sc other le moves h hh)
        (moved_variables script from by n sc g hg ∙ ng) (moved_variables script from by n sc h hh ∙ nh))
    moved_formula from by next scope other le moves f (IsPlaced.choice sc n c g h nc hc hg hh) =
        let same = moved_variables script from by n sc g hg in
        let at : n + variables_in g + by ≡ n + by + variables_in (shifted_formula from by g) = omega arith in
        rw (move.moved-Choose from by c g h) (IsPlaced.choice other (n + by) (shifted_formula from by c) (shifted_formula from by g) (shifted_formula from by h) (moved_variables script from by n sc c hc ∙ nc)
        (moved_formula from by n sc other le moves c hc) (moved_formula from by n sc other le moves g hg)
        (subst (λ (m : ℕ). IsFormula script other m (shifted_formula from by h)) at (moved_formula from by (n + variables_in g) sc other (omega arith) moves h hh)))
    moved_formula from by next scope other le moves f (IsPlaced.universal sc n bs g bound h) =
        let same = moved_length from by bs in
        let at : n + length bs + by ≡ n + by + length (map (shifted_binder from by) bs) = omega arith in
        rw (move.moved-Forall from by bs g) (IsPlaced.universal other (n + by) (map (shifted_binder from by) bs) (shifted_formula from by g) (moved_binders script from by n bs le bound)
        (subst (λ (m : ℕ). IsFormula script (map (shifted_binder from by) bs ++ other) m (shifted_formula from by g)) at
        (moved_formula from by (n + length bs) (bs ++ sc) (map (shifted_binder from by) bs ++ other) (omega arith) (moved_scope from by bs sc other moves) g h)))
    moved_formula from by next scope other le moves f (IsPlaced.existential sc n bs g bound h) =
        let same = moved_length from by bs in
        let at : n + length bs + by ≡ n + by + length (map (shifted_binder from by) bs) = omega arith in
        rw (move.moved-Exists from by bs g) (IsPlaced.existential other (n + by) (map (shifted_binder from by) bs) (shifted_formula from by g) (moved_binders script from by n bs le bound)
        (subst (λ (m : ℕ). IsFormula script (map (shifted_binder from by) bs ++ other) m (shifted_formula from by g)) at
        (moved_formula from by (n + length bs) (bs ++ sc) (map (shifted_binder from by) bs ++ other) (omega arith) (moved_scope from by bs sc other moves) g h)))

    moved_formulas : (from by next : ℕ) (scope other : List Binder) → from ≤ next → Moves from by scope other → (fs : List Formula) → AreFormulas script scope next fs → AreFormulas script other (next + by) (map (shifted_formula from by) fs)
    moved_formulas from by next scope other le moves fs (AreAllPlaced.no_formulas sc n) = AreAllPlaced.no_formulas other (n + by)
    moved_formulas from by next scope other le moves fs (AreAllPlaced.more_formulas sc n f gs h hs) =
        let same = moved_variables script from by n sc f h in
        let at : n + variables_in f + by ≡ n + by + variables_in (shifted_formula from by f) = omega arith in
        AreAllPlaced.more_formulas other (n + by) (shifted_formula from by f) (map (shifted_formula from by) gs) (moved_formula from by n sc other le moves f h)
        (subst (λ (m : ℕ). AreFormulas script other m (map (shifted_formula from by) gs)) at (moved_formulas from by (n + variables_in f) sc other (omega arith) moves gs hs))

-- a variable that is bound
variable_read : (script : Script) (scope : List Binder) (next place : ℕ) (s : Sort) (p : Plain) → s ≡ plain_sort p → IsIndexSort (length script.sorts) p → sort_at scope place ≡ Some s → IsRead script scope next (meaning.Term s (term.Var place))
variable_read script scope next place s p same index found =
    let depth = term_measure.depth-Var place in
    record { meaning = record { is = p; sort = same; index = index; term = HasSortIn.variable place p index (found ∙ ap Some same) }; depth = omega arith }

variable_is_read : (script : Script) (scope : List Binder) (next place : ℕ) (s : Sort) → IsVariableSort (length script.sorts) s → sort_at scope place ≡ Some s → IsRead script scope next (meaning.Term s (term.Var place))
variable_is_read script scope next place sort.Truth is found = absurd is
variable_is_read script scope next place sort.Int is found = variable_read script scope next place sort.Int plain.Int refl is found
variable_is_read script scope next place (sort.Elem s) is found = variable_read script scope next place (sort.Elem s) (plain.Elem s) refl is found
variable_is_read script scope next place (sort.Array i e) is found = absurd is

-- a value that was read in a scope outside
below_at : (from by place : ℕ) (t : Bool) → leb from place ≡ t → place < from → cond t (place + by) place ≡ place
below_at from by place true e lt = absurd (grind (arith, nat_tests))
below_at from by place false e lt = refl

below_moves : (from by : ℕ) (outside scope : List Binder) → IsBelow from outside → Extends outside scope → Moves from by outside scope
below_moves from by outside scope below wider place s e =
    let same : shifted_place from by place ≡ place = below_at from by place (leb from place) refl (below place s e) in
    ap (sort_at scope) same ∙ wider place s e

value_read : (script : Script) (scope outside : List Binder) (next from : ℕ) (m : Meaning) → from ≤ next → IsBelow from outside → Extends outside scope → IsRead script outside from m → IsRead script scope next (shifted from (next - from) m)
value_read script scope outside next from (meaning.Formula f) le below wider read =
    let by : ℕ = next - from in
    let at : from + by ≡ next = omega arith in
    let deep = moved_depth script from by from outside f read.meaning in
    let most = read.depth in
    record {
      meaning = subst (λ (n : ℕ). IsFormula script scope n (shifted_formula from by f)) at (moved_formula script from by from outside scope (omega arith) (below_moves from by outside scope below wider) f read.meaning);
      depth = omega arith;
    }
value_read script scope outside next from (meaning.Term s t) le below wider read =
    let is = read.meaning in
    record { meaning = record { is = is.is; sort = is.sort; index = is.index; term = widened_term script outside scope wider t is.is is.term }; depth = read.depth }
value_read script scope outside next from (meaning.Array i e a) le below wider read =
    let is = read.meaning in
    record { meaning = record { index = is.index; element = is.element; array = widened_array script outside scope wider a i e is.array; closed = is.closed }; depth = read.depth }

-- what a name in scope means
pub bound_read : (script : Script) (scope : List Binder) (next : ℕ) (bound : Bound) → IsBound script scope next bound → IsRead script scope next (meaning_in_scope next bound)
bound_read script scope next (Variable place s) is = variable_is_read script scope next place s is.sort is.bound
bound_read script scope next (Value from m) is = value_read script scope is.outside next from m is.before is.below is.extends is.read
