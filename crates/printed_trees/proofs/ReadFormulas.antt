-- The S-expression of a formula in form means it.
use Rattle.std.proofs.Common.{◌≡◌, ◌≤◌, ℕ, ◌+◌, Bool, false, cond, List, [], ◌∷◌, ◌++◌, length, map, Result, Ok, Err, refl, ap, ◌∙◌, subst, arith}
use Rattle.std.specs.Prelude.{codes}
use Rattle.mbqi_values.specs.declared.fault.FaultKind.{FaultKind}
use Rattle.mbqi_values.specs.declared.fault.FaultKind.TheVariants.{WrongCount}
use Rattle.mbqi_terms.specs.declared.formula.Formula.{Formula}
use Rattle.mbqi_terms.specs.declared.formula.Formula.TheVariants as formula
use Rattle.mbqi_terms.specs.declared.script.Script.{Script}
use Rattle.mbqi_terms.specs.declared.sort.Binder.{Binder}
use Rattle.mbqi_terms.specs.declared.sort.Plain.{Plain}
use Rattle.mbqi_terms.specs.declared.sort.Plain.TheVariants as plain
use Rattle.mbqi_terms.specs.declared.sort.Sort.TheVariants as sort
use Rattle.mbqi_terms.specs.declared.term.ArrayTerm.{ArrayTerm}
use Rattle.mbqi_terms.specs.declared.term.Term.{Term}
use Rattle.smtlib_terms.specs.declared.meaning.Meaning.{Meaning}
use Rattle.smtlib_terms.specs.declared.meaning.Meaning.TheVariants as meaning
use Rattle.smtlib_terms.specs.declared.word.Word.TheVariants as word
use Rattle.mbqi_terms.specs.Depth.{deepest, depth_of_formula}
use Rattle.smtlib_terms.specs.Names.{◌>>=◌}
use Rattle.smtlib_terms.specs.Operators.{applied, as_formulas, connective, formula_meant, is_wide_term, joined, meant, term_meant}
use Rattle.smtlib_terms.specs.Reading.{part_of, parts_read}
use Rattle.measured_terms.proofs.FormulaLaws as measure
use Rattle.mbqi_terms.specs.HasSort.{IsIndexSort}
use Rattle.mbqi_terms.specs.InForm.{AreAllPlaced, IsPlaced}
use Rattle.smtlib_terms.specs.InForm.{AreFormulas, IsFormula}
use Rattle.smtlib_terms.proofs.Tests.{le_true}
use Rattle.printed_trees.specs.Names.{AreSmall, AreToldApart, HasSmallPlaces, bindings_of, signature_of}
use Rattle.printed_trees.proofs.ReadNumbers.{truth_means}
use Rattle.printed_trees.proofs.ReadParts.{one_read, parts_more, sides_read, three_read, word_means}
use Rattle.printed_trees.proofs.Places.{HaveSmallPlaces, in_all, in_any, in_choose, in_exists, in_forall, in_iff, in_more, in_not}
use Rattle.printed_trees.proofs.Scopes.{bound_small}
use Rattle.printed_trees.specs.Trees.{array_tree, binders_tree, formula_tree, term_tree}
use Rattle.printed_trees.proofs.Depths.{first_deep, rest_deep}
use Rattle.printed_trees.proofs.Meanings.{narrow_term}
use Rattle.printed_trees.proofs.ReadBinders.{binders_own, quantifier_ok}
use Rattle.printed_trees.proofs.ReadNames.{own_plain, own_sort}
use Rattle.printed_trees.proofs.ReadTerms.{Reads, array_means, at_tree, atom_means, index_means}
use Rattle.printed_trees.proofs.TreeLaws as tree_law
use Rattle.printed_trees.proofs.Words.{and_word, at_most_word, equal_word, exists_word, forall_word, ite_word, not_word, or_word}
use Rattle.mbqi_terms.specs.Binders.{variables_in}

-- what the operators make of their arguments
equal_ok : (script : Script) (e : Plain) (s t : Term) → IsIndexSort (length script.sorts) e → is_wide_term s ≡ false → is_wide_term t ≡ false →
    applied word.Equal (term_meant e s ∷ term_meant e t ∷ []) ≡ Ok (meaning.Formula (formula.Equal s t))
equal_ok script plain.Truth s t is ns nt = absurd is
equal_ok script plain.Int s t is ns nt = rw (ns, nt) refl
equal_ok script (plain.Elem k) s t is ns nt = rw (own_sort (plain.Elem k)) refl

at_most_ok : (s t : Term) → is_wide_term s ≡ false → is_wide_term t ≡ false →
    applied word.AtMost (meaning.Term sort.Int s ∷ meaning.Term sort.Int t ∷ []) ≡ Ok (meaning.Formula (formula.AtMost s t))
at_most_ok s t ns nt = rw (ns, nt) refl

same_ok : (i e : Plain) (a b : ArrayTerm) → applied word.Equal (meaning.Array i e a ∷ meaning.Array i e b ∷ []) ≡ Ok (meaning.Formula (formula.SameArray a b))
same_ok i e a b = rw (own_plain i, own_plain e) refl

iff_ok : (f g : Formula) → variables_in f ≡ 0 → variables_in g ≡ 0 → applied word.Equal (meaning.Formula f ∷ meaning.Formula g ∷ []) ≡ Ok (meaning.Formula (formula.Iff f g))
iff_ok f g nf ng = rw (nf, ng) refl

choose_ok : (c f g : Formula) → variables_in c ≡ 0 → applied word.Choose (meaning.Formula c ∷ meaning.Formula f ∷ meaning.Formula g ∷ []) ≡ Ok (meaning.Formula (formula.Choose c f g))
choose_ok c f g nc = rw nc refl

abbrev formula_meanings : List Formula → List Meaning
formula_meanings fs = map (λ (f : Formula). meaning.Formula f) fs

all_formulas : (fs : List Formula) → as_formulas (formula_meanings fs) ≡ Ok fs
all_formulas [] = refl
all_formulas (f ∷ fs) = ap (λ (r : Result (List Formula) FaultKind). r >>= (λ (gs : List Formula). Ok (f ∷ gs))) (all_formulas fs)

connective_ok : (join : List Formula → Formula) (f g : Formula) (fs : List Formula) → formula_meant (connective join (formula_meanings (f ∷ g ∷ fs))) ≡ Ok (meaning.Formula (join (f ∷ g ∷ fs)))
connective_ok join f g fs =
    let args = formula_meanings (f ∷ g ∷ fs) in
    ap (λ (t : Bool). formula_meant (cond t (as_formulas args >>= (λ (hs : List Formula). Ok (joined join hs))) (Err WrongCount))) (le_true 1 (length args) (omega arith))
    ∙ ap (λ (r : Result (List Formula) FaultKind). formula_meant (r >>= (λ (hs : List Formula). Ok (joined join hs)))) (all_formulas (f ∷ g ∷ fs))

-- from a place to an equal one
pub moved : (script : Script) (marks : ℕ) (scope : List Binder) (next other : ℕ) (f : Formula) → next ≡ other → Reads script marks scope next (formula_tree script marks f) (meaning.Formula f) → Reads script marks scope other (formula_tree script marks f) (meaning.Formula f)
moved script marks scope next other f e is = subst (λ (n : ℕ). Reads script marks scope n (formula_tree script marks f) (meaning.Formula f)) e is

module _ (script : Script) where
  mutual
    pub formula_means : (marks : ℕ) (told : AreToldApart script marks) (scope : List Binder) (small : AreSmall scope) (next : ℕ) (f : Formula) → IsFormula script scope next f → HasSmallPlaces next f → depth_of_formula f ≤ 1000 → Reads script marks scope next (formula_tree script marks f) (meaning.Formula f)
    formula_means marks told scope small next f (IsPlaced.truth sc n b) within deep =
        at_tree _ _ _ _ _ _ (tree_law.formula-Truth script marks b) (truth_means b _ _ n)
    formula_means marks told scope small next f (IsPlaced.atom sc n t h) within deep =
        let same = measure.depth-Atom t in
        at_tree _ _ _ _ _ _ (tree_law.formula-Atom script marks t) (atom_means script marks told sc small n t plain.Truth h.sort h.other (omega arith))
    formula_means marks told scope small next f (IsPlaced.equal sc n s t e index hs ht) within deep =
        let below = measure.depth-Equal s t in
        at_tree _ _ _ _ _ _ (tree_law.formula-Equal script marks s t)
        (word_means (codes "=") word.Equal (term_tree script marks s ∷ term_tree script marks t ∷ []) _ _ n (meaning.Formula (formula.Equal s t)) equal_word
        (ap meant (sides_read word.Equal (term_tree script marks s) (term_tree script marks t) _ _ n (term_meant e s) (term_meant e t)
        (index_means script marks told sc small n s e index hs (omega arith)) (index_means script marks told sc small _ t e index ht (omega arith))
        ∙ equal_ok script e s t index (narrow_term script sc s e hs) (narrow_term script sc t e ht)))
        deep)
    formula_means marks told scope small next f (IsPlaced.at_most sc n s t hs ht) within deep =
        let below = measure.depth-AtMost s t in
        at_tree _ _ _ _ _ _ (tree_law.formula-AtMost script marks s t)
        (word_means (codes "<=") word.AtMost (term_tree script marks s ∷ term_tree script marks t ∷ []) _ _ n (meaning.Formula (formula.AtMost s t)) at_most_word
        (ap meant (sides_read word.AtMost (term_tree script marks s) (term_tree script marks t) _ _ n (meaning.Term sort.Int s) (meaning.Term sort.Int t)
        (index_means script marks told sc small n s plain.Int tt hs (omega arith)) (index_means script marks told sc small _ t plain.Int tt ht (omega arith))
        ∙ at_most_ok s t (narrow_term script sc s plain.Int hs) (narrow_term script sc t plain.Int ht)))
        deep)
    formula_means marks told scope small next f (IsPlaced.same sc n a b i e ha hb) within deep =
        let below = measure.depth-SameArray a b in
        at_tree _ _ _ _ _ _ (tree_law.formula-SameArray script marks a b)
        (word_means (codes "=") word.Equal (array_tree script marks a ∷ array_tree script marks b ∷ []) _ _ n (meaning.Formula (formula.SameArray a b)) equal_word
        (ap meant (sides_read word.Equal (array_tree script marks a) (array_tree script marks b) _ _ n (meaning.Array i e a) (meaning.Array i e b)
        (array_means script marks told sc small n a i e ha (omega arith)) (array_means script marks told sc small _ b i e hb (omega arith))
        ∙ same_ok i e a b))
        deep)
    formula_means marks told scope small next f (IsPlaced.negation sc n g h) within deep =
        let below = measure.depth-Not g in
        at_tree _ _ _ _ _ _ (tree_law.formula-Not script marks g)
        (word_means (codes "not") word.Not (formula_tree script marks g ∷ []) _ _ n (meaning.Formula (formula.Not g)) not_word
        (ap (λ (r : Result (List Meaning) FaultKind). meant (r >>= applied word.Not))
        (one_read (formula_tree script marks g) _ _ n (meaning.Formula g) (formula_means marks told sc small n g h (in_not n g within) (omega arith))))
        deep)
    formula_means marks told scope small next f (IsPlaced.conjunction sc n g h gs hs) within deep =
        let below = measure.depth-All (g ∷ h ∷ gs) in
        at_tree _ _ _ _ _ _ (tree_law.formula-All script marks (g ∷ h ∷ gs))
        (word_means (codes "and") word.And (map (formula_tree script marks) (g ∷ h ∷ gs)) _ _ n (meaning.Formula (formula.All (g ∷ h ∷ gs))) and_word
        (ap (λ (r : Result (List Meaning) FaultKind). meant (r >>= applied word.And)) (formulas_mean marks told sc small n (g ∷ h ∷ gs) hs (in_all n (g ∷ h ∷ gs) within) (omega arith))
        ∙ ap meant (connective_ok formula.All g h gs))
        deep)
    formula_means marks told scope small next f (IsPlaced.disjunction sc n g h gs hs) within deep =
        let below = measure.depth-Any (g ∷ h ∷ gs) in
        at_tree _ _ _ _ _ _ (tree_law.formula-Any script marks (g ∷ h ∷ gs))
        (word_means (codes "or") word.Or (map (formula_tree script marks) (g ∷ h ∷ gs)) _ _ n (meaning.Formula (formula.Any (g ∷ h ∷ gs))) or_word
        (ap (λ (r : Result (List Meaning) FaultKind). meant (r >>= applied word.Or)) (formulas_mean marks told sc small n (g ∷ h ∷ gs) hs (in_any n (g ∷ h ∷ gs) within) (omega arith))
        ∙ ap meant (connective_ok formula.Any g h gs))
        deep)
    formula_means marks told scope small next f (IsPlaced.equivalence sc n g h hg hh ng nh) within deep =
        let below = measure.depth-Iff g h in
        at_tree _ _ _ _ _ _ (tree_law.formula-Iff script marks g h)
        (word_means (codes "=") word.Equal (formula_tree script marks g ∷ formula_tree script marks h ∷ []) _ _ n (meaning.Formula (formula.Iff g h)) equal_word
        (ap meant (sides_read word.Equal (formula_tree script marks g) (formula_tree script marks h) _ _ n (meaning.Formula g) (meaning.Formula h)
        (formula_means marks told sc small n g hg (in_iff n g h within).0 (omega arith))
        (moved script marks sc n (n + variables_in g) h (omega arith) (formula_means marks told sc small n h hh (in_iff n g h within).1 (omega arith)))
        ∙ iff_ok g h ng nh))
        deep)
    formula_means marks told scope small next f (IsPlaced.choice sc n c g h nc hc hg hh) within deep =
        let below = measure.depth-Choose c g h in
        at_tree _ _ _ _ _ _ (tree_law.formula-Choose script marks c g h)
        (word_means (codes "ite") word.Choose (formula_tree script marks c ∷ formula_tree script marks g ∷ formula_tree script marks h ∷ []) _ _ n (meaning.Formula (formula.Choose c g h)) ite_word
        (ap (λ (r : Result (List Meaning) FaultKind). meant (r >>= applied word.Choose))
        (three_read (formula_tree script marks c) (formula_tree script marks g) (formula_tree script marks h) _ _ n (meaning.Formula c) (meaning.Formula g) (meaning.Formula h)
        (formula_means marks told sc small n c hc (in_choose n c g h within).0 (omega arith))
        (moved script marks sc n (n + variables_in c) g (omega arith) (formula_means marks told sc small n g hg (in_choose n c g h within).1 (omega arith)))
        (moved script marks sc (n + variables_in g) (n + variables_in c + variables_in g) h (omega arith) (formula_means marks told sc small (n + variables_in g) h hh (in_choose n c g h within).2 (omega arith))))
        ∙ ap meant (choose_ok c g h nc))
        deep)
    formula_means marks told scope small next f (IsPlaced.universal sc n bs g bound h) within deep =
        let below = measure.depth-Forall bs g in
        at_tree _ _ _ _ _ _ (tree_law.formula-Forall script marks bs g)
        (word_means (codes "forall") word.Forall (binders_tree script marks bs ∷ formula_tree script marks g ∷ []) _ _ n (meaning.Formula (formula.Forall bs g)) forall_word
        (ap meant (quantifier_ok word.Forall script marks n sc bs (formula_tree script marks g) g told bound (in_forall n bs g within).0 (formula_means marks told (bs ++ sc) (bound_small script n bs sc bound (in_forall n bs g within).0 small) (n + length bs) g h (in_forall n bs g within).1 (omega arith))
        ∙ ap (λ (cs : List Binder). Ok (meaning.Formula (formula.Forall cs g))) (binders_own marks bs)))
        deep)
    formula_means marks told scope small next f (IsPlaced.existential sc n bs g bound h) within deep =
        let below = measure.depth-Exists bs g in
        at_tree _ _ _ _ _ _ (tree_law.formula-Exists script marks bs g)
        (word_means (codes "exists") word.Exists (binders_tree script marks bs ∷ formula_tree script marks g ∷ []) _ _ n (meaning.Formula (formula.Exists bs g)) exists_word
        (ap meant (quantifier_ok word.Exists script marks n sc bs (formula_tree script marks g) g told bound (in_exists n bs g within).0 (formula_means marks told (bs ++ sc) (bound_small script n bs sc bound (in_exists n bs g within).0 small) (n + length bs) g h (in_exists n bs g within).1 (omega arith))
        ∙ ap (λ (cs : List Binder). Ok (meaning.Formula (formula.Exists cs g))) (binders_own marks bs)))
        deep)

    pub formulas_mean : (marks : ℕ) (told : AreToldApart script marks) (scope : List Binder) (small : AreSmall scope) (next : ℕ) (fs : List Formula) → AreFormulas script scope next fs → HaveSmallPlaces next fs → deepest (map depth_of_formula fs) ≤ 1000 →
        parts_read (map part_of (map (formula_tree script marks) fs)) (signature_of script) (bindings_of marks scope) next ≡ Ok (map (λ (f : Formula). meaning.Formula f) fs)
    formulas_mean marks told scope small next fs (AreAllPlaced.no_formulas sc n) within deep = refl
    formulas_mean marks told scope small next fs (AreAllPlaced.more_formulas sc n f gs h hs) within deep =
        let first = first_deep (depth_of_formula f) (map depth_of_formula gs) in
        let rest = rest_deep (depth_of_formula f) (map depth_of_formula gs) in
        parts_more (formula_tree script marks f) (map (formula_tree script marks) gs) _ _ n (meaning.Formula f) (map (λ (g : Formula). meaning.Formula g) gs)
        (formula_means marks told sc small n f h (in_more n f gs within).0 (omega arith)) (formulas_mean marks told sc small (n + variables_in f) gs hs (in_more n f gs within).1 (omega arith))
