-- The label of an asserted S-expression.
use Rattle.std.proofs.Common.{◌≡◌, ℕ, suc, ℤ, pos, negsuc, Bool, true, false, List, [], ◌∷◌, map, Option, None, Some, Ok, codes, refl, ap, ◌∙◌, arith, ◌++◌, length}
use Rattle.std.specs.List.{list_any}
use Rattle.mbqi_terms.specs.declared.formula.Formula.{Formula}
use Rattle.mbqi_terms.specs.declared.script.Assertion.{Assertion}
use Rattle.mbqi_terms.specs.declared.script.Function.{Function}
use Rattle.mbqi_terms.specs.declared.script.Script.{Script}
use Rattle.mbqi_terms.specs.declared.sort.Binder.{Binder}
use Rattle.mbqi_terms.specs.declared.sort.Plain.{Plain}
use Rattle.mbqi_terms.specs.declared.term.Term.{Term}
use Rattle.sexpr_text.specs.declared.tree.Sexpr.{Sexpr}
use Rattle.sexpr_text.specs.declared.tree.Sexpr.TheVariants as tree
use Rattle.smtlib_decls.specs.Labels.{attributes_in, is_labelled, is_taken, label_among, label_of}
use Rattle.smtlib_printer.specs.Names.{name_in, variable_text}
use Rattle.smtlib_terms.specs.Reading.{trees_in}
use Rattle.smtlib_terms.specs.Words.{is_reserved_word, is_text}
use Rattle.smtlib_terms.proofs.TermTrees.{trees_in-List, trees_in-Numeral, trees_in-Symbol}
use Rattle.smtlib_terms.proofs.Texts.{other_text}
use Rattle.mbqi_terms.specs.HasSort.{HasSortIn}
use Rattle.mbqi_terms.specs.InForm.{DifferInLabels, IsPlaced}
use Rattle.smtlib_terms.specs.InForm.{HasSort, IsFormula}
use Rattle.printed_trees.specs.Names.{AreToldApart}
use Rattle.printed_trees.proofs.Scopes.{function_found}
use Rattle.printed_trees.specs.Trees.{applied_tree, formula_tree, labelled_tree, number_tree, term_tree, truth_tree}
use Rattle.printed_trees.proofs.TreeLaws as tree_law
use Rattle.printed_trees.proofs.Words.{no_word}
use Rattle.printed_script.proofs.Declarations.{get_middle}

-- no attributes
abbrev HasNone : Sexpr → Type 0
HasNone t = attributes_in (trees_in t) ≡ []

word_none : (w : List ℕ) (ts : List Sexpr) → is_text w (codes "!") ≡ false → attributes_in (tree.Symbol w ∷ ts) ≡ []
word_none w [] other = refl
word_none w (t ∷ ts) other = rw other refl

list_none : (w : List ℕ) (ts : List Sexpr) → is_text w (codes "!") ≡ false → HasNone (tree.List (tree.Symbol w ∷ ts))
list_none w ts other = ap attributes_in (trees_in-List (tree.Symbol w ∷ ts)) ∙ word_none w ts other

symbol_none : (w : List ℕ) → HasNone (tree.Symbol w)
symbol_none w = ap attributes_in (trees_in-Symbol w)

number_none : (n : ℤ) → HasNone (number_tree n)
number_none (pos n) = ap attributes_in (trees_in-Numeral _)
number_none (negsuc n) = list_none (codes "-") _ refl

truth_none : (b : Bool) → HasNone (truth_tree b)
truth_none true = symbol_none (codes "true")
truth_none false = symbol_none (codes "false")

at_reserved : is_reserved_word (codes "!") ≡ true
unfolding is_reserved_word
at_reserved = refl

applied_none : (w : List ℕ) (ts : List Sexpr) → is_text w (codes "!") ≡ false → HasNone (applied_tree (tree.Symbol w) ts)
applied_none w [] other = symbol_none w
applied_none w (t ∷ ts) other = list_none w (t ∷ ts) other

same_none : (t u : Sexpr) → t ≡ u → HasNone u → HasNone t
same_none t u e is = ap (λ (v : Sexpr). attributes_in (trees_in v)) e ∙ is

term_none : (script : Script) (marks : ℕ) (told : AreToldApart script marks) (scope : List Binder) (t : Term) (s : Plain) → HasSort script scope t s → HasNone (term_tree script marks t)
term_none script marks told scope t s (HasSortIn.number n within) = same_none _ _ (tree_law.term-Num script marks n) (number_none n)
term_none script marks told scope t s (HasSortIn.sum u n h base some within) = same_none _ _ (tree_law.term-Plus script marks u n) (list_none (codes "+") _ refl)
term_none script marks told scope t s (HasSortIn.variable place e index found) = same_none _ _ (tree_law.term-Var script marks place) (symbol_none (variable_text marks place))
term_none script marks told scope t s (HasSortIn.application f ts args e d hs) =
    let is = function_found script marks f d.function told d.there in
    same_none _ _ (tree_law.term-Apply script marks f ts)
    (same_none _ _ (ap (λ (o : Option Function). applied_tree (tree.Symbol (name_in o)) (map (term_tree script marks) ts)) d.there)
    (applied_none d.function.name (map (term_tree script marks) ts) (no_word d.function.name (codes "!") is.no_word at_reserved)))
term_none script marks told scope t s (HasSortIn.reading a u i e h index g) = same_none _ _ (tree_law.term-Read script marks a u) (list_none (codes "select") _ refl)
term_none script marks told scope t s (HasSortIn.last a e h closed) = same_none _ _ (tree_law.term-Default script marks a) (list_none (codes "default") _ refl)
term_none script marks told scope t s (HasSortIn.truth b) = same_none _ _ (tree_law.term-Truth script marks b) (truth_none b)
term_none script marks told scope t s (HasSortIn.skolem assertion place ts args e hides d hs) = absurd cc
term_none script marks told scope t s (HasSortIn.seed k hides below) = absurd cc
term_none script marks told scope t s (HasSortIn.far hides) = absurd cc
term_none script marks told scope t s (HasSortIn.differing a b i e hides index ha hb) = absurd cc

formula_none : (script : Script) (marks : ℕ) (told : AreToldApart script marks) (scope : List Binder) (next : ℕ) (f : Formula) → IsFormula script scope next f → HasNone (formula_tree script marks f)
formula_none script marks told scope next f (IsPlaced.truth sc n b) = same_none _ _ (tree_law.formula-Truth script marks b) (truth_none b)
formula_none script marks told scope next f (IsPlaced.atom sc n t h) = same_none _ _ (tree_law.formula-Atom script marks t) (term_none script marks told sc t _ h.sort)
formula_none script marks told scope next f (IsPlaced.equal sc n s t e index hs ht) = same_none _ _ (tree_law.formula-Equal script marks s t) (list_none (codes "=") _ refl)
formula_none script marks told scope next f (IsPlaced.at_most sc n s t hs ht) = same_none _ _ (tree_law.formula-AtMost script marks s t) (list_none (codes "<=") _ refl)
formula_none script marks told scope next f (IsPlaced.same sc n a b i e ha hb) = same_none _ _ (tree_law.formula-SameArray script marks a b) (list_none (codes "=") _ refl)
formula_none script marks told scope next f (IsPlaced.negation sc n g h) = same_none _ _ (tree_law.formula-Not script marks g) (list_none (codes "not") _ refl)
formula_none script marks told scope next f (IsPlaced.conjunction sc n g h gs hs) = same_none _ _ (tree_law.formula-All script marks (g ∷ h ∷ gs)) (list_none (codes "and") _ refl)
formula_none script marks told scope next f (IsPlaced.disjunction sc n g h gs hs) = same_none _ _ (tree_law.formula-Any script marks (g ∷ h ∷ gs)) (list_none (codes "or") _ refl)
formula_none script marks told scope next f (IsPlaced.equivalence sc n g h hg hh ng nh) = same_none _ _ (tree_law.formula-Iff script marks g h) (list_none (codes "=") _ refl)
formula_none script marks told scope next f (IsPlaced.choice sc n c g h nc hc hg hh) = same_none _ _ (tree_law.formula-Choose script marks c g h) (list_none (codes "ite") _ refl)
formula_none script marks told scope next f (IsPlaced.universal sc n bs g bound h) = same_none _ _ (tree_law.formula-Forall script marks bs g) (list_none (codes "forall") _ refl)
formula_none script marks told scope next f (IsPlaced.existential sc n bs g bound h) = same_none _ _ (tree_law.formula-Exists script marks bs g) (list_none (codes "exists") _ refl)

-- the label of a formula with one, and of one without
pub label_is : (script : Script) (marks : ℕ) (told : AreToldApart script marks) (label : Option (List ℕ)) (f : Formula) → IsFormula script [] 0 f → label_of (labelled_tree label (formula_tree script marks f)) ≡ Ok label
unfolding label_of
label_is script marks told None f is = ap label_among (formula_none script marks told [] 0 f is)
label_is script marks told (Some label) f is =
    ap (λ (ts : List Sexpr). label_among (attributes_in ts)) (trees_in-List (tree.Symbol (codes "!") ∷ formula_tree script marks f ∷ tree.Keyword (codes "named") ∷ tree.Symbol label ∷ []))

-- a label that no assertion before has
labelled_other : (label : List ℕ) (other : Option (List ℕ)) → ((o : List ℕ) → other ≡ Some o → is_text o label ≡ false) → is_labelled label other ≡ false
labelled_other label None differ = refl
labelled_other label (Some o) differ = differ o refl

not_labelled : (label : List ℕ) (done : List Assertion) (a : Assertion) (rest : List Assertion) → a.label ≡ Some label → DifferInLabels (done ++ a ∷ rest) → list_any (λ (b : Assertion). is_labelled label b.label) done ≡ false
not_labelled label [] a rest own differ = refl
not_labelled label (b ∷ done) a rest own differ =
    let other : is_labelled label b.label ≡ false =
    labelled_other label b.label (λ o has. other_text o label (λ same.
    let at : 0 ≡ suc (length done) = differ 0 (suc (length done)) b a label refl (get_middle done a rest) (has ∙ ap Some same) own in absurd (omega arith))) in
    rw other (not_labelled label done a rest own (λ i j c d l e f g h. let at : suc i ≡ suc j = differ (suc i) (suc j) c d l e f g h in omega arith))

taken_by : (label : Option (List ℕ)) (done : List Assertion) (a : Assertion) (rest : List Assertion) → a.label ≡ label → DifferInLabels (done ++ a ∷ rest) → is_taken label done ≡ false
taken_by None done a rest own differ = refl
taken_by (Some label) done a rest own differ = not_labelled label done a rest own differ

pub not_taken : (done : List Assertion) (a : Assertion) (rest : List Assertion) → DifferInLabels (done ++ a ∷ rest) → is_taken a.label done ≡ false
not_taken done a rest differ = taken_by a.label done a rest refl differ
