-- Each atom of the S-expressions of a script in form has a text that its kind can have.
use Rattle.std.proofs.Common.{◌≡◌, ◌<◌, ◌≤◌, ℕ, suc, ◌+◌, ◌-◌, ◌^◌, ℤ, pos, negsuc, Bool, true, false, ◌&&◌, List, [], ◌∷◌, length, map, Option, refl, ap, ◌∙◌, arith}
use Rattle.std.specs.Prelude.{codes, decimal}
use Rattle.std.specs.List.{list_all}
use Rattle.mbqi_terms.specs.declared.formula.Formula.{Formula}
use Rattle.mbqi_terms.specs.declared.script.Function.{Function}
use Rattle.mbqi_terms.specs.declared.script.Script.{Script}
use Rattle.mbqi_terms.specs.declared.sort.Binder.{Binder}
use Rattle.mbqi_terms.specs.declared.sort.Plain.{Plain}
use Rattle.mbqi_terms.specs.declared.sort.Plain.TheVariants as plain
use Rattle.mbqi_terms.specs.declared.sort.Sort.{Sort}
use Rattle.mbqi_terms.specs.declared.sort.Sort.TheVariants as sort
use Rattle.mbqi_terms.specs.declared.term.ArrayTerm.{ArrayTerm}
use Rattle.mbqi_terms.specs.declared.term.MapOp.{MapOp}
use Rattle.mbqi_terms.specs.declared.term.Term.{Term}
use Rattle.sexpr_text.specs.Bytes.{is_quoted_content, is_symbol_byte}
use Rattle.sexpr_text.specs.Legal.{is_legal}
use Rattle.sexpr_text.specs.declared.tree.Sexpr.{Sexpr}
use Rattle.sexpr_text.specs.declared.tree.Sexpr.TheVariants as tree
use Rattle.sexpr_text.proofs.Legality.{all_more, legal-Numeral, legal-Symbol, symbol_is_quoted}
use Rattle.sexpr_text.proofs.ReadBack.{legal-List}
use Rattle.smtlib_printer.specs.Names.{name_in, variable_text}
use Rattle.mbqi_terms.specs.Limits.{is_within}
use Rattle.mbqi_terms.specs.HasSort.{AreArraysIn, HasSortIn, HaveSortsIn, IsArrayIn, IsDeclared, IsIndexSort, IsPlainSort, IsPointwise}
use Rattle.mbqi_terms.specs.InForm.{AreAllPlaced, AreBinders, ArePlaced, IsPlaced, IsVariableSort, plain_lists}
use Rattle.smtlib_terms.specs.InForm.{AreArrays, AreFormulas, HasSort, HaveSorts, IsArray, IsFormula}
use Rattle.smtlib_terms.proofs.Tests.{leb_le, ltb_lt}
use Rattle.printed_trees.specs.Names.{AreSmall, AreToldApart, HasSmallPlaces}
use Rattle.printed_trees.proofs.ReadNumbers.{offset_within}
use Rattle.printed_trees.proofs.Places.{HaveSmallPlaces, in_all, in_any, in_choose, in_exists, in_forall, in_iff, in_more, in_not}
use Rattle.printed_trees.proofs.Scopes.{bound_small, function_found, small_at}
use Rattle.printed_trees.specs.Trees.{applied_tree, array_tree, binder_tree, binders_tree, formula_tree, function_name_tree, map_tree, number_tree, plain_tree, sort_name_tree, sort_tree, term_tree, truth_tree, variable_tree, word_tree}
use Rattle.printed_trees.proofs.Decimals.{decimal_legal, variable_symbols}
use Rattle.printed_trees.proofs.Spelled.{index_plain, sort_is_name}
use Rattle.printed_trees.proofs.TreeLaws as tree_law

-- lists
more_legal : (t : Sexpr) (ts : List Sexpr) → is_legal t ≡ true → list_all is_legal ts ≡ true → list_all is_legal (t ∷ ts) ≡ true
more_legal t ts first rest = ap (λ (b : Bool). b && list_all is_legal ts) first ∙ rest

pub list_legal : (h : Sexpr) (ts : List Sexpr) → is_legal h ≡ true → list_all is_legal ts ≡ true → is_legal (tree.List (h ∷ ts)) ≡ true
list_legal h ts first rest = legal-List (h ∷ ts) ∙ more_legal h ts first rest

pub one_legal : (h a : Sexpr) → is_legal h ≡ true → is_legal a ≡ true → is_legal (tree.List (h ∷ a ∷ [])) ≡ true
one_legal h a eh ea = list_legal h (a ∷ []) eh (more_legal a [] ea refl)

pub two_legal : (h a b : Sexpr) → is_legal h ≡ true → is_legal a ≡ true → is_legal b ≡ true → is_legal (tree.List (h ∷ a ∷ b ∷ [])) ≡ true
two_legal h a b eh ea eb = list_legal h (a ∷ b ∷ []) eh (more_legal a (b ∷ []) ea (more_legal b [] eb refl))

pub three_legal : (h a b c : Sexpr) → is_legal h ≡ true → is_legal a ≡ true → is_legal b ≡ true → is_legal c ≡ true → is_legal (tree.List (h ∷ a ∷ b ∷ c ∷ [])) ≡ true
three_legal h a b c eh ea eb ec = list_legal h (a ∷ b ∷ c ∷ []) eh (more_legal a (b ∷ c ∷ []) ea (more_legal b (c ∷ []) eb (more_legal c [] ec refl)))

applied_legal : (h : Sexpr) (ts : List Sexpr) → is_legal h ≡ true → list_all is_legal ts ≡ true → is_legal (applied_tree h ts) ≡ true
applied_legal h [] eh ets = eh
applied_legal h (t ∷ ts) eh ets = list_legal h (t ∷ ts) eh ets

-- words and names
pub word_legal : (w : List ℕ) → list_all is_symbol_byte w ≡ true → is_legal (word_tree w) ≡ true
word_legal w all = legal-Symbol w ∙ all_more is_symbol_byte is_quoted_content symbol_is_quoted w all

variable_legal : (marks place : ℕ) → place < 2 ^ 64 → is_legal (variable_tree marks place) ≡ true
variable_legal marks place within = word_legal (variable_text marks place) (variable_symbols marks place within)

declared_legal : (script : Script) (marks f : ℕ) (args : List Sort) (result : Sort) → AreToldApart script marks → IsDeclared (plain_lists script.functions) f args result → is_legal (function_name_tree script f) ≡ true
declared_legal script marks f args result told d =
    ap (λ (o : Option Function). is_legal (tree.Symbol (name_in o))) d.there
    ∙ (legal-Symbol d.function.name ∙ (function_found script marks f d.function told d.there).is_name.legal)

sort_name_legal : (script : Script) (marks s : ℕ) → AreToldApart script marks → s < length script.sorts → is_legal (sort_name_tree script s) ≡ true
sort_name_legal script marks s told there = legal-Symbol _ ∙ (sort_is_name script marks s told there).legal

bool_legal : is_legal (word_tree (codes "Bool")) ≡ true
unfolding is_symbol_byte
bool_legal = word_legal (codes "Bool") refl

int_legal : is_legal (word_tree (codes "Int")) ≡ true
unfolding is_symbol_byte
int_legal = word_legal (codes "Int") refl

array_word_legal : is_legal (word_tree (codes "Array")) ≡ true
unfolding is_symbol_byte
array_word_legal = word_legal (codes "Array") refl

minus_legal : is_legal (word_tree (codes "-")) ≡ true
unfolding is_symbol_byte
minus_legal = word_legal (codes "-") refl

true_word_legal : is_legal (word_tree (codes "true")) ≡ true
unfolding is_symbol_byte
true_word_legal = word_legal (codes "true") refl

false_word_legal : is_legal (word_tree (codes "false")) ≡ true
unfolding is_symbol_byte
false_word_legal = word_legal (codes "false") refl

plus_legal : is_legal (word_tree (codes "+")) ≡ true
unfolding is_symbol_byte
plus_legal = word_legal (codes "+") refl

select_legal : is_legal (word_tree (codes "select")) ≡ true
unfolding is_symbol_byte
select_legal = word_legal (codes "select") refl

default_legal : is_legal (word_tree (codes "default")) ≡ true
unfolding is_symbol_byte
default_legal = word_legal (codes "default") refl

store_legal : is_legal (word_tree (codes "store")) ≡ true
unfolding is_symbol_byte
store_legal = word_legal (codes "store") refl

as_word_legal : is_legal (word_tree (codes "as")) ≡ true
unfolding is_symbol_byte
as_word_legal = word_legal (codes "as") refl

const_word_legal : is_legal (word_tree (codes "const")) ≡ true
unfolding is_symbol_byte
const_word_legal = word_legal (codes "const") refl

underscore_legal : is_legal (word_tree (codes "_")) ≡ true
unfolding is_symbol_byte
underscore_legal = word_legal (codes "_") refl

map_word_legal : is_legal (word_tree (codes "map")) ≡ true
unfolding is_symbol_byte
map_word_legal = word_legal (codes "map") refl

and_legal : is_legal (word_tree (codes "and")) ≡ true
unfolding is_symbol_byte
and_legal = word_legal (codes "and") refl

or_legal : is_legal (word_tree (codes "or")) ≡ true
unfolding is_symbol_byte
or_legal = word_legal (codes "or") refl

not_word_legal : is_legal (word_tree (codes "not")) ≡ true
unfolding is_symbol_byte
not_word_legal = word_legal (codes "not") refl

equal_legal : is_legal (word_tree (codes "=")) ≡ true
unfolding is_symbol_byte
equal_legal = word_legal (codes "=") refl

at_most_legal : is_legal (word_tree (codes "<=")) ≡ true
unfolding is_symbol_byte
at_most_legal = word_legal (codes "<=") refl

ite_legal : is_legal (word_tree (codes "ite")) ≡ true
unfolding is_symbol_byte
ite_legal = word_legal (codes "ite") refl

forall_legal : is_legal (word_tree (codes "forall")) ≡ true
unfolding is_symbol_byte
forall_legal = word_legal (codes "forall") refl

exists_legal : is_legal (word_tree (codes "exists")) ≡ true
unfolding is_symbol_byte
exists_legal = word_legal (codes "exists") refl

plain_legal : (script : Script) (marks : ℕ) (s : Plain) → AreToldApart script marks → IsPlainSort (length script.sorts) s → is_legal (plain_tree script s) ≡ true
plain_legal script marks plain.Truth told is = bool_legal
plain_legal script marks plain.Int told is = int_legal
plain_legal script marks (plain.Elem s) told is = sort_name_legal script marks s told is

pub array_sort_legal : (script : Script) (marks : ℕ) (i e : Plain) → AreToldApart script marks → IsIndexSort (length script.sorts) i → IsPlainSort (length script.sorts) e → is_legal (sort_tree script (sort.Array i e)) ≡ true
array_sort_legal script marks i e told index element =
    two_legal _ _ _ array_word_legal (plain_legal script marks i told (index_plain script i index)) (plain_legal script marks e told element)

pub variable_sort_legal : (script : Script) (marks : ℕ) (s : Sort) → AreToldApart script marks → IsVariableSort (length script.sorts) s → is_legal (sort_tree script s) ≡ true
variable_sort_legal script marks sort.Truth told is = absurd is
variable_sort_legal script marks sort.Int told is = int_legal
variable_sort_legal script marks (sort.Elem s) told is = sort_name_legal script marks s told is
variable_sort_legal script marks (sort.Array i e) told is = absurd is

-- numbers and truths
number_legal : (n : ℤ) → is_within (2 ^ 63 - 1) n ≡ true → is_legal (number_tree n) ≡ true
number_legal (pos n) within =
    let small : n ≤ 2 ^ 63 - 1 = leb_le n (2 ^ 63 - 1) within in
    legal-Numeral (decimal n) ∙ decimal_legal n (omega arith)
number_legal (negsuc n) within =
    let small : n < 2 ^ 63 - 1 = ltb_lt n (2 ^ 63 - 1) within in
    one_legal _ _ minus_legal (legal-Numeral (decimal (suc n)) ∙ decimal_legal (suc n) (omega arith))

truth_legal : (b : Bool) → is_legal (truth_tree b) ≡ true
truth_legal true = true_word_legal
truth_legal false = false_word_legal

map_op_legal : (script : Script) (marks : ℕ) (f : MapOp) (es : List Plain) (e : Plain) → AreToldApart script marks → IsPointwise (plain_lists script.functions) f es e → is_legal (map_tree script f) ≡ true
map_op_legal script marks f es e told (IsPointwise.declared number args result d) = declared_legal script marks number _ _ told d
map_op_legal script marks f es e told (IsPointwise.conjunction n) = and_legal
map_op_legal script marks f es e told (IsPointwise.disjunction n) = or_legal
map_op_legal script marks f es e told IsPointwise.negation = not_word_legal

-- terms and array terms
module _ (script : Script) where
  mutual
    pub term_legal : (marks : ℕ) (told : AreToldApart script marks) (scope : List Binder) (small : AreSmall scope) (t : Term) (s : Plain) → HasSort script scope t s → is_legal (term_tree script marks t) ≡ true
    term_legal marks told scope small t s (HasSortIn.number n within) = ap is_legal (tree_law.term-Num script marks n) ∙ number_legal n within
    term_legal marks told scope small t s (HasSortIn.sum u n h base some within) =
        ap is_legal (tree_law.term-Plus script marks u n)
        ∙ two_legal _ _ _ plus_legal (term_legal marks told scope small u plain.Int h) (number_legal n (offset_within n within))
    term_legal marks told scope small t s (HasSortIn.variable place e index found) =
        ap is_legal (tree_law.term-Var script marks place) ∙ variable_legal marks place (small_at scope place _ small found)
    term_legal marks told scope small t s (HasSortIn.application f ts args e d hs) =
        ap is_legal (tree_law.term-Apply script marks f ts)
        ∙ applied_legal _ _ (declared_legal script marks f _ _ told d) (terms_legal marks told scope small ts args hs)
    term_legal marks told scope small t s (HasSortIn.reading a u i e h index g) =
        ap is_legal (tree_law.term-Read script marks a u)
        ∙ two_legal _ _ _ select_legal (array_legal marks told scope small a i e h) (term_legal marks told scope small u i g)
    term_legal marks told scope small t s (HasSortIn.last a e h closed) =
        ap is_legal (tree_law.term-Default script marks a) ∙ one_legal _ _ default_legal (array_legal marks told scope small a plain.Int e h)
    term_legal marks told scope small t s (HasSortIn.truth b) = ap is_legal (tree_law.term-Truth script marks b) ∙ truth_legal b
    term_legal marks told scope small t s (HasSortIn.skolem assertion place ts args e hides d hs) = absurd cc
    term_legal marks told scope small t s (HasSortIn.seed k hides below) = absurd cc
    term_legal marks told scope small t s (HasSortIn.far hides) = absurd cc
    term_legal marks told scope small t s (HasSortIn.differing a b i e hides index ha hb) = absurd cc

    pub terms_legal : (marks : ℕ) (told : AreToldApart script marks) (scope : List Binder) (small : AreSmall scope) (ts : List Term) (ss : List Plain) → HaveSorts script scope ts ss → list_all is_legal (map (term_tree script marks) ts) ≡ true
    terms_legal marks told scope small ts ss HaveSortsIn.no_terms = refl
    terms_legal marks told scope small ts ss (HaveSortsIn.more_terms t us s rs index h hs) =
        more_legal _ _ (term_legal marks told scope small t s h) (terms_legal marks told scope small us rs hs)

    pub array_legal : (marks : ℕ) (told : AreToldApart script marks) (scope : List Binder) (small : AreSmall scope) (a : ArrayTerm) (i e : Plain) → IsArray script scope a i e → is_legal (array_tree script marks a) ≡ true
    array_legal marks told scope small a i e (IsArrayIn.name f j g d) = ap is_legal (tree_law.array-Name script marks f) ∙ declared_legal script marks f _ _ told d
    array_legal marks told scope small a i e (IsArrayIn.store b t v j g h index ht hv closed) =
        ap is_legal (tree_law.array-Store script marks b t v)
        ∙ three_legal _ _ _ _ store_legal (array_legal marks told scope small b j g h) (term_legal marks told scope small t j ht) (term_legal marks told scope small v g hv)
    array_legal marks told scope small a i e (IsArrayIn.constant v j g index element hv closed) =
        ap is_legal (tree_law.array-Const script marks (sort.Array j g) v)
        ∙ one_legal _ _ (two_legal _ _ _ as_word_legal const_word_legal (array_sort_legal script marks j g told index element)) (term_legal marks told scope small v g hv)
    array_legal marks told scope small a i e (IsArrayIn.pointwise f b bs j g es p hs closed) =
        ap is_legal (tree_law.array-Map script marks f (b ∷ bs))
        ∙ list_legal _ _ (two_legal _ _ _ underscore_legal map_word_legal (map_op_legal script marks f es g told p)) (arrays_legal marks told scope small (b ∷ bs) j es hs)

    pub arrays_legal : (marks : ℕ) (told : AreToldApart script marks) (scope : List Binder) (small : AreSmall scope) (arrays : List ArrayTerm) (i : Plain) (es : List Plain) → AreArrays script scope arrays i es → list_all is_legal (map (array_tree script marks) arrays) ≡ true
    arrays_legal marks told scope small arrays i es (AreArraysIn.no_arrays j) = refl
    arrays_legal marks told scope small arrays i es (AreArraysIn.more_arrays a bs j e gs h hs) =
        more_legal _ _ (array_legal marks told scope small a j e h) (arrays_legal marks told scope small bs j gs hs)

-- binders
placed_legal : (script : Script) (marks next : ℕ) (bs : List Binder) → AreToldApart script marks → ArePlaced (length script.sorts) next bs → next + length bs ≤ 2 ^ 64 → list_all is_legal (map (binder_tree script marks) bs) ≡ true
placed_legal script marks next [] told placed within = refl
placed_legal script marks next (b ∷ bs) told placed within =
    let below : b.place < 2 ^ 64 = let at = placed.0 in omega arith in
    more_legal _ _ (one_legal _ _ (variable_legal marks b.place below) (variable_sort_legal script marks b.sort told placed.1)) (placed_legal script marks (next + 1) bs told placed.2 (omega arith))

binders_legal : (script : Script) (marks next : ℕ) (bs : List Binder) → AreToldApart script marks → AreBinders (length script.sorts) next bs → next + length bs ≤ 2 ^ 64 → is_legal (binders_tree script marks bs) ≡ true
binders_legal script marks next bs told bound within = legal-List _ ∙ placed_legal script marks next bs told bound.placed within

-- formulas
module _ (script : Script) where
  mutual
    pub formula_legal : (marks : ℕ) (told : AreToldApart script marks) (scope : List Binder) (small : AreSmall scope) (next : ℕ) (f : Formula) → IsFormula script scope next f → HasSmallPlaces next f → is_legal (formula_tree script marks f) ≡ true
    formula_legal marks told scope small next f (IsPlaced.truth sc n b) within = ap is_legal (tree_law.formula-Truth script marks b) ∙ truth_legal b
    formula_legal marks told scope small next f (IsPlaced.atom sc n t h) within = ap is_legal (tree_law.formula-Atom script marks t) ∙ term_legal script marks told sc small t plain.Truth h.sort
    formula_legal marks told scope small next f (IsPlaced.equal sc n s t e index hs ht) within =
        ap is_legal (tree_law.formula-Equal script marks s t) ∙ two_legal _ _ _ equal_legal (term_legal script marks told sc small s e hs) (term_legal script marks told sc small t e ht)
    formula_legal marks told scope small next f (IsPlaced.at_most sc n s t hs ht) within =
        ap is_legal (tree_law.formula-AtMost script marks s t) ∙ two_legal _ _ _ at_most_legal (term_legal script marks told sc small s plain.Int hs) (term_legal script marks told sc small t plain.Int ht)
    formula_legal marks told scope small next f (IsPlaced.same sc n a b i e ha hb) within =
        ap is_legal (tree_law.formula-SameArray script marks a b) ∙ two_legal _ _ _ equal_legal (array_legal script marks told sc small a i e ha) (array_legal script marks told sc small b i e hb)
    formula_legal marks told scope small next f (IsPlaced.negation sc n g h) within =
        ap is_legal (tree_law.formula-Not script marks g) ∙ one_legal _ _ not_word_legal (formula_legal marks told sc small n g h (in_not n g within))
    formula_legal marks told scope small next f (IsPlaced.conjunction sc n g h gs hs) within =
        ap is_legal (tree_law.formula-All script marks (g ∷ h ∷ gs)) ∙ list_legal _ _ and_legal (formulas_legal marks told sc small n (g ∷ h ∷ gs) hs (in_all n (g ∷ h ∷ gs) within))
    formula_legal marks told scope small next f (IsPlaced.disjunction sc n g h gs hs) within =
        ap is_legal (tree_law.formula-Any script marks (g ∷ h ∷ gs)) ∙ list_legal _ _ or_legal (formulas_legal marks told sc small n (g ∷ h ∷ gs) hs (in_any n (g ∷ h ∷ gs) within))
    formula_legal marks told scope small next f (IsPlaced.equivalence sc n g h hg hh ng nh) within =
        ap is_legal (tree_law.formula-Iff script marks g h) ∙ two_legal _ _ _ equal_legal (formula_legal marks told sc small n g hg (in_iff n g h within).0) (formula_legal marks told sc small n h hh (in_iff n g h within).1)
    formula_legal marks told scope small next f (IsPlaced.choice sc n c g h nc hc hg hh) within =
        ap is_legal (tree_law.formula-Choose script marks c g h)
        ∙ three_legal _ _ _ _ ite_legal (formula_legal marks told sc small n c hc (in_choose n c g h within).0) (formula_legal marks told sc small n g hg (in_choose n c g h within).1) (formula_legal marks told sc small _ h hh (in_choose n c g h within).2)
    formula_legal marks told scope small next f (IsPlaced.universal sc n bs g bound h) within =
        ap is_legal (tree_law.formula-Forall script marks bs g)
        ∙ two_legal _ _ _ forall_legal (binders_legal script marks n bs told bound (in_forall n bs g within).0) (formula_legal marks told _ (bound_small script n bs sc bound (in_forall n bs g within).0 small) _ g h (in_forall n bs g within).1)
    formula_legal marks told scope small next f (IsPlaced.existential sc n bs g bound h) within =
        ap is_legal (tree_law.formula-Exists script marks bs g)
        ∙ two_legal _ _ _ exists_legal (binders_legal script marks n bs told bound (in_exists n bs g within).0) (formula_legal marks told _ (bound_small script n bs sc bound (in_exists n bs g within).0 small) _ g h (in_exists n bs g within).1)

    pub formulas_legal : (marks : ℕ) (told : AreToldApart script marks) (scope : List Binder) (small : AreSmall scope) (next : ℕ) (fs : List Formula) → AreFormulas script scope next fs → HaveSmallPlaces next fs → list_all is_legal (map (formula_tree script marks) fs) ≡ true
    formulas_legal marks told scope small next fs (AreAllPlaced.no_formulas sc n) within = refl
    formulas_legal marks told scope small next fs (AreAllPlaced.more_formulas sc n f gs h hs) within =
        more_legal _ _ (formula_legal marks told sc small n f h (in_more n f gs within).0) (formulas_legal marks told sc small _ gs hs (in_more n f gs within).1)
