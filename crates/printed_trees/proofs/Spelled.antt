-- The text of each S-expression is the canonical text.
use Rattle.std.proofs.Common.{◌≡◌, ◌<◌, ◌≤◌, ℕ, suc, ◌+◌, ◌^◌, ℤ, pos, negsuc, Bool, true, false, cond, not, ◌&&◌, List, [], ◌∷◌, ◌++◌, length, map, Option, slice_get, unwrap_or, refl, sym, ap, ◌∙◌, subst, arith}
use Rattle.std.specs.Prelude.{codes, decimal}
use Rattle.std.specs.List.{flat_map}
use Rattle.std.proofs.lemmas.Option.{slice_get-get_or}
use Rattle.mbqi_terms.specs.declared.formula.Formula.{Formula}
use Rattle.mbqi_terms.specs.declared.script.Function.{Function}
use Rattle.mbqi_terms.specs.declared.script.Script.{Script}
use Rattle.mbqi_terms.specs.declared.sort.Binder.{Binder}
use Rattle.mbqi_terms.specs.declared.sort.Plain.{Plain}
use Rattle.mbqi_terms.specs.declared.sort.Plain.TheVariants as plain
use Rattle.mbqi_terms.specs.declared.sort.Sort.{Sort}
use Rattle.mbqi_terms.specs.declared.sort.Sort.TheVariants as sort
use Rattle.mbqi_terms.specs.declared.term.ArrayTerm.{ArrayTerm}
use Rattle.mbqi_terms.specs.declared.term.MapOp.{MapOp}
use Rattle.mbqi_terms.specs.declared.term.Term.{Term}
use Rattle.sexpr_text.specs.Bytes.{is_symbol_byte}
use Rattle.sexpr_text.specs.Text.{is_simple, text_of, texts_of}
use Rattle.sexpr_text.specs.declared.tree.Sexpr.{Sexpr}
use Rattle.sexpr_text.specs.declared.tree.Sexpr.TheVariants as tree
use Rattle.sexpr_text.proofs.Texts as written
use Rattle.smtlib_printer.specs.Names.{function_name, name_in, name_text, sort_name, variable_text}
use Rattle.smtlib_printer.specs.Text.{applied_text, array_text_with, binder_text, binders_text, formula_text_with, list_text, map_text, number_text, plain_text, sort_text, spaced, spaced_rest, term_text_with, truth_text}
use Rattle.smtlib_printer.proofs.Pieces.{one_part}
use Rattle.smtlib_terms.specs.Words.{is_reserved_word}
use Rattle.mbqi_terms.specs.HasSort.{AreArraysIn, HasSortIn, HaveSortsIn, IsArrayIn, IsDeclared, IsIndexSort, IsPlainSort, IsPointwise}
use Rattle.mbqi_terms.specs.InForm.{AreAllPlaced, AreBinders, ArePlaced, IsPlaced, IsVariableSort, plain_lists}
use Rattle.smtlib_terms.specs.InForm.{AreArrays, AreFormulas, HasSort, HaveSorts, IsArray, IsFormula, IsName}
use Rattle.smtlib_terms.proofs.Tests.{all_get}
use Rattle.printed_trees.specs.Names.{AreSmall, AreToldApart, HasSmallPlaces}
use Rattle.printed_trees.proofs.Places.{HaveSmallPlaces, in_all, in_any, in_choose, in_exists, in_forall, in_iff, in_more, in_not}
use Rattle.printed_trees.proofs.Scopes.{bound_small, function_found, small_at}
use Rattle.printed_trees.specs.Trees.{applied_tree, array_tree, binder_tree, binders_tree, formula_tree, function_name_tree, map_tree, number_tree, plain_tree, sort_name_tree, sort_tree, term_tree, truth_tree, variable_tree, word_tree}
use Rattle.printed_trees.proofs.Decimals.{variable_simple}
use Rattle.printed_trees.proofs.TextLaws as text_law
use Rattle.printed_trees.proofs.TreeLaws as tree_law
use Rattle.printed_trees.proofs.Words.{no_reserved_word}

-- lists
rest_spelled : (ts : List Sexpr) → spaced_rest (map text_of ts) ≡ flat_map (λ t. codes " " ++ text_of t) ts
rest_spelled [] = refl
rest_spelled (t ∷ ts) = ap (λ (more : List ℕ). (codes " " ++ text_of t) ++ more) (rest_spelled ts)

parts_spelled : (ts : List Sexpr) → spaced (map text_of ts) ≡ texts_of ts
parts_spelled [] = refl
parts_spelled (t ∷ ts) = ap (λ (more : List ℕ). text_of t ++ more) (rest_spelled ts)

pub list_spelled : (ts : List Sexpr) (texts : List (List ℕ)) → map text_of ts ≡ texts → text_of (tree.List ts) ≡ list_text texts
list_spelled ts texts e =
    written.list_text ts ∙ (ap (λ (text : List ℕ). codes "(" ++ (text ++ codes ")")) (sym (parts_spelled ts)) ∙ ap list_text e)

pub both_are : (x y : List ℕ) (xs ys : List (List ℕ)) → x ≡ y → xs ≡ ys → (x ∷ xs) ≡ (y ∷ ys)
both_are x y xs ys e f = cc

one_spelled : (h a : Sexpr) (w x : List ℕ) → text_of h ≡ w → text_of a ≡ x → text_of (tree.List (h ∷ a ∷ [])) ≡ list_text (w ∷ x ∷ [])
one_spelled h a w x eh ea = list_spelled _ _ (both_are _ _ _ _ eh (both_are _ _ _ _ ea refl))

two_spelled : (h a b : Sexpr) (w x y : List ℕ) → text_of h ≡ w → text_of a ≡ x → text_of b ≡ y → text_of (tree.List (h ∷ a ∷ b ∷ [])) ≡ list_text (w ∷ x ∷ y ∷ [])
two_spelled h a b w x y eh ea eb = list_spelled _ _ (both_are _ _ _ _ eh (both_are _ _ _ _ ea (both_are _ _ _ _ eb refl)))

three_spelled : (h a b c : Sexpr) (w x y z : List ℕ) → text_of h ≡ w → text_of a ≡ x → text_of b ≡ y → text_of c ≡ z → text_of (tree.List (h ∷ a ∷ b ∷ c ∷ [])) ≡ list_text (w ∷ x ∷ y ∷ z ∷ [])
three_spelled h a b c w x y z eh ea eb ec = list_spelled _ _ (both_are _ _ _ _ eh (both_are _ _ _ _ ea (both_are _ _ _ _ eb (both_are _ _ _ _ ec refl))))

more_spelled : (h : Sexpr) (ts : List Sexpr) (w : List ℕ) (xs : List (List ℕ)) → text_of h ≡ w → map text_of ts ≡ xs → text_of (tree.List (h ∷ ts)) ≡ list_text (w ∷ xs)
more_spelled h ts w xs eh ets = list_spelled _ _ (both_are _ _ _ _ eh ets)

applied_spelled : (h : Sexpr) (ts : List Sexpr) (w : List ℕ) (xs : List (List ℕ)) → text_of h ≡ w → map text_of ts ≡ xs → text_of (applied_tree h ts) ≡ applied_text w xs
applied_spelled h [] w [] eh ets = eh
applied_spelled h [] w (x ∷ xs) eh ets = cc
applied_spelled h (t ∷ ts) w [] eh ets = cc
applied_spelled h (t ∷ ts) w (x ∷ xs) eh ets = more_spelled h (t ∷ ts) w (x ∷ xs) eh ets

-- words and names
pub word_spelled : (w : List ℕ) → is_simple w ≡ true → text_of (tree.Symbol w) ≡ w
word_spelled w simple = written.symbol_is_text w ∙ ap (λ (t : Bool). cond t w (codes "|" ++ (w ++ codes "|"))) simple

bars_go : (s r : Bool) (x y : List ℕ) → r ≡ false → cond s x y ≡ cond (s && not r) x y
bars_go true r x y e = rw e refl
bars_go false r x y e = refl

pub name_spelled : (name : List ℕ) → is_reserved_word name ≡ false → text_of (tree.Symbol name) ≡ name_text name
name_spelled name free =
    written.symbol_is_text name ∙ bars_go (is_simple name) (is_reserved_word name) name (codes "|" ++ (name ++ codes "|")) free

pub variable_spelled : (marks place : ℕ) → 0 < marks → place < 2 ^ 64 → text_of (variable_tree marks place) ≡ variable_text marks place
variable_spelled marks place some within = word_spelled (variable_text marks place) (variable_simple marks place some within)

pub declared_spelled : (script : Script) (marks f : ℕ) (args : List Sort) (result : Sort) → AreToldApart script marks → IsDeclared (plain_lists script.functions) f args result → text_of (function_name_tree script f) ≡ function_name script f
declared_spelled script marks f args result told d =
    ap (λ (o : Option Function). text_of (tree.Symbol (name_in o))) d.there
    ∙ (name_spelled d.function.name (function_found script marks f d.function told d.there).no_word
    ∙ sym (ap (λ (o : Option Function). name_text (name_in o)) d.there))

pub sort_is_name : (script : Script) (marks s : ℕ) → AreToldApart script marks → s < length script.sorts → IsName (unwrap_or (slice_get script.sorts s) [])
sort_is_name script marks s told there =
    let at = slice_get-get_or script.sorts s [] there in
    subst (λ (o : Option (List ℕ)). IsName (unwrap_or o [])) (sym at) (all_get IsName script.sorts s _ told.named.sorts at)

pub sort_name_spelled : (script : Script) (marks s : ℕ) → AreToldApart script marks → s < length script.sorts → text_of (sort_name_tree script s) ≡ sort_name script s
sort_name_spelled script marks s told there =
    name_spelled (unwrap_or (slice_get script.sorts s) []) (no_reserved_word _ (sort_is_name script marks s told there).free)

bool_spelled : text_of (word_tree (codes "Bool")) ≡ codes "Bool"
unfolding is_simple is_symbol_byte
bool_spelled = word_spelled (codes "Bool") refl

int_spelled : text_of (word_tree (codes "Int")) ≡ codes "Int"
unfolding is_simple is_symbol_byte
int_spelled = word_spelled (codes "Int") refl

array_spelled : text_of (word_tree (codes "Array")) ≡ codes "Array"
unfolding is_simple is_symbol_byte
array_spelled = word_spelled (codes "Array") refl

pub plain_spelled : (script : Script) (marks : ℕ) (s : Plain) → AreToldApart script marks → IsPlainSort (length script.sorts) s → text_of (plain_tree script s) ≡ plain_text script s
plain_spelled script marks plain.Truth told is = bool_spelled
plain_spelled script marks plain.Int told is = int_spelled
plain_spelled script marks (plain.Elem s) told is = sort_name_spelled script marks s told is

pub index_plain : (script : Script) (s : Plain) → IsIndexSort (length script.sorts) s → IsPlainSort (length script.sorts) s
index_plain script plain.Truth is = absurd is
index_plain script plain.Int is = is
index_plain script (plain.Elem s) is = is

pub array_sort_spelled : (script : Script) (marks : ℕ) (i e : Plain) → AreToldApart script marks → IsIndexSort (length script.sorts) i → IsPlainSort (length script.sorts) e → text_of (sort_tree script (sort.Array i e)) ≡ sort_text script (sort.Array i e)
array_sort_spelled script marks i e told index element =
    two_spelled _ _ _ _ _ _ array_spelled (plain_spelled script marks i told (index_plain script i index)) (plain_spelled script marks e told element)

pub variable_sort_spelled : (script : Script) (marks : ℕ) (s : Sort) → AreToldApart script marks → IsVariableSort (length script.sorts) s → text_of (sort_tree script s) ≡ sort_text script s
variable_sort_spelled script marks sort.Truth told is = absurd is
variable_sort_spelled script marks sort.Int told is = int_spelled
variable_sort_spelled script marks (sort.Elem s) told is = sort_name_spelled script marks s told is
variable_sort_spelled script marks (sort.Array i e) told is = absurd is

-- numbers and truths
minus_spelled : text_of (word_tree (codes "-")) ≡ codes "-"
unfolding is_simple is_symbol_byte
minus_spelled = word_spelled (codes "-") refl

pub number_spelled : (n : ℤ) → text_of (number_tree n) ≡ number_text n
number_spelled (pos n) = written.numeral_text (decimal n)
number_spelled (negsuc n) =
    one_spelled _ _ _ _ minus_spelled (written.numeral_text (decimal (suc n))) ∙ one_part (codes "-") (decimal (suc n))

true_spelled : text_of (word_tree (codes "true")) ≡ codes "true"
unfolding is_simple is_symbol_byte
true_spelled = word_spelled (codes "true") refl

false_spelled : text_of (word_tree (codes "false")) ≡ codes "false"
unfolding is_simple is_symbol_byte
false_spelled = word_spelled (codes "false") refl

pub truth_spelled : (b : Bool) → text_of (truth_tree b) ≡ truth_text b
truth_spelled true = true_spelled
truth_spelled false = false_spelled

-- the words of terms and formulas
plus_spelled : text_of (word_tree (codes "+")) ≡ codes "+"
unfolding is_simple is_symbol_byte
plus_spelled = word_spelled (codes "+") refl

select_spelled : text_of (word_tree (codes "select")) ≡ codes "select"
unfolding is_simple is_symbol_byte
select_spelled = word_spelled (codes "select") refl

default_spelled : text_of (word_tree (codes "default")) ≡ codes "default"
unfolding is_simple is_symbol_byte
default_spelled = word_spelled (codes "default") refl

store_spelled : text_of (word_tree (codes "store")) ≡ codes "store"
unfolding is_simple is_symbol_byte
store_spelled = word_spelled (codes "store") refl

as_spelled : text_of (word_tree (codes "as")) ≡ codes "as"
unfolding is_simple is_symbol_byte
as_spelled = word_spelled (codes "as") refl

const_spelled : text_of (word_tree (codes "const")) ≡ codes "const"
unfolding is_simple is_symbol_byte
const_spelled = word_spelled (codes "const") refl

underscore_spelled : text_of (word_tree (codes "_")) ≡ codes "_"
unfolding is_simple is_symbol_byte
underscore_spelled = word_spelled (codes "_") refl

map_spelled : text_of (word_tree (codes "map")) ≡ codes "map"
unfolding is_simple is_symbol_byte
map_spelled = word_spelled (codes "map") refl

and_spelled : text_of (word_tree (codes "and")) ≡ codes "and"
unfolding is_simple is_symbol_byte
and_spelled = word_spelled (codes "and") refl

or_spelled : text_of (word_tree (codes "or")) ≡ codes "or"
unfolding is_simple is_symbol_byte
or_spelled = word_spelled (codes "or") refl

not_spelled : text_of (word_tree (codes "not")) ≡ codes "not"
unfolding is_simple is_symbol_byte
not_spelled = word_spelled (codes "not") refl

equal_spelled : text_of (word_tree (codes "=")) ≡ codes "="
unfolding is_simple is_symbol_byte
equal_spelled = word_spelled (codes "=") refl

at_most_spelled : text_of (word_tree (codes "<=")) ≡ codes "<="
unfolding is_simple is_symbol_byte
at_most_spelled = word_spelled (codes "<=") refl

ite_spelled : text_of (word_tree (codes "ite")) ≡ codes "ite"
unfolding is_simple is_symbol_byte
ite_spelled = word_spelled (codes "ite") refl

forall_spelled : text_of (word_tree (codes "forall")) ≡ codes "forall"
unfolding is_simple is_symbol_byte
forall_spelled = word_spelled (codes "forall") refl

exists_spelled : text_of (word_tree (codes "exists")) ≡ codes "exists"
unfolding is_simple is_symbol_byte
exists_spelled = word_spelled (codes "exists") refl

map_op_spelled : (script : Script) (marks : ℕ) (f : MapOp) (es : List Plain) (e : Plain) → AreToldApart script marks → IsPointwise (plain_lists script.functions) f es e → text_of (map_tree script f) ≡ map_text script f
map_op_spelled script marks f es e told (IsPointwise.declared number args result d) = declared_spelled script marks number _ _ told d
map_op_spelled script marks f es e told (IsPointwise.conjunction n) = and_spelled
map_op_spelled script marks f es e told (IsPointwise.disjunction n) = or_spelled
map_op_spelled script marks f es e told IsPointwise.negation = not_spelled

-- terms and array terms
module _ (script : Script) where
  mutual
    pub term_spelled : (marks : ℕ) (told : AreToldApart script marks) (scope : List Binder) (small : AreSmall scope) (t : Term) (s : Plain) → HasSort script scope t s → text_of (term_tree script marks t) ≡ term_text_with script marks t
    term_spelled marks told scope small t s (HasSortIn.number n within) =
        ap text_of (tree_law.term-Num script marks n) ∙ (number_spelled n ∙ sym (text_law.term-Num script marks n))
    term_spelled marks told scope small t s (HasSortIn.sum u n h base some within) =
        ap text_of (tree_law.term-Plus script marks u n)
        ∙ (two_spelled _ _ _ _ _ _ plus_spelled (term_spelled marks told scope small u plain.Int h) (number_spelled n)
        ∙ sym (text_law.term-Plus script marks u n))
    term_spelled marks told scope small t s (HasSortIn.variable place e index found) =
        ap text_of (tree_law.term-Var script marks place)
        ∙ (variable_spelled marks place told.some (small_at scope place _ small found) ∙ sym (text_law.term-Var script marks place))
    term_spelled marks told scope small t s (HasSortIn.application f ts args e d hs) =
        ap text_of (tree_law.term-Apply script marks f ts)
        ∙ (applied_spelled _ _ _ _ (declared_spelled script marks f _ _ told d) (terms_spelled marks told scope small ts args hs)
        ∙ sym (text_law.term-Apply script marks f ts))
    term_spelled marks told scope small t s (HasSortIn.reading a u i e h index g) =
        ap text_of (tree_law.term-Read script marks a u)
        ∙ (two_spelled _ _ _ _ _ _ select_spelled (array_is_spelled marks told scope small a i e h) (term_spelled marks told scope small u i g)
        ∙ sym (text_law.term-Read script marks a u))
    term_spelled marks told scope small t s (HasSortIn.last a e h closed) =
        ap text_of (tree_law.term-Default script marks a)
        ∙ (one_spelled _ _ _ _ default_spelled (array_is_spelled marks told scope small a plain.Int e h)
        ∙ sym (text_law.term-Default script marks a))
    term_spelled marks told scope small t s (HasSortIn.truth b) = ap text_of (tree_law.term-Truth script marks b) ∙ (truth_spelled b ∙ sym (text_law.term-Truth script marks b))
    term_spelled marks told scope small t s (HasSortIn.skolem assertion place ts args e hides d hs) = absurd cc
    term_spelled marks told scope small t s (HasSortIn.seed k hides below) = absurd cc
    term_spelled marks told scope small t s (HasSortIn.far hides) = absurd cc
    term_spelled marks told scope small t s (HasSortIn.differing a b i e hides index ha hb) = absurd cc

    pub terms_spelled : (marks : ℕ) (told : AreToldApart script marks) (scope : List Binder) (small : AreSmall scope) (ts : List Term) (ss : List Plain) → HaveSorts script scope ts ss → map text_of (map (term_tree script marks) ts) ≡ map (term_text_with script marks) ts
    terms_spelled marks told scope small ts ss HaveSortsIn.no_terms = refl
    terms_spelled marks told scope small ts ss (HaveSortsIn.more_terms t us s rs index h hs) =
        both_are _ _ _ _ (term_spelled marks told scope small t s h) (terms_spelled marks told scope small us rs hs)

    pub array_is_spelled : (marks : ℕ) (told : AreToldApart script marks) (scope : List Binder) (small : AreSmall scope) (a : ArrayTerm) (i e : Plain) → IsArray script scope a i e → text_of (array_tree script marks a) ≡ array_text_with script marks a
    array_is_spelled marks told scope small a i e (IsArrayIn.name f j g d) =
        ap text_of (tree_law.array-Name script marks f) ∙ (declared_spelled script marks f _ _ told d ∙ sym (text_law.array-Name script marks f))
    array_is_spelled marks told scope small a i e (IsArrayIn.store b t v j g h index ht hv closed) =
        ap text_of (tree_law.array-Store script marks b t v)
        ∙ (three_spelled _ _ _ _ _ _ _ _ store_spelled (array_is_spelled marks told scope small b j g h) (term_spelled marks told scope small t j ht) (term_spelled marks told scope small v g hv)
        ∙ sym (text_law.array-Store script marks b t v))
    array_is_spelled marks told scope small a i e (IsArrayIn.constant v j g index element hv closed) =
        ap text_of (tree_law.array-Const script marks (sort.Array j g) v)
        ∙ (one_spelled _ _ _ _ (two_spelled _ _ _ _ _ _ as_spelled const_spelled (array_sort_spelled script marks j g told index element)) (term_spelled marks told scope small v g hv)
        ∙ sym (text_law.array-Const script marks (sort.Array j g) v))
    array_is_spelled marks told scope small a i e (IsArrayIn.pointwise f b bs j g es p hs closed) =
        ap text_of (tree_law.array-Map script marks f (b ∷ bs))
        ∙ (more_spelled _ _ _ _ (two_spelled _ _ _ _ _ _ underscore_spelled map_spelled (map_op_spelled script marks f es g told p)) (arrays_spelled marks told scope small (b ∷ bs) j es hs)
        ∙ sym (text_law.array-Map script marks f (b ∷ bs)))

    pub arrays_spelled : (marks : ℕ) (told : AreToldApart script marks) (scope : List Binder) (small : AreSmall scope) (arrays : List ArrayTerm) (i : Plain) (es : List Plain) → AreArrays script scope arrays i es → map text_of (map (array_tree script marks) arrays) ≡ map (array_text_with script marks) arrays
    arrays_spelled marks told scope small arrays i es (AreArraysIn.no_arrays j) = refl
    arrays_spelled marks told scope small arrays i es (AreArraysIn.more_arrays a bs j e gs h hs) =
        both_are _ _ _ _ (array_is_spelled marks told scope small a j e h) (arrays_spelled marks told scope small bs j gs hs)

-- binders
placed_spelled : (script : Script) (marks next : ℕ) (bs : List Binder) → AreToldApart script marks → ArePlaced (length script.sorts) next bs → next + length bs ≤ 2 ^ 64 → map text_of (map (binder_tree script marks) bs) ≡ map (binder_text script marks) bs
placed_spelled script marks next [] told placed within = refl
placed_spelled script marks next (b ∷ bs) told placed within =
    let below : b.place < 2 ^ 64 = let at = placed.0 in omega arith in
    both_are _ _ _ _
    (one_spelled _ _ _ _ (variable_spelled marks b.place told.some below) (variable_sort_spelled script marks b.sort told placed.1))
    (placed_spelled script marks (next + 1) bs told placed.2 (omega arith))

binders_spelled : (script : Script) (marks next : ℕ) (bs : List Binder) → AreToldApart script marks → AreBinders (length script.sorts) next bs → next + length bs ≤ 2 ^ 64 → text_of (binders_tree script marks bs) ≡ binders_text script marks bs
binders_spelled script marks next bs told bound within = list_spelled _ _ (placed_spelled script marks next bs told bound.placed within)

-- formulas
module _ (script : Script) where
  mutual
    pub formula_spelled : (marks : ℕ) (told : AreToldApart script marks) (scope : List Binder) (small : AreSmall scope) (next : ℕ) (f : Formula) → IsFormula script scope next f → HasSmallPlaces next f → text_of (formula_tree script marks f) ≡ formula_text_with script marks f
    formula_spelled marks told scope small next f (IsPlaced.truth sc n b) within =
        ap text_of (tree_law.formula-Truth script marks b) ∙ (truth_spelled b ∙ sym (text_law.formula-Truth script marks b))
    formula_spelled marks told scope small next f (IsPlaced.atom sc n t h) within =
        ap text_of (tree_law.formula-Atom script marks t) ∙ (term_spelled script marks told sc small t plain.Truth h.sort ∙ sym (text_law.formula-Atom script marks t))
    formula_spelled marks told scope small next f (IsPlaced.equal sc n s t e index hs ht) within =
        ap text_of (tree_law.formula-Equal script marks s t)
        ∙ (two_spelled _ _ _ _ _ _ equal_spelled (term_spelled script marks told sc small s e hs) (term_spelled script marks told sc small t e ht)
        ∙ sym (text_law.formula-Equal script marks s t))
    formula_spelled marks told scope small next f (IsPlaced.at_most sc n s t hs ht) within =
        ap text_of (tree_law.formula-AtMost script marks s t)
        ∙ (two_spelled _ _ _ _ _ _ at_most_spelled (term_spelled script marks told sc small s plain.Int hs) (term_spelled script marks told sc small t plain.Int ht)
        ∙ sym (text_law.formula-AtMost script marks s t))
    formula_spelled marks told scope small next f (IsPlaced.same sc n a b i e ha hb) within =
        ap text_of (tree_law.formula-SameArray script marks a b)
        ∙ (two_spelled _ _ _ _ _ _ equal_spelled (array_is_spelled script marks told sc small a i e ha) (array_is_spelled script marks told sc small b i e hb)
        ∙ sym (text_law.formula-SameArray script marks a b))
    formula_spelled marks told scope small next f (IsPlaced.negation sc n g h) within =
        ap text_of (tree_law.formula-Not script marks g)
        ∙ (one_spelled _ _ _ _ not_spelled (formula_spelled marks told sc small n g h (in_not n g within)) ∙ sym (text_law.formula-Not script marks g))
    formula_spelled marks told scope small next f (IsPlaced.conjunction sc n g h gs hs) within =
        ap text_of (tree_law.formula-All script marks (g ∷ h ∷ gs))
        ∙ (more_spelled _ _ _ _ and_spelled (formulas_spelled marks told sc small n (g ∷ h ∷ gs) hs (in_all n (g ∷ h ∷ gs) within)) ∙ sym (text_law.formula-All script marks (g ∷ h ∷ gs)))
    formula_spelled marks told scope small next f (IsPlaced.disjunction sc n g h gs hs) within =
        ap text_of (tree_law.formula-Any script marks (g ∷ h ∷ gs))
        ∙ (more_spelled _ _ _ _ or_spelled (formulas_spelled marks told sc small n (g ∷ h ∷ gs) hs (in_any n (g ∷ h ∷ gs) within)) ∙ sym (text_law.formula-Any script marks (g ∷ h ∷ gs)))
    formula_spelled marks told scope small next f (IsPlaced.equivalence sc n g h hg hh ng nh) within =
        ap text_of (tree_law.formula-Iff script marks g h)
        ∙ (two_spelled _ _ _ _ _ _ equal_spelled (formula_spelled marks told sc small n g hg (in_iff n g h within).0) (formula_spelled marks told sc small n h hh (in_iff n g h within).1)
        ∙ sym (text_law.formula-Iff script marks g h))
    formula_spelled marks told scope small next f (IsPlaced.choice sc n c g h nc hc hg hh) within =
        ap text_of (tree_law.formula-Choose script marks c g h)
        ∙ (three_spelled _ _ _ _ _ _ _ _ ite_spelled (formula_spelled marks told sc small n c hc (in_choose n c g h within).0) (formula_spelled marks told sc small n g hg (in_choose n c g h within).1) (formula_spelled marks told sc small _ h hh (in_choose n c g h within).2)
        ∙ sym (text_law.formula-Choose script marks c g h))
    formula_spelled marks told scope small next f (IsPlaced.universal sc n bs g bound h) within =
        ap text_of (tree_law.formula-Forall script marks bs g)
        ∙ (two_spelled _ _ _ _ _ _ forall_spelled (binders_spelled script marks n bs told bound (in_forall n bs g within).0) (formula_spelled marks told _ (bound_small script n bs sc bound (in_forall n bs g within).0 small) _ g h (in_forall n bs g within).1)
        ∙ sym (text_law.formula-Forall script marks bs g))
    formula_spelled marks told scope small next f (IsPlaced.existential sc n bs g bound h) within =
        ap text_of (tree_law.formula-Exists script marks bs g)
        ∙ (two_spelled _ _ _ _ _ _ exists_spelled (binders_spelled script marks n bs told bound (in_exists n bs g within).0) (formula_spelled marks told _ (bound_small script n bs sc bound (in_exists n bs g within).0 small) _ g h (in_exists n bs g within).1)
        ∙ sym (text_law.formula-Exists script marks bs g))

    pub formulas_spelled : (marks : ℕ) (told : AreToldApart script marks) (scope : List Binder) (small : AreSmall scope) (next : ℕ) (fs : List Formula) → AreFormulas script scope next fs → HaveSmallPlaces next fs → map text_of (map (formula_tree script marks) fs) ≡ map (formula_text_with script marks) fs
    formulas_spelled marks told scope small next fs (AreAllPlaced.no_formulas sc n) within = refl
    formulas_spelled marks told scope small next fs (AreAllPlaced.more_formulas sc n f gs h hs) within =
        both_are _ _ _ _ (formula_spelled marks told sc small n f h (in_more n f gs within).0) (formulas_spelled marks told sc small _ gs hs (in_more n f gs within).1)
