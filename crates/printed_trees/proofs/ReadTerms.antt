-- The S-expression of a term or array term in form means it.
use Rattle.std.proofs.Common.{◌≡◌, ◌≤◌, ℕ, List, [], ◌∷◌, map, Option, Result, Ok, refl, ap, ◌∙◌, arith, length, subst, Bool}
use Rattle.std.specs.Prelude.{codes}
use Rattle.mbqi_values.specs.declared.fault.FaultKind.{FaultKind}
use Rattle.mbqi_terms.specs.declared.formula.Formula.TheVariants as formula
use Rattle.mbqi_terms.specs.declared.script.Function.{Function}
use Rattle.mbqi_terms.specs.declared.script.Script.{Script}
use Rattle.mbqi_terms.specs.declared.sort.Binder.{Binder}
use Rattle.mbqi_terms.specs.declared.sort.Plain.{Plain}
use Rattle.mbqi_terms.specs.declared.sort.Plain.TheVariants as plain
use Rattle.mbqi_terms.specs.declared.sort.Sort.{Sort}
use Rattle.mbqi_terms.specs.declared.sort.Sort.TheVariants as sort
use Rattle.mbqi_terms.specs.declared.term.ArrayTerm.{ArrayTerm}
use Rattle.mbqi_terms.specs.declared.term.ArrayTerm.TheVariants as array
use Rattle.mbqi_terms.specs.declared.term.Symbol.TheVariants as symbol
use Rattle.mbqi_terms.specs.declared.term.Term.{Term}
use Rattle.mbqi_terms.specs.declared.term.Term.TheVariants as term
use Rattle.sexpr_text.specs.declared.tree.Sexpr.{Sexpr}
use Rattle.sexpr_text.specs.declared.tree.Sexpr.TheVariants as tree
use Rattle.smtlib_printer.specs.Names.{name_in}
use Rattle.smtlib_terms.specs.declared.meaning.Meaning.{Meaning}
use Rattle.smtlib_terms.specs.declared.meaning.Meaning.TheVariants as meaning
use Rattle.smtlib_terms.specs.declared.meaning.Side.TheVariants.{Meant}
use Rattle.smtlib_terms.specs.declared.names.Binding.{Binding}
use Rattle.smtlib_terms.specs.declared.word.Word.TheVariants as word
use Rattle.smtlib_terms.specs.Applying.{application, fitting, mapped, name_applied, terms_of, application_of}
use Rattle.smtlib_terms.specs.Meaning.{depth_of}
use Rattle.smtlib_terms.specs.Names.{◌>>=◌, Signature}
use Rattle.smtlib_terms.specs.Operators.{applied, constant, meant, term_meant}
use Rattle.smtlib_terms.specs.Reading.{Constant, Mapped, head_of, part_of, parts_read, side, values_read}
use Rattle.measured_terms.proofs.ArrayLaws as array_measure
use Rattle.measured_terms.proofs.TermLaws as term_measure
use Rattle.mbqi_terms.specs.HasSort.{AreArraysIn, HasSortIn, HaveSortsIn, IsArrayIn, IsDeclared, IsIndexSort, IsNoTruth}
use Rattle.mbqi_terms.specs.InForm.{plain_lists}
use Rattle.smtlib_terms.specs.InForm.{AreArrays, HasSort, HaveSorts, IsArray}
use Rattle.printed_trees.specs.Names.{AreSmall, AreToldApart, bindings_of, signature_of}
use Rattle.printed_trees.proofs.ReadNumbers.{number_means, offset_within, truth_means}
use Rattle.printed_trees.proofs.ReadParts.{headed_means, list_is_head, one_read, parts_more, three_read, two_read, values_more, word_means}
use Rattle.printed_trees.proofs.Scopes.{function_found}
use Rattle.printed_trees.specs.Means.{Means}
use Rattle.printed_trees.specs.Trees.{applied_tree, array_tree, function_name_tree, map_tree, number_tree, sort_tree, term_tree, word_tree}
use Rattle.printed_trees.proofs.Depths.{first_deep, meant_deep, rest_deep}
use Rattle.printed_trees.proofs.Meanings.{addition_ok, arrays_meant, constant_ok, defaulting_ok, index_meaning, meanings_count, meanings_of, meanings_sorts, meanings_terms, other_meaning, own_meaning, selection_ok, storing_ok}
use Rattle.printed_trees.proofs.ReadMaps.{map_head, mapped_ok, op_name}
use Rattle.printed_trees.proofs.ReadNames.{application_is, constant_means, fitting_ok, name_fits, variable_means}
use Rattle.printed_trees.proofs.ReadSorts.{array_sort_means}
use Rattle.printed_trees.proofs.TreeLaws as tree_law
use Rattle.printed_trees.proofs.Words.{default_word, name_word, plus_word, select_word, store_word}
use Rattle.mbqi_terms.specs.Depth.{deepest, depth_of_array, depth_of_term}
use Rattle.mbqi_terms.specs.Sort.{plain_sort}

-- the reading of a script's trees in a scope
abbrev pub Reads : Script → ℕ → List Binder → ℕ → Sexpr → Meaning → Type 0
Reads script marks scope next t m = Means t (signature_of script) (bindings_of marks scope) next m

pub at_tree : (t u : Sexpr) (names : Signature) (scope : List Binding) (next : ℕ) (m : Meaning) → t ≡ u → Means u names scope next m → Means t names scope next m
at_tree t u names scope next m e is = ap (λ (v : Sexpr). side v names scope next) e ∙ is

-- a term that is no truth
pub as_meant : (script : Script) (marks : ℕ) (scope : List Binder) (next : ℕ) (t : Term) (s : Plain) (m : Meaning) → m ≡ term_meant s t → Reads script marks scope next (term_tree script marks t) m → Reads script marks scope next (term_tree script marks t) (term_meant s t)
as_meant script marks scope next t s m same is = subst (Reads script marks scope next (term_tree script marks t)) same is

-- a function with arguments
call_means : (script : Script) (marks : ℕ) (told : AreToldApart script marks) (scope : List Binder) (small : AreSmall scope) (next f : ℕ) (args : List Plain) (s : Plain) (u : Sexpr) (us : List Sexpr) (ms : List Meaning) (m : Meaning) →
    IsDeclared (plain_lists script.functions) f (map plain_sort args) (plain_sort s) → values_read (map part_of (u ∷ us)) (signature_of script) (bindings_of marks scope) next ≡ Ok ms →
    fitting (map plain_sort args) ms (application_of f (plain_sort s) ms) ≡ Ok m → depth_of m ≤ 1000 →
    Reads script marks scope next (tree.List (function_name_tree script f ∷ u ∷ us)) m
call_means script marks told scope small next f args s u us ms m d read fits deep =
    let is = function_found script marks f d.function told d.there in
    let names = signature_of script in
    let bound = bindings_of marks scope in
    ap (λ (o : Option Function). side (tree.List (tree.Symbol (name_in o) ∷ u ∷ us)) names bound next) d.there
    ∙ word_means d.function.name word.Name (u ∷ us) names bound next m (name_word d.function.name is.no_word)
    (ap (λ (r : Result (List Meaning) FaultKind). meant (r >>= name_applied names bound d.function.name next)) read
    ∙ (ap meant (name_fits script marks told scope small next f d.function ms d.there)
    ∙ (ap (λ (sorts : List Sort). meant (fitting sorts ms (application_of f d.function.result ms))) d.takes
    ∙ (ap (λ (result : Sort). meant (fitting (map plain_sort args) ms (application_of f result ms))) d.gives
    ∙ ap meant fits))))
    deep

apply_means : (script : Script) (marks : ℕ) (told : AreToldApart script marks) (scope : List Binder) (small : AreSmall scope) (next f : ℕ) (ts : List Term) (args : List Plain) (s : Plain) →
    IsDeclared (plain_lists script.functions) f (map plain_sort args) (plain_sort s) → HaveSorts script scope ts args →
    values_read (map part_of (map (term_tree script marks) ts)) (signature_of script) (bindings_of marks scope) next ≡ Ok (meanings_of ts args) → depth_of_term (term.Apply (symbol.Declared f) ts) ≤ 1000 →
    Reads script marks scope next (applied_tree (function_name_tree script f) (map (term_tree script marks) ts)) (term_meant s (term.Apply (symbol.Declared f) ts))
apply_means script marks told scope small next f ts args s d HaveSortsIn.no_terms read deep =
    constant_means script marks told scope small next f (plain_sort s) d ∙ ap (λ (m : Meaning). Ok (Meant m)) (application_is f [] s)
apply_means script marks told scope small next f ts args s d (HaveSortsIn.more_terms t us p ps index h hs) read deep =
    let whole = HaveSortsIn.more_terms t us p ps index h hs in
    let ms = meanings_of (t ∷ us) (p ∷ ps) in
    let terms : terms_of ms ≡ Ok (t ∷ us) = meanings_terms script scope (t ∷ us) (p ∷ ps) whole in
    call_means script marks told scope small next f (p ∷ ps) s (term_tree script marks t) (map (term_tree script marks) us) ms (term_meant s (term.Apply (symbol.Declared f) (t ∷ us))) d read
    (fitting_ok (map plain_sort (p ∷ ps)) ms (application_of f (plain_sort s) ms) (meanings_count script scope (t ∷ us) (p ∷ ps) whole) (meanings_sorts script scope (t ∷ us) (p ∷ ps) whole)
    ∙ (ap (λ (r : Result (List Term) FaultKind). r >>= (λ (vs : List Term). Ok (application f vs (plain_sort s)))) terms
    ∙ ap (λ (m : Meaning). Ok m) (application_is f (t ∷ us) s)))
    (let same = meant_deep s (term.Apply (symbol.Declared f) (t ∷ us)) in omega arith)

-- the head of a constant array
const_head : (script : Script) (s : Sort) → head_of (tree.List (word_tree (codes "as") ∷ word_tree (codes "const") ∷ sort_tree script s ∷ [])) ≡ Constant (sort_tree script s)
const_head script s = list_is_head (word_tree (codes "as") ∷ word_tree (codes "const") ∷ sort_tree script s ∷ [])

module _ (script : Script) where
  mutual
    pub term_means : (marks : ℕ) (told : AreToldApart script marks) (scope : List Binder) (small : AreSmall scope) (next : ℕ) (t : Term) (s : Plain) (h : HasSort script scope t s) → depth_of_term t ≤ 1000 → Reads script marks scope next (term_tree script marks t) (own_meaning script scope t s h)
    term_means marks told scope small next t s (HasSortIn.number n within) deep =
        at_tree _ _ _ _ _ _ (tree_law.term-Num script marks n) (number_means n _ _ next within)
    term_means marks told scope small next t s (HasSortIn.sum u n h base some within) deep =
        let below = term_measure.depth-Plus u n in
        at_tree _ _ _ _ _ _ (tree_law.term-Plus script marks u n)
        (word_means (codes "+") word.Plus (term_tree script marks u ∷ number_tree n ∷ []) _ _ next (meaning.Term sort.Int (term.Plus u n)) plus_word
        (ap (λ (r : Result (List Meaning) FaultKind). meant (r >>= applied word.Plus))
        (two_read (term_tree script marks u) (number_tree n) _ _ next (meaning.Term sort.Int u) (meaning.Term sort.Int (term.Num n)) (as_meant script marks scope next u plain.Int _ (index_meaning script scope u plain.Int tt h) (term_means marks told scope small next u plain.Int h (omega arith))) (number_means n _ _ _ (offset_within n within)))
        ∙ ap meant (addition_ok script scope u n h base some within))
        deep)
    term_means marks told scope small next t s (HasSortIn.variable place e index found) deep =
        at_tree _ _ _ _ _ _ (tree_law.term-Var script marks place) (variable_means script marks told scope small next place e index found)
    term_means marks told scope small next t s (HasSortIn.application f ts args e d hs) deep =
        let below = term_measure.depth-Apply (symbol.Declared f) ts in
        at_tree _ _ _ _ _ _ (tree_law.term-Apply script marks f ts)
        (apply_means script marks told scope small next f ts args e d hs (terms_mean marks told scope small next ts args hs (omega arith)) deep)
    term_means marks told scope small next t s (HasSortIn.reading a u i e h index g) deep =
        let below = term_measure.depth-Read a u in
        let same = meant_deep e (term.Read a u) in
        at_tree _ _ _ _ _ _ (tree_law.term-Read script marks a u)
        (word_means (codes "select") word.Select (array_tree script marks a ∷ term_tree script marks u ∷ []) _ _ next (term_meant e (term.Read a u)) select_word
        (ap (λ (r : Result (List Meaning) FaultKind). meant (r >>= applied word.Select))
        (two_read (array_tree script marks a) (term_tree script marks u) _ _ next (meaning.Array i e a) (term_meant i u) (array_means marks told scope small next a i e h (omega arith)) (as_meant script marks scope _ u i _ (index_meaning script scope u i index g) (term_means marks told scope small _ u i g (omega arith))))
        ∙ ap meant (selection_ok script a u i e index))
        (omega arith))
    term_means marks told scope small next t s (HasSortIn.last a e h closed) deep =
        let below = term_measure.depth-Default a in
        let same = meant_deep e (term.Default a) in
        at_tree _ _ _ _ _ _ (tree_law.term-Default script marks a)
        (word_means (codes "default") word.Default (array_tree script marks a ∷ []) _ _ next (term_meant e (term.Default a)) default_word
        (ap (λ (r : Result (List Meaning) FaultKind). meant (r >>= applied word.Default))
        (one_read (array_tree script marks a) _ _ next (meaning.Array plain.Int e a) (array_means marks told scope small next a plain.Int e h (omega arith)))
        ∙ ap meant (defaulting_ok a e closed))
        (omega arith))
    term_means marks told scope small next t s (HasSortIn.truth b) deep = at_tree _ _ _ _ _ _ (tree_law.term-Truth script marks b) (truth_means b _ _ next)
    term_means marks told scope small next t s (HasSortIn.skolem assertion place ts args e hides d hs) deep = absurd cc
    term_means marks told scope small next t s (HasSortIn.seed k hides below) deep = absurd cc
    term_means marks told scope small next t s (HasSortIn.far hides) deep = absurd cc
    term_means marks told scope small next t s (HasSortIn.differing a b i e hides index ha hb) deep = absurd cc

    pub terms_mean : (marks : ℕ) (told : AreToldApart script marks) (scope : List Binder) (small : AreSmall scope) (next : ℕ) (ts : List Term) (ss : List Plain) → HaveSorts script scope ts ss → deepest (map depth_of_term ts) ≤ 1000 →
        values_read (map part_of (map (term_tree script marks) ts)) (signature_of script) (bindings_of marks scope) next ≡ Ok (meanings_of ts ss)
    terms_mean marks told scope small next ts ss HaveSortsIn.no_terms deep = refl
    terms_mean marks told scope small next ts ss (HaveSortsIn.more_terms t us s rs index h hs) deep =
        let first = first_deep (depth_of_term t) (map depth_of_term us) in
        let rest = rest_deep (depth_of_term t) (map depth_of_term us) in
        values_more (term_tree script marks t) (map (term_tree script marks) us) _ _ next (term_meant s t) (meanings_of us rs)
        (as_meant script marks scope next t s _ (index_meaning script scope t s index h) (term_means marks told scope small next t s h (omega arith))) (terms_mean marks told scope small next us rs hs (omega arith))

    pub array_means : (marks : ℕ) (told : AreToldApart script marks) (scope : List Binder) (small : AreSmall scope) (next : ℕ) (a : ArrayTerm) (i e : Plain) → IsArray script scope a i e → depth_of_array a ≤ 1000 → Reads script marks scope next (array_tree script marks a) (meaning.Array i e a)
    array_means marks told scope small next a i e (IsArrayIn.name f j g d) deep =
        at_tree _ _ _ _ _ _ (tree_law.array-Name script marks f) (constant_means script marks told scope small next f (sort.Array j g) d)
    array_means marks told scope small next a i e (IsArrayIn.store b t v j g h index ht hv closed) deep =
        let below = array_measure.depth-Store b t v in
        at_tree _ _ _ _ _ _ (tree_law.array-Store script marks b t v)
        (word_means (codes "store") word.Store (array_tree script marks b ∷ term_tree script marks t ∷ term_tree script marks v ∷ []) _ _ next (meaning.Array j g (array.Store b t v)) store_word
        (ap (λ (r : Result (List Meaning) FaultKind). meant (r >>= applied word.Store))
        (three_read (array_tree script marks b) (term_tree script marks t) (term_tree script marks v) _ _ next (meaning.Array j g b) (term_meant j t) (own_meaning script scope v g hv)
        (array_means marks told scope small next b j g h (omega arith)) (as_meant script marks scope _ t j _ (index_meaning script scope t j index ht) (term_means marks told scope small _ t j ht (omega arith))) (term_means marks told scope small _ v g hv (omega arith)))
        ∙ ap meant (storing_ok script scope b t v j g index hv closed))
        deep)
    array_means marks told scope small next a i e (IsArrayIn.constant v j g index element hv closed) deep =
        let below = array_measure.depth-Const (sort.Array j g) v in
        at_tree _ _ _ _ _ _ (tree_law.array-Const script marks (sort.Array j g) v)
        (headed_means (tree.List (word_tree (codes "as") ∷ word_tree (codes "const") ∷ sort_tree script (sort.Array j g) ∷ [])) (term_tree script marks v ∷ []) (signature_of script) (bindings_of marks scope) next (Constant (sort_tree script (sort.Array j g))) (meaning.Array j g (array.Const (sort.Array j g) v)) (const_head script (sort.Array j g))
        (ap (λ (r : Result Sort FaultKind). r >>= (λ (s : Sort). meant (parts_read (map part_of (term_tree script marks v ∷ [])) (signature_of script) (bindings_of marks scope) next >>= constant s))) (array_sort_means script marks j g told index element)
        ∙ (ap (λ (r : Result (List Meaning) FaultKind). meant (r >>= constant (sort.Array j g)))
        (one_read (term_tree script marks v) _ _ next (own_meaning script scope v g hv) (term_means marks told scope small next v g hv (omega arith)))
        ∙ ap meant (constant_ok script scope v j g hv closed)))
        deep)
    array_means marks told scope small next a i e (IsArrayIn.pointwise f b bs j g es p hs closed) deep =
        let below = array_measure.depth-Map f (b ∷ bs) in
        at_tree _ _ _ _ _ _ (tree_law.array-Map script marks f (b ∷ bs))
        (headed_means (tree.List (word_tree (codes "_") ∷ word_tree (codes "map") ∷ map_tree script f ∷ [])) (map (array_tree script marks) (b ∷ bs)) (signature_of script) (bindings_of marks scope) next (Mapped (op_name script f)) (meaning.Array j g (array.Map f (b ∷ bs))) (map_head script f)
        (ap (λ (r : Result (List Meaning) FaultKind). meant (r >>= mapped (signature_of script) (bindings_of marks scope) (op_name script f)))
        (arrays_mean marks told scope small next (b ∷ bs) j es hs (omega arith))
        ∙ ap meant (mapped_ok script marks told scope small f j g es b bs p hs closed))
        deep)

    pub arrays_mean : (marks : ℕ) (told : AreToldApart script marks) (scope : List Binder) (small : AreSmall scope) (next : ℕ) (arrays : List ArrayTerm) (i : Plain) (es : List Plain) → AreArrays script scope arrays i es → deepest (map depth_of_array arrays) ≤ 1000 →
        parts_read (map part_of (map (array_tree script marks) arrays)) (signature_of script) (bindings_of marks scope) next ≡ Ok (arrays_meant arrays i es)
    arrays_mean marks told scope small next arrays i es (AreArraysIn.no_arrays j) deep = refl
    arrays_mean marks told scope small next arrays i es (AreArraysIn.more_arrays a bs j e gs h hs) deep =
        let first = first_deep (depth_of_array a) (map depth_of_array bs) in
        let rest = rest_deep (depth_of_array a) (map depth_of_array bs) in
        parts_more (array_tree script marks a) (map (array_tree script marks) bs) _ _ next (meaning.Array j e a) (arrays_meant bs j gs)
        (array_means marks told scope small next a j e h (omega arith)) (arrays_mean marks told scope small _ bs j gs hs (omega arith))

-- terms that are no truths, and truths
pub atom_means : (script : Script) (marks : ℕ) (told : AreToldApart script marks) (scope : List Binder) (small : AreSmall scope) (next : ℕ) (t : Term) (s : Plain) → HasSort script scope t s → IsNoTruth t → depth_of_term t ≤ 1000 → Reads script marks scope next (term_tree script marks t) (term_meant s t)
atom_means script marks told scope small next t s h other deep = as_meant script marks scope next t s _ (other_meaning script scope t s other h) (term_means script marks told scope small next t s h deep)

pub truth_is_meant : (script : Script) (marks : ℕ) (scope : List Binder) (next : ℕ) (b : Bool) → Reads script marks scope next (term_tree script marks (term.Truth b)) (meaning.Formula (formula.Truth b))
truth_is_meant script marks scope next b = at_tree _ _ _ _ _ _ (tree_law.term-Truth script marks b) (truth_means b _ _ next)

pub index_means : (script : Script) (marks : ℕ) (told : AreToldApart script marks) (scope : List Binder) (small : AreSmall scope) (next : ℕ) (t : Term) (s : Plain) → IsIndexSort (length script.sorts) s → HasSort script scope t s → depth_of_term t ≤ 1000 → Reads script marks scope next (term_tree script marks t) (term_meant s t)
index_means script marks told scope small next t s index h deep = as_meant script marks scope next t s _ (index_meaning script scope t s index h) (term_means script marks told scope small next t s h deep)
