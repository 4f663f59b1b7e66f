-- How binders read, and quantifiers over a body that reads.
use Rattle.std.proofs.Common.{◌≡◌, ◌≢◌, ◌<◌, ◌≤◌, ℕ, zero, suc, ◌+◌, ◌^◌, Bool, true, false, cond, ◌&&◌, List, [], ◌∷◌, ◌++◌, length, map, Result, Ok, Err, refl, sym, ap, ◌∙◌, arith}
use Rattle.std.specs.List.{list_all}
use Rattle.mbqi_values.specs.declared.fault.FaultKind.{FaultKind}
use Rattle.mbqi_values.specs.declared.fault.FaultKind.TheVariants.{BadForm}
use Rattle.mbqi_terms.specs.declared.formula.Formula.{Formula}
use Rattle.mbqi_terms.specs.declared.script.Script.{Script}
use Rattle.mbqi_terms.specs.declared.sort.Binder.{Binder}
use Rattle.mbqi_terms.specs.declared.sort.Sort.{Sort}
use Rattle.mbqi_terms.specs.declared.sort.Sort.TheVariants as sort
use Rattle.sexpr_text.specs.declared.tree.Sexpr.{Sexpr}
use Rattle.smtlib_printer.specs.Names.{variable_text}
use Rattle.smtlib_terms.specs.declared.meaning.Meaning.{Meaning}
use Rattle.smtlib_terms.specs.declared.meaning.Meaning.TheVariants as meaning
use Rattle.smtlib_terms.specs.declared.names.Binding.{Binding}
use Rattle.smtlib_terms.specs.declared.names.Variable.{Variable}
use Rattle.smtlib_terms.specs.declared.word.Word.{Word}
use Rattle.smtlib_terms.specs.Names.{◌>>=◌}
use Rattle.smtlib_terms.specs.Reading as reading
use Rattle.smtlib_terms.specs.Reading.{are_binders, bindable, binder_name, binder_sort, binders_of, body_read, first_text, is_binder, is_pair, part_of, quantifiable, quantified, quantified_meant, quantifier_binders, quantifier_read, second_sort}
use Rattle.smtlib_terms.specs.Words.{is_one_of, is_reserved, is_reserved_word, is_text}
use Rattle.smtlib_terms.proofs.TermTrees.{trees_in-List}
use Rattle.smtlib_terms.proofs.Texts.{other_text}
use Rattle.mbqi_terms.specs.InForm.{AreBinders, ArePlaced, IsVariableSort}
use Rattle.printed_trees.specs.Names.{AreToldApart, bindings_of, signature_of}
use Rattle.printed_trees.proofs.ReadParts.{body_is_read}
use Rattle.printed_trees.specs.Means.{Means}
use Rattle.printed_trees.specs.Trees.{binder_tree, binders_tree, sort_tree, variable_tree}
use Rattle.printed_trees.proofs.Decimals.{variables_differ}
use Rattle.printed_trees.proofs.ReadSorts.{variable_sort_means}

-- a binder as it is read
abbrev pub variable_of : ℕ → Binder → Variable
variable_of marks b = record { name = variable_text marks b.place; binder = b }

-- the name of a variable may be bound
free_mark : (marks place : ℕ) → 0 < marks → is_reserved (variable_text marks place) ≡ false
unfolding is_reserved is_reserved_word
free_mark zero place some = absurd (omega arith)
free_mark (suc marks) place some = refl

-- the variables before a place
abbrev AreEarlier : ℕ → ℕ → List (List ℕ) → Type 0
AreEarlier marks place [] = Unit {0}
AreEarlier marks place (x ∷ xs) = ((q : ℕ) × (q < place) × (x ≡ variable_text marks q)) × AreEarlier marks place xs

not_seen : (marks place : ℕ) (seen : List (List ℕ)) → AreEarlier marks place seen → place < 2 ^ 64 → is_one_of seen (variable_text marks place) ≡ false
not_seen marks place [] earlier within = refl
not_seen marks place (x ∷ xs) earlier within =
    let q = earlier.0.0 in
    let below : q < place = earlier.0.1 in
    let differ : q ≢ place = λ same. absurd (omega arith) in
    let other : is_text x (variable_text marks place) ≡ false =
    other_text x (variable_text marks place) (λ same. variables_differ marks q place (omega arith) within differ (sym earlier.0.2 ∙ same)) in
    rw other (not_seen marks place xs earlier.1 within)

one_more : (marks place : ℕ) (seen : List (List ℕ)) → AreEarlier marks place seen → AreEarlier marks (place + 1) (seen ++ variable_text marks place ∷ [])
one_more marks place [] earlier = ((place, omega arith, refl), tt)
one_more marks place (x ∷ xs) earlier =
    let below : earlier.0.0 < place = earlier.0.1 in
    ((earlier.0.0, omega arith, earlier.0.2), one_more marks place xs earlier.1)

bindable_ok : (name : List ℕ) (seen : List (List ℕ)) → is_reserved name ≡ false → is_one_of seen name ≡ false → bindable name seen ≡ Ok name
bindable_ok name seen free new = rw (free, new) refl

quantifiable_ok : (script : Script) (s : Sort) → IsVariableSort (length script.sorts) s → quantifiable s ≡ Ok s
quantifiable_ok script sort.Truth is = absurd is
quantifiable_ok script sort.Int is = refl
quantifiable_ok script (sort.Elem s) is = refl
quantifiable_ok script (sort.Array i e) is = absurd is

-- one binder before others
binder_first : (t : Sexpr) (ts : List Sexpr) (sorts : List (List ℕ)) (place : ℕ) (seen : List (List ℕ)) (s : Sort) (name : List ℕ) (vs : List Variable) →
    binder_sort t sorts ≡ Ok s → quantifiable s ≡ Ok s → bindable (binder_name t) seen ≡ Ok name → binders_of ts sorts (place + 1) (seen ++ name ∷ []) ≡ Ok vs →
    binders_of (t ∷ ts) sorts place seen ≡ Ok (record { name = name; binder = record { place = place; sort = s } } ∷ vs)
binder_first t ts sorts place seen s name vs e f g h = rw (e, f, g, h) refl

binders_read : (script : Script) (marks next : ℕ) (bs : List Binder) (seen : List (List ℕ)) → AreToldApart script marks → ArePlaced (length script.sorts) next bs → next + length bs ≤ 2 ^ 64 → AreEarlier marks next seen →
    binders_of (map (binder_tree script marks) bs) script.sorts next seen ≡ Ok (map (variable_of marks) bs)
binders_read script marks next [] seen told placed within earlier = refl
binders_read script marks next (b ∷ bs) seen told placed within earlier =
    let pair = trees_in-List (variable_tree marks b.place ∷ sort_tree script b.sort ∷ []) in
    let name : binder_name (binder_tree script marks b) ≡ variable_text marks next = ap first_text pair ∙ ap (variable_text marks) placed.0 in
    let named : bindable (binder_name (binder_tree script marks b)) seen ≡ Ok (variable_text marks next) =
    ap (λ (n : List ℕ). bindable n seen) name
    ∙ bindable_ok (variable_text marks next) seen (free_mark marks next told.some) (not_seen marks next seen earlier (omega arith)) in
    binder_first (binder_tree script marks b) (map (binder_tree script marks) bs) script.sorts next seen b.sort (variable_text marks next) (map (variable_of marks) bs)
    (ap (λ (ts : List Sexpr). second_sort ts script.sorts) pair ∙ variable_sort_means script marks b.sort told placed.1)
    (quantifiable_ok script b.sort placed.1) named
    (binders_read script marks (next + 1) bs (seen ++ variable_text marks next ∷ []) told placed.2 (omega arith) (one_more marks next seen earlier))
    ∙ ap (λ (n : ℕ). Ok (record { name = variable_text marks n; binder = record { place = n; sort = b.sort } } ∷ map (variable_of marks) bs)) (sym placed.0)

is_one_binder : (script : Script) (marks : ℕ) (b : Binder) → is_binder (binder_tree script marks b) ≡ true
is_one_binder script marks b = ap is_pair (trees_in-List (variable_tree marks b.place ∷ sort_tree script b.sort ∷ []))

all_binders : (script : Script) (marks : ℕ) (bs : List Binder) → list_all is_binder (map (binder_tree script marks) bs) ≡ true
all_binders script marks [] = refl
all_binders script marks (b ∷ bs) = ap (λ (t : Bool). t && list_all is_binder (map (binder_tree script marks) bs)) (is_one_binder script marks b) ∙ all_binders script marks bs

some_binders : (script : Script) (marks : ℕ) (bs : List Binder) → 0 < length bs → are_binders (map (binder_tree script marks) bs) ≡ true
some_binders script marks [] some = absurd (omega arith)
some_binders script marks (b ∷ bs) some = all_binders script marks (b ∷ bs)

bound_read : (script : Script) (marks next : ℕ) (bs : List Binder) → AreToldApart script marks → AreBinders (length script.sorts) next bs → next + length bs ≤ 2 ^ 64 → quantifier_binders (binders_tree script marks bs) script.sorts next ≡ Ok (map (variable_of marks) bs)
bound_read script marks next bs told bound within =
    let ts = map (binder_tree script marks) bs in
    ap (λ (us : List Sexpr). cond (are_binders us) (binders_of us script.sorts next []) (Err BadForm)) (trees_in-List ts)
    ∙ (ap (λ (t : Bool). cond t (binders_of ts script.sorts next []) (Err BadForm)) (some_binders script marks bs bound.some)
    ∙ binders_read script marks next bs [] told bound.placed within tt)

-- the scope of the body
scope_more : (marks : ℕ) (bs scope : List Binder) → map reading.binding_of (map (variable_of marks) bs) ++ bindings_of marks scope ≡ bindings_of marks (bs ++ scope)
scope_more marks [] scope = refl
scope_more marks (b ∷ bs) scope = ap (λ (more : List Binding). reading.binding_of (variable_of marks b) ∷ more) (scope_more marks bs scope)

count_own : (marks : ℕ) (bs : List Binder) → length (map (variable_of marks) bs) ≡ length bs
count_own marks [] = refl
count_own marks (b ∷ bs) = ap suc (count_own marks bs)

pub binders_own : (marks : ℕ) (bs : List Binder) → map (λ (v : Variable). v.binder) (map (variable_of marks) bs) ≡ bs
binders_own marks [] = refl
binders_own marks (b ∷ bs) = ap (λ (more : List Binder). b ∷ more) (binders_own marks bs)

-- a quantifier
pub quantifier_ok : (w : Word) (script : Script) (marks next : ℕ) (scope bs : List Binder) (body : Sexpr) (f : Formula) → AreToldApart script marks → AreBinders (length script.sorts) next bs → next + length bs ≤ 2 ^ 64 →
    Means body (signature_of script) (bindings_of marks (bs ++ scope)) (next + length bs) (meaning.Formula f) →
    quantifier_read w (map part_of (binders_tree script marks bs ∷ body ∷ [])) (signature_of script) (bindings_of marks scope) next ≡ Ok (meaning.Formula (quantified w (map (variable_of marks) bs) f))
quantifier_ok w script marks next scope bs body f told bound within is =
    let names = signature_of script in
    let vs = map (variable_of marks) bs in
    ap (λ (r : Result (List Variable) FaultKind). r >>= (λ (us : List Variable). body_read (map part_of (body ∷ [])) names (map reading.binding_of us ++ bindings_of marks scope) (next + length us) >>= quantified_meant w us)) (bound_read script marks next bs told bound within)
    ∙ (ap (λ (sc : List Binding). body_read (map part_of (body ∷ [])) names sc (next + length vs) >>= quantified_meant w vs) (scope_more marks bs scope)
    ∙ (ap (λ (n : ℕ). body_read (map part_of (body ∷ [])) names (bindings_of marks (bs ++ scope)) (next + n) >>= quantified_meant w vs) (count_own marks bs)
    ∙ ap (λ (r : Result Meaning FaultKind). r >>= quantified_meant w vs) (body_is_read body names (bindings_of marks (bs ++ scope)) (next + length bs) (meaning.Formula f) is)))
