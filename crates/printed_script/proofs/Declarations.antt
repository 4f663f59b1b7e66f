-- Declarations whose names are new.
use Rattle.std.proofs.Common.{◌≡◌, ℕ, Bool, true, false, cond, not, ◌||◌, eqb, List, [], ◌∷◌, ◌++◌, length, map, Some, slice_get, Result, Ok, Err, codes, refl, sym, ap, ◌∙◌}
use Rattle.std.specs.List.{AllByRecursion, list_all, list_any}
use Rattle.mbqi_values.specs.declared.fault.FaultKind.{FaultKind}
use Rattle.mbqi_values.specs.declared.fault.FaultKind.TheVariants.{Unsupported}
use Rattle.mbqi_terms.specs.Distinct.{AreDistinct}
use Rattle.mbqi_terms.specs.declared.script.Function.{Function}
use Rattle.mbqi_terms.specs.declared.script.Script.{Script}
use Rattle.mbqi_terms.specs.declared.sort.Sort.{Sort}
use Rattle.mbqi_terms.specs.declared.sort.Sort.TheVariants as sort
use Rattle.smtlib_decls.specs.Commands.{sorts_read}
use Rattle.smtlib_terms.specs.Declaring.{Declarations, declarable, function_declared, is_first_order, is_function, is_supported, sort_declared, sort_read, with_function, with_sort}
use Rattle.smtlib_terms.specs.Names.{◌>>=◌, sort_meant}
use Rattle.smtlib_terms.specs.Words.{is_one_of, is_reserved, is_text}
use Rattle.smtlib_terms.proofs.SortTrees.{sort_meant-Symbol}
use Rattle.smtlib_terms.proofs.Texts.{other_text}
use Rattle.mbqi_terms.specs.InForm.{IsRanked, IsResultSort, IsVariableSort}
use Rattle.smtlib_terms.specs.InForm.{IsName}
use Rattle.printed_trees.specs.Names.{AreToldApart}
use Rattle.printed_trees.proofs.Lists.{distinct_head, distinct_tail}
use Rattle.printed_trees.specs.Trees.{sort_tree}
use Rattle.printed_trees.proofs.ReadSorts.{array_sort_means, variable_sort_means}
use Rattle.mbqi_terms.specs.Sort.{is_array}

-- the element in the middle of a list
pub get_middle : {X : Type 0} (xs : List X) (x : X) (ys : List X) → slice_get (xs ++ x ∷ ys) (length xs) ≡ Some x
get_middle [] x ys = refl
get_middle (y ∷ xs) x ys = get_middle xs x ys

-- a sort's name behind others
new_sort : (done : List (List ℕ)) (name : List ℕ) (rest : List (List ℕ)) → AreDistinct (done ++ name ∷ rest) → is_one_of done name ≡ false
new_sort [] name rest distinct = refl
new_sort (x ∷ done) name rest distinct =
    let other : is_text x name ≡ false = other_text x name (λ same. distinct_head x (done ++ name ∷ rest) (length done) name distinct (get_middle done name rest) (sym same)) in
    rw other (new_sort done name rest (distinct_tail x (done ++ name ∷ rest) distinct))

declarable_ok : {A : Type 0} (name : List ℕ) (taken : Bool) (result : A) → is_reserved name ≡ false → taken ≡ false → declarable name taken result ≡ Ok result
declarable_ok name taken result free new = rw (free, new) refl

pub sort_is_new : (d : Declarations) (name : List ℕ) (rest : List (List ℕ)) → IsName name → AreDistinct (d.sorts ++ name ∷ rest) → sort_declared d name ≡ Ok (with_sort d name)
unfolding sort_declared
sort_is_new d name rest is distinct = declarable_ok name (is_one_of d.sorts name) (with_sort d name) is.free (new_sort d.sorts name rest distinct)

-- a function's name behind others
new_function : (done : List Function) (f : Function) (rest : List Function) → AreDistinct (map (λ (f : Function). f.name) (done ++ f ∷ rest)) → list_any (λ (g : Function). is_one_of (g.name ∷ []) f.name) done ≡ false
new_function [] f rest distinct = refl
new_function (g ∷ done) f rest distinct =
    let names = map (λ (f : Function). f.name) (done ++ f ∷ rest) in
    let other : is_text g.name f.name ≡ false = other_text g.name f.name (λ same. distinct_head g.name names (length done) f.name distinct (get_name done f rest) (sym same)) in
    rw other (new_function done f rest (distinct_tail g.name names distinct))
  where
    get_name : (xs : List Function) (f : Function) (ys : List Function) → slice_get (map (λ (f : Function). f.name) (xs ++ f ∷ ys)) (length xs) ≡ Some f.name
    get_name [] f ys = refl
    get_name (h ∷ xs) f ys = get_name xs f ys

-- its sorts are supported
first_order : (script : Script) (ss : List Sort) → AllByRecursion (IsVariableSort (length script.sorts)) ss → list_all is_first_order ss ≡ true
first_order script [] all = refl
first_order script (sort.Truth ∷ ss) all = absurd all.0
first_order script (sort.Int ∷ ss) all = first_order script ss all.1
first_order script (sort.Elem s ∷ ss) all = first_order script ss all.1
first_order script (sort.Array i e ∷ ss) all = absurd all.0

array_alone : (args : List Sort) (is : Bool) → (is ≡ true → args ≡ []) → (eqb (length args) 0 || not is) ≡ true
array_alone args true none = ap (λ (ss : List Sort). eqb (length ss) 0 || false) (none refl)
array_alone args false none = or_true (eqb (length args) 0)
  where
    or_true : (b : Bool) → (b || true) ≡ true
    or_true true = refl
    or_true false = refl

supported : (args : List Sort) (result : Sort) → list_all is_first_order args ≡ true → (eqb (length args) 0 || not (is_array result)) ≡ true → is_supported args result ≡ true
supported args result first second = rw first second

pub function_is_new : (script : Script) (sorts : List (List ℕ)) (done : List Function) (f : Function) (rest : List Function) → IsName f.name → IsRanked (length script.sorts) f → AllByRecursion (IsVariableSort (length script.sorts)) f.args → AreDistinct (map (λ (f : Function). f.name) (done ++ f ∷ rest)) →
    function_declared (record { sorts = sorts; functions = done; macros = [] }) f ≡ Ok (record { sorts = sorts; functions = done ++ f ∷ []; macros = [] })
unfolding function_declared
function_is_new script sorts done f rest is ranked args distinct =
    let d : Declarations = record { sorts = sorts; functions = done; macros = [] } in
    let ok : is_supported f.args f.result ≡ true = supported f.args f.result (first_order script f.args args) (array_alone f.args (is_array f.result) ranked.array) in
    let new : is_function d f.name ≡ false = ap (λ (b : Bool). b || false) (new_function done f rest distinct) in
    ap (λ (t : Bool). cond t (declarable f.name (is_function d f.name) (with_function d f)) (Err Unsupported)) ok
    ∙ declarable_ok f.name (is_function d f.name) (with_function d f) is.free new

-- its sorts read
pub result_means : (script : Script) (marks : ℕ) (s : Sort) → AreToldApart script marks → IsResultSort (length script.sorts) s → sort_meant (sort_tree script s) script.sorts ≡ Ok s
result_means script marks sort.Truth told is = sort_meant-Symbol (codes "Bool") script.sorts
result_means script marks sort.Int told is = variable_sort_means script marks sort.Int told is
result_means script marks (sort.Elem s) told is = variable_sort_means script marks (sort.Elem s) told is
result_means script marks (sort.Array i e) told is = array_sort_means script marks i e told is.0 is.1

pub args_mean : (script : Script) (marks : ℕ) (d : Declarations) (ss : List Sort) → AreToldApart script marks → d.sorts ≡ script.sorts → AllByRecursion (IsVariableSort (length script.sorts)) ss → sorts_read d (map (sort_tree script) ss) ≡ Ok ss
args_mean script marks d [] told same all = refl
args_mean script marks d (s ∷ ss) told same all =
    let one : sort_read d (sort_tree script s) ≡ Ok s = ap (λ (names : List (List ℕ)). sort_meant (sort_tree script s) names) same ∙ variable_sort_means script marks s told all.0 in
    ap (λ (r : Result Sort FaultKind). r >>= (λ (t : Sort). sorts_read d (map (sort_tree script) ss) >>= (λ (ts : List Sort). Ok (t ∷ ts)))) one
    ∙ ap (λ (r : Result (List Sort) FaultKind). r >>= (λ (ts : List Sort). Ok (s ∷ ts))) (args_mean script marks d ss told same all.1)
