-- A pointwise map is read as an array term in form.
use Rattle.std.proofs.Common.{◌≡◌, ◌+◌, ℕ, suc, Bool, true, false, cond, eqb, List, [], ◌∷◌, length, map, replicate, Option, Some, None, Result, Ok, Err, refl, sym, ap, ◌∙◌, subst}
use Rattle.std.specs.Prelude.{codes}
use Rattle.std.proofs.lemmas.Bool.{and_parts}
use Rattle.mbqi_values.specs.declared.fault.FaultKind.{FaultKind}
use Rattle.mbqi_values.specs.declared.fault.FaultKind.TheVariants.{Unsupported, WrongCount, WrongSort}
use Rattle.mbqi_terms.specs.declared.script.Function.{Function}
use Rattle.mbqi_terms.specs.declared.script.Script.{Script}
use Rattle.mbqi_terms.specs.declared.sort.Binder.{Binder}
use Rattle.mbqi_terms.specs.declared.sort.Plain.{Plain}
use Rattle.mbqi_terms.specs.declared.sort.Plain.TheVariants as plain
use Rattle.mbqi_terms.specs.declared.sort.Sort.{Sort}
use Rattle.mbqi_terms.specs.declared.sort.Sort.TheVariants as sort
use Rattle.mbqi_terms.specs.declared.term.ArrayTerm.{ArrayTerm}
use Rattle.mbqi_terms.specs.declared.term.ArrayTerm.TheVariants as array
use Rattle.mbqi_terms.specs.declared.term.MapOp.TheVariants as op
use Rattle.smtlib_terms.specs.declared.meaning.Bound.{Bound}
use Rattle.smtlib_terms.specs.declared.meaning.Meaning.{Meaning}
use Rattle.smtlib_terms.specs.declared.meaning.Meaning.TheVariants as meaning
use Rattle.smtlib_terms.specs.declared.names.Binding.{Binding}
use Rattle.smtlib_terms.specs.Applying.{Pointwise, are_over, arrays_of, bound_pointwise, connective_of, declared_pointwise, function_pointwise, is_over, mapped, mapped_over, negation_pointwise, plain_of, pointwise_named}
use Rattle.smtlib_terms.specs.Meaning.{variables_of}
use Rattle.smtlib_terms.specs.Names.{Reader, Signature, bound_to, function_named, macro_named}
use Rattle.smtlib_terms.specs.Operators.{unbound}
use Rattle.smtlib_terms.specs.Words.{is_reserved_word, is_text}
use Rattle.mbqi_terms.specs.HasSort.{AreArraysIn, IsArrayIn, IsPlainSort, IsPointwise}
use Rattle.mbqi_terms.specs.InForm.{IsResultSort, plain_lists}
use Rattle.smtlib_terms.specs.InForm.{AreArrays, IsArray}
use Rattle.read_in_form.proofs.Placed.{AreMeanings, IsArrayOf, IsFunction, IsMeaning, IsSignature}
use Rattle.read_in_form.proofs.SameSorts.{same_plain, same_sort}
use Rattle.read_in_form.proofs.Steps.{passed, stepped, not_refused, same_ok}
use Rattle.mbqi_terms.specs.Varies.{varies}
use Rattle.mbqi_terms.specs.Sort.{is_array, plain_sort, is_plain, is_sort}

-- what a map's function takes and gives, if its places are at least one and of plain sorts
record IsGiven (script : Script) (p : Pointwise) (es : List Plain) : Type 0 where
  pointwise : IsPointwise (plain_lists script.functions) p.op es p.result
  result : IsPlainSort (length script.sorts) p.result

abbrev Gives : Script → Pointwise → Type 0
Gives script p = (e : Plain) (es : List Plain) → p.places ≡ map plain_sort (e ∷ es) → IsGiven script p (e ∷ es)

-- connectives
truth_is : (e : Plain) → sort.Truth ≡ plain_sort e → e ≡ plain.Truth
truth_is plain.Truth same = refl
truth_is plain.Int same = cc
truth_is (plain.Elem s) same = cc

truths_are : (args : List Meaning) (es : List Plain) → map (λ (m : Meaning). sort.Truth) args ≡ map plain_sort es → (n : ℕ) × (es ≡ replicate n plain.Truth)
truths_are [] [] same = (0, refl)
truths_are [] (e ∷ es) same = cc
truths_are (m ∷ ms) [] same = cc
truths_are (m ∷ ms) (e ∷ es) same =
    let first : sort.Truth ≡ plain_sort e = cc in
    let rest : map (λ (m : Meaning). sort.Truth) ms ≡ map plain_sort es = cc in
    let later = truths_are ms es rest in
    (suc later.0, ap (λ (d : Plain). d ∷ es) (truth_is e first) ∙ ap (λ (ds : List Plain). plain.Truth ∷ ds) later.1)

and_gives : (script : Script) (args : List Meaning) → Gives script (connective_of op.And args)
and_gives script args e es same =
    let truths = truths_are args (e ∷ es) same in
    record { pointwise = subst (λ (ds : List Plain). IsPointwise (plain_lists script.functions) op.And ds plain.Truth) (sym truths.1) (IsPointwise.conjunction truths.0); result = tt }

or_gives : (script : Script) (args : List Meaning) → Gives script (connective_of op.Or args)
or_gives script args e es same =
    let truths = truths_are args (e ∷ es) same in
    record { pointwise = subst (λ (ds : List Plain). IsPointwise (plain_lists script.functions) op.Or ds plain.Truth) (sym truths.1) (IsPointwise.disjunction truths.0); result = tt }

one_truth : (e : Plain) (es : List Plain) → (sort.Truth ∷ []) ≡ map plain_sort (e ∷ es) → (e ∷ es) ≡ (plain.Truth ∷ [])
one_truth e [] same = let first : sort.Truth ≡ plain_sort e = cc in ap (λ (d : Plain). d ∷ []) (truth_is e first)
one_truth e (d ∷ ds) same = cc

not_gives : (script : Script) → Gives script negation_pointwise
not_gives script e es same =
    record { pointwise = subst (λ (ds : List Plain). IsPointwise (plain_lists script.functions) op.Not ds plain.Truth) (sym (one_truth e es same)) IsPointwise.negation; result = tt }

-- a function, whose result is plain since it has arguments
plain_result : (script : Script) (s : Sort) → IsResultSort (length script.sorts) s → is_array s ≡ false → (s ≡ plain_sort (plain_of s)) × IsPlainSort (length script.sorts) (plain_of s)
plain_result script sort.Truth is e = (refl, tt)
plain_result script sort.Int is e = (refl, tt)
plain_result script (sort.Elem n) is e = (refl, is)
plain_result script (sort.Array i f) is e = cc

no_array : (s t : Sort) (ss args : List Sort) → args ≡ t ∷ ss → (is_array s ≡ true → args ≡ []) → is_array s ≡ false
no_array sort.Truth t ss args same none = refl
no_array sort.Int t ss args same none = refl
no_array (sort.Elem n) t ss args same none = refl
no_array (sort.Array i e) t ss args same none = let empty = none refl in cc

function_gives : (script : Script) (number : ℕ) (f : Function) → IsFunction script number f → Gives script (record { op = op.Declared number; places = f.args; result = plain_of f.result })
function_gives script number f is e es same =
    let plainly = plain_result script f.result is.ranked.result (no_array f.result (plain_sort e) (map plain_sort es) f.args same is.ranked.array) in
    record { pointwise = IsPointwise.declared number (e ∷ es) (plain_of f.result) (record { function = f; there = is.there; takes = same; gives = plainly.0 }); result = plainly.1 }

found_gives : (script : Script) (found : Option (ℕ × Function)) (p : Pointwise) → ((number : ℕ) (f : Function) → found ≡ Some (number, f) → IsFunction script number f) → function_pointwise found ≡ Ok p → Gives script p
found_gives script None p each e = cc
found_gives script (Some f) p each e =
    let same : record { op = op.Declared f.0; places = f.1.args; result = plain_of f.1.result } ≡ p = cc in
    subst (Gives script) same (function_gives script f.0 f.1 (each f.0 f.1 refl))

declared_gives : (script : Script) (names : Signature) (name : List ℕ) (found : Option Reader) (p : Pointwise) → IsSignature script names → declared_pointwise names name found ≡ Ok p → Gives script p
declared_gives script names name None p is e = found_gives script (function_named name 0 names.functions) p (is.functions name) e
declared_gives script names name (Some r) p is e = cc

bound_gives : (script : Script) (names : Signature) (name : List ℕ) (found : Option Bound) (p : Pointwise) → IsSignature script names → bound_pointwise names name found ≡ Ok p → Gives script p
bound_gives script names name None p is e = declared_gives script names name (macro_named name names.macros) p is e
bound_gives script names name (Some b) p is e = cc

-- by the name
word_gives : (script : Script) (is_and is_or is_not is_word : Bool) (args : List Meaning) (other : Result Pointwise FaultKind) (p : Pointwise) → (other ≡ Ok p → Gives script p) →
    cond is_and (Ok (connective_of op.And args)) (cond is_or (Ok (connective_of op.Or args)) (cond is_not (Ok negation_pointwise) (cond is_word (Err Unsupported) other))) ≡ Ok p → Gives script p
word_gives script true is_or is_not is_word args other p gives e = let same : connective_of op.And args ≡ p = cc in subst (Gives script) same (and_gives script args)
word_gives script false true is_not is_word args other p gives e = let same : connective_of op.Or args ≡ p = cc in subst (Gives script) same (or_gives script args)
word_gives script false false true is_word args other p gives e = let same : negation_pointwise ≡ p = cc in subst (Gives script) same (not_gives script)
word_gives script false false false true args other p gives e = cc
word_gives script false false false false args other p gives e = gives e

named_gives : (script : Script) (names : Signature) (bindings : List Binding) (name : List ℕ) (args : List Meaning) (p : Pointwise) → IsSignature script names → pointwise_named names bindings name args ≡ Ok p → Gives script p
named_gives script names bindings name args p is e =
    word_gives script (is_text name (codes "and")) (is_text name (codes "or")) (is_text name (codes "not")) (is_reserved_word name) args (bound_pointwise names name (bound_to name bindings)) p
    (bound_gives script names name (bound_to name bindings) p is) e

-- the arrays that it is over
record IsOver (script : Script) (scope : List Binder) (i : Plain) (s : Sort) (m : Meaning) : Type 0 where
  element : Plain
  term : ArrayTerm
  sort : s ≡ plain_sort element
  meaning : m ≡ meaning.Array i element term
  array : IsArray script scope term i element

over_is : (script : Script) (scope : List Binder) (next : ℕ) (i : Plain) (s : Sort) (m : Meaning) → IsMeaning script scope next m → is_over i s m ≡ true → IsOver script scope i s m
over_is script scope next i s (meaning.Formula f) is e = cc
over_is script scope next i s (meaning.Term r t) is e = cc
over_is script scope next i s (meaning.Array j d a) is e =
    let tests = and_parts (is_plain i j) (is_sort s (plain_sort d)) e in
    let same : j ≡ i = sym (same_plain i j tests.0) in
    record { element = d; term = a; sort = same_sort s (plain_sort d) tests.1; meaning = ap (λ (k : Plain). meaning.Array k d a) same; array = subst (λ (k : Plain). IsArray script scope a k d) same is.array }

record AreOver (script : Script) (scope : List Binder) (i : Plain) (places : List Sort) (args : List Meaning) : Type 0 where
  elements : List Plain
  same : places ≡ map plain_sort elements
  arrays : AreArrays script scope (arrays_of args) i elements

more_over : (script : Script) (scope : List Binder) (i : Plain) (s : Sort) (ss : List Sort) (m : Meaning) (ms : List Meaning) → IsOver script scope i s m → AreOver script scope i ss ms → AreOver script scope i (s ∷ ss) (m ∷ ms)
more_over script scope i s ss m ms a rest =
    record {
      elements = a.element ∷ rest.elements;
      same = ap (λ (r : Sort). r ∷ ss) a.sort ∙ ap (λ (more : List Sort). plain_sort a.element ∷ more) rest.same;
      arrays = subst (λ (n : Meaning). AreArrays script scope (arrays_of (n ∷ ms)) i (a.element ∷ rest.elements)) (sym a.meaning) (AreArraysIn.more_arrays a.term (arrays_of ms) i a.element rest.elements a.array rest.arrays);
    }

over_are : (script : Script) (scope : List Binder) (next : ℕ) (i : Plain) (places : List Sort) (args : List Meaning) → AreMeanings script scope next args → are_over i places args ≡ true → AreOver script scope i places args
over_are script scope next i [] [] are e = record { elements = []; same = refl; arrays = AreArraysIn.no_arrays i }
over_are script scope next i [] (m ∷ ms) are e = cc
over_are script scope next i (s ∷ ss) [] are e = cc
over_are script scope next i (s ∷ ss) (m ∷ ms) are e =
    let tests = and_parts (is_over i s m) (are_over i ss ms) e in
    more_over script scope i s ss m ms (over_is script scope next i s m are.0 tests.0) (over_are script scope (next + variables_of m) i ss ms are.1 tests.1)

-- the map of arrays
map_is : (script : Script) (scope : List Binder) (next : ℕ) (p : Pointwise) (i e : Plain) (a : ArrayTerm) (arrays : List ArrayTerm) (es : List Plain) (m : Meaning) → Gives script p → IsArrayOf script scope i e a → p.places ≡ map plain_sort es →
    AreArrays script scope (a ∷ arrays) i es → unbound i p.result (array.Map p.op (a ∷ arrays)) ≡ Ok m → IsMeaning script scope next m
map_is script scope next p i e a arrays [] m gives first same hs is = elim hs [ ]
map_is script scope next p i e a arrays (d ∷ ds) m gives first same hs is =
    let free = not_refused (varies (array.Map p.op (a ∷ arrays))) (Ok (meaning.Array i p.result (array.Map p.op (a ∷ arrays)))) _ m is in
    let given = gives d ds same in
    let whole : IsArrayOf script scope i p.result (array.Map p.op (a ∷ arrays)) =
    record { index = first.index; element = given.result; array = IsArrayIn.pointwise p.op a arrays i p.result (d ∷ ds) given.pointwise hs free.0; closed = free.0 } in
    subst (IsMeaning script scope next) (same_ok (meaning.Array i p.result (array.Map p.op (a ∷ arrays))) m free.1) whole

mapped_over_is : (script : Script) (scope : List Binder) (next : ℕ) (p : Pointwise) (args : List Meaning) (m : Meaning) → Gives script p → AreMeanings script scope next args → mapped_over p args ≡ Ok m → IsMeaning script scope next m
mapped_over_is script scope next p [] m gives are is = cc
mapped_over_is script scope next p (meaning.Formula f ∷ ms) m gives are is = cc
mapped_over_is script scope next p (meaning.Term s t ∷ ms) m gives are is = cc
mapped_over_is script scope next p (meaning.Array i e a ∷ ms) m gives are is =
    let args = meaning.Array i e a ∷ ms in
    let over = passed (are_over i p.places args) (unbound i p.result (array.Map p.op (a ∷ arrays_of ms))) WrongSort m is in
    let them = over_are script scope next i p.places args are over.0 in
    map_is script scope next p i e a (arrays_of ms) them.elements m gives are.0 them.same them.arrays over.1

pub mapped_placed : (script : Script) (names : Signature) (scope : List Binder) (next : ℕ) (bindings : List Binding) (name : List ℕ) (args : List Meaning) (m : Meaning) → IsSignature script names → AreMeanings script scope next args →
    mapped names bindings name args ≡ Ok m → IsMeaning script scope next m
mapped_placed script names scope next bindings name args m is are e =
    let named = stepped (pointwise_named names bindings name args) (λ (p : Pointwise). cond (eqb (length args) (length p.places)) (mapped_over p args) (Err WrongCount)) m e in
    let counted = passed (eqb (length args) (length named.value.places)) (mapped_over named.value args) WrongCount m named.rest in
    mapped_over_is script scope next named.value args m (named_gives script names bindings name args named.value is named.first) are counted.1
