-- A name with its arguments is read as something in form.
use Rattle.std.proofs.Common.{◌≡◌, ◌≤◌, ◌+◌, ℕ, true, false, cond, eqb, max, List, [], ◌∷◌, length, map, Option, Some, None, Result, Ok, Err, refl, sym, ap, ◌∙◌, subst, arith}
use Rattle.std.proofs.lemmas.List.Elements.{recursion_from_All}
use Rattle.std.specs.List.{AllByRecursion}
use Rattle.std.proofs.lemmas.Bool.{and_parts}
use Rattle.mbqi_values.specs.declared.fault.FaultKind.{FaultKind}
use Rattle.mbqi_values.specs.declared.fault.FaultKind.TheVariants.{WrongCount, WrongSort}
use Rattle.mbqi_terms.specs.declared.script.Function.{Function}
use Rattle.mbqi_terms.specs.declared.script.Script.{Script}
use Rattle.mbqi_terms.specs.declared.sort.Binder.{Binder}
use Rattle.mbqi_terms.specs.declared.sort.Plain.{Plain}
use Rattle.mbqi_terms.specs.declared.sort.Plain.TheVariants as plain
use Rattle.mbqi_terms.specs.declared.sort.Sort.{Sort}
use Rattle.mbqi_terms.specs.declared.sort.Sort.TheVariants as sort
use Rattle.mbqi_terms.specs.declared.term.Symbol.TheVariants as symbol
use Rattle.mbqi_terms.specs.declared.term.Term.{Term}
use Rattle.mbqi_terms.specs.declared.term.Term.TheVariants as term
use Rattle.smtlib_terms.specs.declared.meaning.Bound.{Bound}
use Rattle.smtlib_terms.specs.declared.meaning.Meaning.{Meaning}
use Rattle.smtlib_terms.specs.declared.meaning.Meaning.TheVariants as meaning
use Rattle.smtlib_terms.specs.declared.names.Binding.{Binding}
use Rattle.smtlib_terms.specs.Applying.{alone, application, bound_applied, declared_applied, fitting, function_applied, have_sorts, meaning_in_scope, name_applied, terms_of, application_of}
use Rattle.smtlib_terms.specs.Meaning.{depth_of, sort_of}
use Rattle.smtlib_terms.specs.Names.{Reader, Signature, bound_to, function_named, macro_named, ◌>>=◌}
use Rattle.mbqi_terms.specs.Depth.{depth_of_term}
use Rattle.mbqi_terms.specs.Sort.{is_array, is_sort, plain_sort}
use Rattle.measured_terms.proofs.ArrayLaws.{depth-Name, varies-Name}
use Rattle.measured_terms.proofs.FormulaLaws.{depth-Atom}
use Rattle.measured_terms.proofs.SymbolLaws.{depth-Declared}
use Rattle.measured_terms.proofs.TermLaws.{depth-Apply}
use Rattle.mbqi_terms.specs.HasSort.{HasSortIn, HaveSortsIn, IsArrayIn, IsDeclared, IsIndexSort}
use Rattle.mbqi_terms.specs.InForm.{IsPlaced, IsResultSort, IsVariableSort, plain_lists}
use Rattle.smtlib_terms.specs.InForm.{HasSort, HaveSorts}
use Rattle.read_in_form.proofs.Placed.{AreValues, IsBelow, IsBound, IsFunction, IsMeaning, IsRead, IsReader, IsScope, IsSignature}
use Rattle.read_in_form.proofs.NoTruths.{applied_no_truth}
use Rattle.read_in_form.proofs.SameSorts.{same_sort}
use Rattle.read_in_form.proofs.Steps.{passed, same_ok}

no_truth : (script : Script) (s : Sort) → IsVariableSort (length script.sorts) s → is_sort s sort.Truth ≡ false
no_truth script sort.Truth is = absurd is
no_truth script sort.Int is = refl
no_truth script (sort.Elem n) is = refl
no_truth script (sort.Array i f) is = absurd is

no_array : (script : Script) (s : Sort) (j e : Plain) → IsVariableSort (length script.sorts) s → is_sort s (sort.Array j e) ≡ false
no_array script sort.Truth j e is = absurd is
no_array script sort.Int j e is = refl
no_array script (sort.Elem n) j e is = refl
no_array script (sort.Array i f) j e is = absurd is

-- an argument is a term
record IsArgument (script : Script) (scope : List Binder) (s : Sort) (m : Meaning) : Type 0 where
  is : Plain
  term : Term
  sort : s ≡ plain_sort is
  meaning : m ≡ meaning.Term s term
  index : IsIndexSort (length script.sorts) is
  has : HasSort script scope term is

argument_is : (script : Script) (scope : List Binder) (next : ℕ) (s : Sort) (m : Meaning) → IsVariableSort (length script.sorts) s → IsMeaning script scope next m → is_sort s (sort_of m) ≡ true → IsArgument script scope s m
argument_is script scope next s (meaning.Formula f) var is e = let not : is_sort s sort.Truth ≡ false = no_truth script s var in cc
argument_is script scope next s (meaning.Array j g a) var is e = let not : is_sort s (sort.Array j g) ≡ false = no_array script s j g var in cc
argument_is script scope next s (meaning.Term r t) var is e =
    let same : s ≡ plain_sort is.is = same_sort s (plain_sort is.is) (subst (λ (q : Sort). is_sort s q ≡ true) is.sort e) in
    record { is = is.is; term = t; sort = same; meaning = ap (λ (q : Sort). meaning.Term q t) (is.sort ∙ sym same); index = is.index; has = is.term }

-- arguments are terms of the sorts of their places
record AreArguments (script : Script) (scope : List Binder) (sorts : List Sort) (args : List Meaning) : Type 0 where
  plains : List Plain
  same : sorts ≡ map plain_sort plains
  terms : List Term
  read : terms_of args ≡ Ok terms
  has : HaveSorts script scope terms plains

more_arguments : (script : Script) (scope : List Binder) (s : Sort) (ss : List Sort) (m : Meaning) (ms : List Meaning) → IsArgument script scope s m → AreArguments script scope ss ms → AreArguments script scope (s ∷ ss) (m ∷ ms)
more_arguments script scope s ss m ms a as' =
    record {
      plains = a.is ∷ as'.plains;
      same = ap (λ (r : Sort). r ∷ ss) a.sort ∙ ap (λ (rest : List Sort). plain_sort a.is ∷ rest) as'.same;
      terms = a.term ∷ as'.terms;
      read = ap (λ (n : Meaning). terms_of (n ∷ ms)) a.meaning ∙ ap (λ (r : Result (List Term) FaultKind). r >>= (λ (ts : List Term). Ok (a.term ∷ ts))) as'.read;
      has = HaveSortsIn.more_terms a.term as'.terms a.is as'.plains a.index a.has as'.has;
    }

arguments_are : (script : Script) (scope : List Binder) (next : ℕ) (sorts : List Sort) (args : List Meaning) → AllByRecursion (IsVariableSort (length script.sorts)) sorts → AreValues script scope next args → have_sorts sorts args ≡ true → AreArguments script scope sorts args
arguments_are script scope next [] [] all values e = record { plains = []; same = refl; terms = []; read = refl; has = HaveSortsIn.no_terms }
arguments_are script scope next [] (m ∷ ms) all values e = cc
arguments_are script scope next (s ∷ ss) [] all values e = cc
arguments_are script scope next (s ∷ ss) (m ∷ ms) all values e =
    let tests = and_parts (is_sort s (sort_of m)) (have_sorts ss ms) e in
    more_arguments script scope s ss m ms (argument_is script scope next s m all.0 values.0.meaning tests.0) (arguments_are script scope next ss ms all.1 values.1 tests.1)

-- the application of a function, by the sort of its result
applied_is : (script : Script) (scope : List Binder) (next number : ℕ) (ts : List Term) (ps : List Plain) (r : Sort) → IsResultSort (length script.sorts) r → IsDeclared (plain_lists script.functions) number (map plain_sort ps) r →
    (is_array r ≡ true → map plain_sort ps ≡ []) → HaveSorts script scope ts ps → IsMeaning script scope next (application number ts r)
applied_is script scope next number ts ps sort.Truth is d none hs =
    IsPlaced.atom scope next (term.Apply (symbol.Declared number) ts)
    (record { sort = HasSortIn.application number ts ps plain.Truth d hs; other = applied_no_truth (symbol.Declared number) ts })
applied_is script scope next number ts ps sort.Int is d none hs =
    record { is = plain.Int; sort = refl; index = tt; term = HasSortIn.application number ts ps plain.Int d hs }
applied_is script scope next number ts ps (sort.Elem n) is d none hs =
    record { is = plain.Elem n; sort = refl; index = is; term = HasSortIn.application number ts ps (plain.Elem n) d hs }
applied_is script scope next number ts ps (sort.Array i e) is d none hs =
    record { index = is.0; element = is.1; array = IsArrayIn.name number i e (subst (λ (ss : List Sort). IsDeclared (plain_lists script.functions) number ss (sort.Array i e)) (none refl) d); closed = varies-Name number }

record IsApplication (script : Script) (scope : List Binder) (next number : ℕ) (f : Function) (args : List Meaning) : Type 0 where
  terms : List Term
  read : terms_of args ≡ Ok terms
  is : IsMeaning script scope next (application number terms f.result)

application_is : (script : Script) (scope : List Binder) (next number : ℕ) (f : Function) (args : List Meaning) → IsFunction script number f → AreValues script scope next args → have_sorts f.args args ≡ true → IsApplication script scope next number f args
application_is script scope next number f args is values e =
    let them = arguments_are script scope next f.args args (recursion_from_All (IsVariableSort (length script.sorts)) f.args is.ranked.args) values e in
    record {
      terms = them.terms;
      read = them.read;
      is = applied_is script scope next number them.terms them.plains f.result is.ranked.result
          (record { function = f; there = is.there; takes = them.same; gives = refl })
          (λ array. sym them.same ∙ is.ranked.array array) them.has;
    }

no_terms : (args : List Meaning) (ts : List Term) → args ≡ [] → terms_of args ≡ Ok ts → [] ≡ ts
no_terms [] ts none read = same_ok [] ts read
no_terms (m ∷ ms) ts none read = cc

-- one without arguments isn't deep
constant_depth : (number : ℕ) → depth_of_term (term.Apply (symbol.Declared number) []) ≡ 1
constant_depth number = depth-Apply (symbol.Declared number) [] ∙ ap (λ (d : ℕ). max d 0 + 1) (depth-Declared number)

alone_depth : (number : ℕ) (r : Sort) → depth_of (application number [] r) ≡ 1
alone_depth number sort.Truth = depth-Atom (term.Apply (symbol.Declared number) []) ∙ constant_depth number
alone_depth number sort.Int = constant_depth number
alone_depth number (sort.Elem n) = constant_depth number
alone_depth number (sort.Array i e) = depth-Name number

-- what is read of a name, and within the limit of depth if nothing stands behind it
record IsApplied (script : Script) (scope : List Binder) (next : ℕ) (args : List Meaning) (m : Meaning) : Type 0 where
  meaning : IsMeaning script scope next m
  depth : args ≡ [] → depth_of m ≤ 1000

read_applied : (script : Script) (scope : List Binder) (next : ℕ) (args : List Meaning) (m : Meaning) → IsRead script scope next m → IsApplied script scope next args m
read_applied script scope next args m is = record { meaning = is.meaning; depth = λ none. is.depth }

fits : {A : Type 0} (sorts : List Sort) (args : List Meaning) (r : Result A FaultKind) (a : A) → fitting sorts args r ≡ Ok a → (have_sorts sorts args ≡ true) × (r ≡ Ok a)
fits sorts args r a e =
    let counted = passed (eqb (length args) (length sorts)) (cond (have_sorts sorts args) r (Err WrongSort)) WrongCount a e in
    passed (have_sorts sorts args) r WrongSort a counted.1

function_is : (script : Script) (scope : List Binder) (next : ℕ) (args : List Meaning) (found : Option (ℕ × Function)) (m : Meaning) → AreValues script scope next args →
    ((number : ℕ) (f : Function) → found ≡ Some (number, f) → IsFunction script number f) → function_applied args found ≡ Ok m → IsApplied script scope next args m
function_is script scope next args None m values each e = cc
function_is script scope next args (Some f) m values each e =
    let fit = fits f.1.args args (application_of f.0 f.1.result args) m e in
    let given = application_is script scope next f.0 f.1 args (each f.0 f.1 refl) values fit.0 in
    let same : application f.0 given.terms f.1.result ≡ m =
    same_ok (application f.0 given.terms f.1.result) m (ap (λ (r : Result (List Term) FaultKind). r >>= (λ (ts : List Term). Ok (application f.0 ts f.1.result))) (sym given.read) ∙ fit.1) in
    let applied : IsApplied script scope next args (application f.0 given.terms f.1.result) =
    record {
      meaning = given.is;
      depth = λ none. let one : depth_of (application f.0 given.terms f.1.result) ≡ 1 = ap (λ (ts : List Term). depth_of (application f.0 ts f.1.result)) (sym (no_terms args given.terms none given.read)) ∙ alone_depth f.0 f.1.result in omega arith;
    } in
    subst (IsApplied script scope next args) same applied

-- a macro, or else a function
declared_is : (script : Script) (names : Signature) (scope : List Binder) (next : ℕ) (name : List ℕ) (args : List Meaning) (found : Option Reader) (m : Meaning) → IsSignature script names → IsBelow next scope → AreValues script scope next args →
    ((r : Reader) → found ≡ Some r → IsReader script r) → declared_applied names name next args found ≡ Ok m → IsApplied script scope next args m
declared_is script names scope next name args None m is below values each e = function_is script scope next args (function_named name 0 names.functions) m values (is.functions name) e
declared_is script names scope next name args (Some r) m is below values each e =
    let fit = fits r.parameters args (r.reads args next) m e in
    read_applied script scope next args m (each r refl scope next args m below values fit.1)

-- what is bound stands alone
alone_is : (script : Script) (scope : List Binder) (next : ℕ) (args : List Meaning) (n m : Meaning) → IsRead script scope next n → alone args n ≡ Ok m → IsRead script scope next m
alone_is script scope next [] n m is e = let same : n ≡ m = cc in subst (IsRead script scope next) same is
alone_is script scope next (arg ∷ args) n m is e = cc

bound_is : (script : Script) (names : Signature) (scope : List Binder) (next : ℕ) (name : List ℕ) (args : List Meaning) (found : Option Bound) (m : Meaning) → IsSignature script names → IsBelow next scope → AreValues script scope next args →
    ((bound : Bound) → IsBound script scope next bound → IsRead script scope next (meaning_in_scope next bound)) → ((bound : Bound) → found ≡ Some bound → IsBound script scope next bound) →
    bound_applied names name next args found ≡ Ok m → IsApplied script scope next args m
bound_is script names scope next name args None m is below values reads each e =
    declared_is script names scope next name args (macro_named name names.macros) m is below values (is.macros name) e
bound_is script names scope next name args (Some bound) m is below values reads each e =
    read_applied script scope next args m (alone_is script scope next args (meaning_in_scope next bound) m (reads bound (each bound refl)) e)

-- a name with its arguments
pub name_placed : (script : Script) (names : Signature) (scope : List Binder) (next : ℕ) (bindings : List Binding) (name : List ℕ) (args : List Meaning) (m : Meaning) → IsSignature script names → IsBelow next scope →
    ((bound : Bound) → IsBound script scope next bound → IsRead script scope next (meaning_in_scope next bound)) → IsScope script scope next bindings → AreValues script scope next args →
    name_applied names bindings name next args ≡ Ok m → IsMeaning script scope next m
name_placed script names scope next bindings name args m is below reads scoped values e =
    (bound_is script names scope next name args (bound_to name bindings) m is below values reads (scoped name) e).meaning

-- a name alone
pub name_alone : (script : Script) (names : Signature) (scope : List Binder) (next : ℕ) (bindings : List Binding) (name : List ℕ) (m : Meaning) → IsSignature script names → IsBelow next scope →
    ((bound : Bound) → IsBound script scope next bound → IsRead script scope next (meaning_in_scope next bound)) → IsScope script scope next bindings →
    name_applied names bindings name next [] ≡ Ok m → IsRead script scope next m
name_alone script names scope next bindings name m is below reads scoped e =
    let applied = bound_is script names scope next name [] (bound_to name bindings) m is below tt reads (scoped name) e in
    record { meaning = applied.meaning; depth = applied.depth refl }
