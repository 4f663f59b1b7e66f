-- How the names of functions and variables read.
use Rattle.std.proofs.Common.{◌≡◌, ◌<◌, ℕ, zero, suc, true, false, eqb, List, [], length, Option, Some, slice_get, Result, Ok, refl, ap, ◌∙◌, arith}
use Rattle.std.specs.Prelude.{codes}
use Rattle.std.proofs.lemmas.Bool.Decides.{nat_tests}
use Rattle.mbqi_values.specs.declared.fault.FaultKind.{FaultKind}
use Rattle.mbqi_terms.specs.declared.script.Function.{Function}
use Rattle.mbqi_terms.specs.declared.script.Script.{Script}
use Rattle.mbqi_terms.specs.declared.sort.Binder.{Binder}
use Rattle.mbqi_terms.specs.declared.sort.Plain.{Plain}
use Rattle.mbqi_terms.specs.declared.sort.Plain.TheVariants as plain
use Rattle.mbqi_terms.specs.declared.sort.Sort.{Sort}
use Rattle.mbqi_terms.specs.declared.term.Symbol.TheVariants as symbol
use Rattle.mbqi_terms.specs.declared.term.Term.{Term}
use Rattle.mbqi_terms.specs.declared.term.Term.TheVariants as term
use Rattle.sexpr_text.specs.declared.tree.Sexpr.TheVariants as tree
use Rattle.smtlib_printer.specs.Names.{name_in, variable_text}
use Rattle.smtlib_terms.specs.declared.meaning.Bound.{Bound}
use Rattle.smtlib_terms.specs.declared.meaning.Meaning.{Meaning}
use Rattle.smtlib_terms.specs.declared.meaning.Meaning.TheVariants as meaning
use Rattle.smtlib_terms.specs.declared.meaning.Side.TheVariants.{Meant}
use Rattle.smtlib_terms.specs.Applying.{application, bound_applied, fitting, function_applied, have_sorts, name_applied, application_of}
use Rattle.smtlib_terms.specs.Operators.{meant, term_meant}
use Rattle.smtlib_terms.specs.Reading.{side, symbol}
use Rattle.smtlib_terms.specs.Words.{is_reserved_word}
use Rattle.smtlib_terms.proofs.TermTrees.{side-Symbol}
use Rattle.mbqi_terms.specs.HasSort.{IsDeclared, IsIndexSort, sort_at}
use Rattle.mbqi_terms.specs.InForm.{plain_lists}
use Rattle.printed_trees.specs.Names.{AreSmall, AreToldApart, bindings_of, signature_of}
use Rattle.printed_trees.proofs.Scopes.{function_found, variable_found}
use Rattle.printed_trees.specs.Means.{Means}
use Rattle.printed_trees.specs.Trees.{function_name_tree, variable_tree}
use Rattle.printed_trees.proofs.Words.{no_word}
use Rattle.mbqi_terms.specs.Sort.{plain_sort, is_plain, is_sort}

-- sorts are themselves
eqb_own : (a : ℕ) → eqb a a ≡ true
eqb_own a = grind (arith, nat_tests)

pub own_plain : (s : Plain) → is_plain s s ≡ true
own_plain plain.Truth = refl
own_plain plain.Int = refl
own_plain (plain.Elem s) = eqb_own s

pub own_sort : (s : Plain) → is_sort (plain_sort s) (plain_sort s) ≡ true
own_sort plain.Truth = refl
own_sort plain.Int = refl
own_sort (plain.Elem s) = eqb_own s

-- the application of a function by the sort of its result
pub application_is : (f : ℕ) (args : List Term) (s : Plain) → application f args (plain_sort s) ≡ term_meant s (term.Apply (symbol.Declared f) args)
application_is f args plain.Truth = refl
application_is f args plain.Int = refl
application_is f args (plain.Elem s) = refl

-- a name of a function, with arguments of its sorts
pub name_fits : (script : Script) (marks : ℕ) (told : AreToldApart script marks) (scope : List Binder) (small : AreSmall scope) (next number : ℕ) (f : Function) (args : List Meaning) →
    slice_get script.functions number ≡ Some f → name_applied (signature_of script) (bindings_of marks scope) f.name next args ≡ fitting f.args args (application_of number f.result args)
name_fits script marks told scope small next number f args e =
    let is = function_found script marks number f told e in
    ap (bound_applied (signature_of script) f.name next args) (is.unbound scope small) ∙ ap (function_applied args) is.found

pub fitting_ok : (sorts : List Sort) (args : List Meaning) (r : Result Meaning FaultKind) → length args ≡ length sorts → have_sorts sorts args ≡ true → fitting sorts args r ≡ r
fitting_ok sorts args r e f =
    let same : eqb (length args) (length sorts) ≡ true = grind (arith, nat_tests) in
    rw (same, f) refl

-- a name that isn't reserved, alone
true_reserved : is_reserved_word (codes "true") ≡ true
unfolding is_reserved_word
true_reserved = refl

false_reserved : is_reserved_word (codes "false") ≡ true
unfolding is_reserved_word
false_reserved = refl

pub name_alone : (script : Script) (marks : ℕ) (told : AreToldApart script marks) (scope : List Binder) (next : ℕ) (name : List ℕ) → is_reserved_word name ≡ false →
    symbol (signature_of script) (bindings_of marks scope) name next ≡ name_applied (signature_of script) (bindings_of marks scope) name next []
name_alone script marks told scope next name free =
    let one = no_word name (codes "true") free true_reserved in
    let two = no_word name (codes "false") free false_reserved in
    rw (one, two) refl

-- a function without arguments
pub constant_means : (script : Script) (marks : ℕ) (told : AreToldApart script marks) (scope : List Binder) (small : AreSmall scope) (next number : ℕ) (result : Sort) →
    IsDeclared (plain_lists script.functions) number [] result → Means (function_name_tree script number) (signature_of script) (bindings_of marks scope) next (application number [] result)
constant_means script marks told scope small next number result d =
    let is = function_found script marks number d.function told d.there in
    ap (λ (o : Option Function). side (tree.Symbol (name_in o)) (signature_of script) (bindings_of marks scope) next) d.there
    ∙ (side-Symbol d.function.name (signature_of script) (bindings_of marks scope) next
    ∙ (ap meant (name_alone script marks told scope next d.function.name is.no_word ∙ name_fits script marks told scope small next number d.function [] d.there)
    ∙ (ap (λ (sorts : List Sort). meant (fitting sorts [] (application_of number d.function.result []))) d.takes
    ∙ ap (λ (s : Sort). Ok (Meant (application number [] s))) d.gives)))

-- a variable
variable_symbol : (marks : ℕ) (script : Script) (scope : List Binder) (next place : ℕ) → 0 < marks →
    symbol (signature_of script) (bindings_of marks scope) (variable_text marks place) next ≡ name_applied (signature_of script) (bindings_of marks scope) (variable_text marks place) next []
variable_symbol zero script scope next place some = absurd (omega arith)
variable_symbol (suc marks) script scope next place some = refl

index_term : (script : Script) (s : Plain) (place : ℕ) → IsIndexSort (length script.sorts) s → meaning.Term (plain_sort s) (term.Var place) ≡ term_meant s (term.Var place)
index_term script plain.Truth place is = absurd is
index_term script plain.Int place is = refl
index_term script (plain.Elem s) place is = refl

pub variable_means : (script : Script) (marks : ℕ) (told : AreToldApart script marks) (scope : List Binder) (small : AreSmall scope) (next place : ℕ) (s : Plain) → IsIndexSort (length script.sorts) s → sort_at scope place ≡ Some (plain_sort s) →
    Means (variable_tree marks place) (signature_of script) (bindings_of marks scope) next (term_meant s (term.Var place))
variable_means script marks told scope small next place s index there =
    side-Symbol (variable_text marks place) (signature_of script) (bindings_of marks scope) next
    ∙ (ap meant (variable_symbol marks script scope next place told.some)
    ∙ (ap (λ (o : Option Bound). meant (bound_applied (signature_of script) (variable_text marks place) next [] o)) (variable_found marks scope place (plain_sort s) small there)
    ∙ ap (λ (m : Meaning). Ok (Meant m)) (index_term script s place index)))
