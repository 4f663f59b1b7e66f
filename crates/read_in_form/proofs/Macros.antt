-- What a script's names stand for, macros among them: a formula that is read is in form.
use Rattle.std.proofs.Common.{◌≡◌, ◌≤◌, ◌-◌, ℕ, List, [], ◌∷◌, length, All, Some, Ok, subst, arith}
use Rattle.std.proofs.lemmas.List.Elements.{recursion_from_All}
use Rattle.std.specs.List.{AllByRecursion, fold}
use Rattle.mbqi_terms.specs.declared.formula.Formula.{Formula}
use Rattle.mbqi_terms.specs.declared.script.Function.{Function}
use Rattle.mbqi_terms.specs.declared.script.Script.{Script}
use Rattle.mbqi_terms.specs.declared.sort.Binder.{Binder}
use Rattle.sexpr_text.specs.declared.tree.Sexpr.{Sexpr}
use Rattle.smtlib_terms.specs.declared.meaning.Bound.TheVariants.{Value}
use Rattle.smtlib_terms.specs.declared.meaning.Meaning.{Meaning}
use Rattle.smtlib_terms.specs.declared.meaning.Meaning.TheVariants as meaning
use Rattle.smtlib_terms.specs.declared.names.Definition.{Definition}
use Rattle.smtlib_terms.specs.declared.names.Macro.{Macro}
use Rattle.smtlib_terms.specs.declared.names.MacroBody.{MacroBody}
use Rattle.smtlib_terms.specs.declared.names.MacroBody.TheVariants as body
use Rattle.smtlib_terms.specs.declared.names.Parameter.{Parameter}
use Rattle.smtlib_terms.specs.Declaring.{Declarations, arguments, body_applied, body_meant, formula_read, kept_body, names_of, opaque_from, reader_of, with_macro}
use Rattle.mbqi_terms.specs.Depth.{depth_of_formula}
use Rattle.smtlib_terms.specs.Meaning.{shifted}
use Rattle.smtlib_terms.specs.Names.{Signature, function_named, macro_named}
use Rattle.smtlib_terms.specs.Operators.{as_formula}
use Rattle.smtlib_terms.specs.Reading.{meant_by, side}
use Rattle.smtlib_terms.specs.Words.{is_text}
use Rattle.read_in_form.proofs.MovedFormulas.{bound_read}
use Rattle.read_in_form.proofs.Parts.{one_is_read}
use Rattle.smtlib_terms.specs.InForm.{IsFormula}
use Rattle.read_in_form.proofs.Placed.{AreValues, IsBelow, IsFunction, IsKeptBody, IsRead, IsReader, IsScope, IsSignature}
use Rattle.read_in_form.proofs.Scopes.{extends_itself, no_bindings, scope_more}
use Rattle.read_in_form.proofs.Steps.{first_or_rest, stepped}
use Rattle.read_in_form.proofs.Trees.{tree_is_good}

-- the arguments of a macro, as values
arguments_scoped : (script : Script) (scope : List Binder) (next : ℕ) (ps : List Parameter) (ms : List Meaning) → IsBelow next scope → AreValues script scope next ms → IsScope script scope next (arguments ps ms next)
arguments_scoped script scope next [] ms below values = no_bindings script scope next
arguments_scoped script scope next (p ∷ ps) [] below values = no_bindings script scope next
arguments_scoped script scope next (p ∷ ps) (m ∷ ms) below values =
    scope_more script scope next _ (arguments ps ms next)
    (record { outside = scope; before = omega arith; below = below; extends = extends_itself scope; read = values.0 })
    (arguments_scoped script scope next ps ms below values.1)

nothing_below : IsBelow 0 []
nothing_below place s found = cc

-- what a macro keeps, with its variables moved
kept_is_read : (script : Script) (m : Meaning) (scope : List Binder) (next : ℕ) → IsRead script [] 0 m → IsRead script scope next (shifted 0 next m)
kept_is_read script m scope next read =
    let same : next - 0 ≡ next = omega arith in
    subst (λ (by : ℕ). IsRead script scope next (shifted 0 by m)) same
    (bound_read script scope next (Value 0 m) (record { outside = []; before = omega arith; below = nothing_below; extends = λ place s found. cc; read = read }))

body_is_read : (script : Script) (names : Signature) (ps : List Parameter) (b : MacroBody) → IsSignature script names → IsKeptBody script b → (scope : List Binder) (next : ℕ) (args : List Meaning) (result : Meaning) → IsBelow next scope → AreValues script scope next args → body_applied names ps b args next ≡ Ok result → IsRead script scope next result
body_is_read script names ps (body.Tree t) signature kept scope next args result below values is =
    one_is_read script (side t) names scope (arguments ps args next) next result (tree_is_good script t)
    (record { signature = signature; below = below; scoped = arguments_scoped script scope next ps args below values }) is
body_is_read script names ps (body.Meaning m) signature kept scope next args result below values is =
    let same : shifted 0 next m ≡ result = cc in
    subst (IsRead script scope next) same (kept_is_read script m scope next kept)

macro_is_read : (script : Script) (names : Signature) (m : Macro) → IsSignature script names → IsKeptBody script m.body → IsReader script (reader_of names m)
macro_is_read script names m signature kept = body_is_read script names m.parameters m.body signature kept

-- one more macro
one_more : (script : Script) (names : Signature) (m : Macro) → IsSignature script names → IsKeptBody script m.body → IsSignature script (with_macro names m)
one_more script names m signature kept = record {
  sorts = signature.sorts;
  functions = signature.functions;
  macros = λ name r found. first_or_rest (IsReader script) (is_text name m.name) (reader_of names m) r (macro_named name names.macros) (macro_is_read script names m signature kept) (signature.macros name r) found;
}

all_macros : (script : Script) (names : Signature) (ms : List Macro) → IsSignature script names → AllByRecursion (λ (m : Macro). IsKeptBody script m.body) ms → IsSignature script (fold with_macro names ms)
all_macros script names [] signature kept = signature
all_macros script names (m ∷ ms) signature kept = all_macros script (with_macro names m) ms (one_more script names m signature kept.0) kept.1

-- what the declarations so far stand for
part_names : (script : Script) (d : Declarations) → length d.sorts ≤ length script.sorts → ((name : List ℕ) (number : ℕ) (g : Function) → function_named name 0 d.functions ≡ Some (number, g) → IsFunction script number g) → All (λ (m : Macro). IsKeptBody script m.body) d.macros → IsSignature script (names_of d)
part_names script d fewer functions kept =
    all_macros script (record { sorts = d.sorts; functions = d.functions; macros = [] }) d.macros
    (record { sorts = fewer; functions = functions; macros = λ name m found. cc }) (recursion_from_All _ d.macros kept)

-- a tree that is read where nothing is in scope
alone_is_read : (script : Script) (d : Declarations) (t : Sexpr) (m : Meaning) → IsSignature script (names_of d) → meant_by t (names_of d) [] 0 ≡ Ok m → IsRead script [] 0 m
alone_is_read script d t m signature is =
    one_is_read script (side t) (names_of d) [] [] 0 m (tree_is_good script t) (record { signature = signature; below = nothing_below; scoped = no_bindings script [] 0 }) is

-- a formula that is read
formula_of : (script : Script) (next : ℕ) (scope : List Binder) (m : Meaning) (f : Formula) → IsRead script scope next m → as_formula m ≡ Ok f → IsFormula script scope next f × (depth_of_formula f ≤ 1000)
formula_of script next scope (meaning.Formula g) f is e =
    let same : g ≡ f = cc in
    subst (λ (h : Formula). IsFormula script scope next h × (depth_of_formula h ≤ 1000)) same (is.meaning, is.depth)
formula_of script next scope (meaning.Term s t) f is e = cc
formula_of script next scope (meaning.Array i j a) f is e = cc

pub formula_is_read : (script : Script) (d : Declarations) (t : Sexpr) (f : Formula) → length d.sorts ≤ length script.sorts → ((name : List ℕ) (number : ℕ) (g : Function) → function_named name 0 d.functions ≡ Some (number, g) → IsFunction script number g) → All (λ (m : Macro). IsKeptBody script m.body) d.macros → formula_read d t ≡ Ok f → IsFormula script [] 0 f × (depth_of_formula f ≤ 1000)
unfolding formula_read
formula_is_read script d t f fewer functions kept is =
    let read = stepped (meant_by t (names_of d) [] 0) as_formula f is in
    formula_of script 0 [] read.value f (alone_is_read script d t read.value (part_names script d fewer functions kept) read.first) read.rest

-- what is kept of a definition
body_is_kept : (script : Script) (d : Declarations) (ps : List Parameter) (t : Sexpr) (m : Meaning) → IsSignature script (names_of d) → meant_by t (names_of d) (arguments ps (opaque_from (length d.functions) ps) 0) 0 ≡ Ok m → IsKeptBody script (kept_body ps t m)
body_is_kept script d [] t m signature is = alone_is_read script d t m signature is
body_is_kept script d (p ∷ ps) t m signature is = tt

pub definition_is_kept : (script : Script) (d : Declarations) (given : Definition) (m : Meaning) → length d.sorts ≤ length script.sorts → ((name : List ℕ) (number : ℕ) (g : Function) → function_named name 0 d.functions ≡ Some (number, g) → IsFunction script number g) → All (λ (m : Macro). IsKeptBody script m.body) d.macros → body_meant d given ≡ Ok m → IsKeptBody script (kept_body given.parameters given.body m)
definition_is_kept script d given m fewer functions kept is = body_is_kept script d given.parameters given.body m (part_names script d fewer functions kept) is
