use Rattle.std.specs.Prelude.{ℕ, ◌+◌, ◌==◌, Bool, not, ◌&&◌, ◌||◌, List, [], ◌∷◌, ◌++◌, length, map, take, codes, Result, Ok, Err, if◌then◌else◌}
use Rattle.std.specs.List.{fold, list_any, list_all}
use Rattle.mbqi_values.specs.declared.fault.FaultKind.{FaultKind}
use Rattle.mbqi_values.specs.declared.fault.FaultKind.TheVariants.{BadForm, Unsupported, ReservedName, Twice, WrongSort}
use Rattle.mbqi_terms.specs.declared.formula.Formula.{Formula}
use Rattle.mbqi_terms.specs.declared.script.Function.{Function}
use Rattle.mbqi_terms.specs.declared.script.Script.{Script}
use Rattle.mbqi_terms.specs.declared.sort.Sort.{Sort}
use Rattle.mbqi_terms.specs.declared.sort.Sort.TheVariants as sort
use Rattle.sexpr_text.specs.declared.tree.Sexpr.{Sexpr}
use Rattle.smtlib_terms.specs.declared.meaning.Bound.TheVariants.{Value}
use Rattle.smtlib_terms.specs.declared.meaning.Meaning.{Meaning}
use Rattle.smtlib_terms.specs.declared.names.Binding.{Binding}
use Rattle.smtlib_terms.specs.declared.names.Definition.{Definition}
use Rattle.smtlib_terms.specs.declared.names.Macro.{Macro}
use Rattle.smtlib_terms.specs.declared.names.MacroBody.{MacroBody}
use Rattle.smtlib_terms.specs.declared.names.MacroBody.TheVariants as body
use Rattle.smtlib_terms.specs.declared.names.Parameter.{Parameter}
use Rattle.smtlib_terms.specs.Applying.{application}
use Rattle.smtlib_terms.specs.Meaning.{shifted, sort_of}
use Rattle.smtlib_terms.specs.Names.{◌>>=◌, Reader, Signature, is_symbol, sort_meant}
use Rattle.smtlib_terms.specs.Operators.{as_formula}
use Rattle.smtlib_terms.specs.Reading.{bindable, binder_name, binder_sort, is_binder, is_list, is_some_symbol, meant_by, text_of, trees_in}
use Rattle.smtlib_terms.specs.Words.{is_one_of, is_reserved}
use Rattle.mbqi_terms.specs.Sort.{is_array, is_sort}

-- What was declared and defined, in order (SMT-LIB 2.6, section 4.2.3).
pub record Declarations : Type 0 where
  pub sorts : List (List ℕ)
  pub functions : List Function
  pub macros : List Macro

-- The declarations of a script, as a reader has them before its assertions.
abbrev pub declarations_of : Script → Declarations
declarations_of script = record { sorts = script.sorts; functions = script.functions; macros = [] }

-- The arguments of a macro, each under the name of its parameter, as values of a `let`.
abbrev pub arguments : List Parameter → List Meaning → ℕ → List Binding
arguments (p ∷ ps) (m ∷ ms) next = record { name = p.name; bound = Value next m } ∷ arguments ps ms next
arguments [] ms next = []
arguments (p ∷ ps) [] next = []

abbrev pub sorts_of : List Parameter → List Sort
sorts_of parameters = map (λ (p : Parameter). p.sort) parameters

-- What a macro's body means at an application. A tree is read with a `let` of the parameters around it, in the names of
-- the definition. Without parameters an application has nothing to add: what the body meant at its definition, with its
-- variables from the next place on.
abbrev pub body_applied : Signature → List Parameter → MacroBody → List Meaning → ℕ → Result Meaning FaultKind
body_applied names parameters (body.Tree t) args next = meant_by t names (arguments parameters args next) next
body_applied names parameters (body.Meaning m) args next = Ok (shifted 0 next m)

-- A macro's application.
abbrev pub reader_of : Signature → Macro → Reader
reader_of names m = record {
  name = m.name;
  parameters = sorts_of m.parameters;
  reads = λ args next. body_applied names m.parameters m.body args next;
}

abbrev pub with_macro : Signature → Macro → Signature
with_macro names m = record { sorts = names.sorts; functions = names.functions; macros = reader_of names m ∷ names.macros }

-- The names that declared sorts and functions bring, with these macros.
abbrev pub signature_of : Declarations → List Macro → Signature
signature_of d macros = fold with_macro (record { sorts = d.sorts; functions = d.functions; macros = [] }) macros

-- The names that a script's declarations and definitions bring. Names differ and are never declared anew, so the
-- names of a macro's body mean at each application what they meant at its definition.
abbrev pub names_of : Declarations → Signature
names_of d = signature_of d d.macros

-- Those that a macro's body may use: the first so many macros alone.
abbrev pub names_before : Declarations → ℕ → Signature
names_before d macros = signature_of d (take macros d.macros)

-- A sort's, a term's and a formula's meaning by the declarations, or the first fault.
abbrev pub sort_read : Declarations → Sexpr → Result Sort FaultKind
sort_read d t = sort_meant t d.sorts

unfoldable pub term_read : Declarations → Sexpr → Result Meaning FaultKind
term_read d t = meant_by t (names_of d) [] 0

unfoldable pub formula_read : Declarations → Sexpr → Result Formula FaultKind
formula_read d t = meant_by t (names_of d) [] 0 >>= as_formula

abbrev pub is_function : Declarations → List ℕ → Bool
is_function d name =
    list_any (λ (f : Function). is_one_of (f.name ∷ []) name) d.functions || list_any (λ (m : Macro). is_one_of (m.name ∷ []) name) d.macros

-- A name that may be declared.
abbrev pub declarable : {A : Type 0} → List ℕ → Bool → A → Result A FaultKind
declarable name taken result = if is_reserved name then Err ReservedName else (if taken then Err Twice else Ok result)

abbrev pub with_sort : Declarations → List ℕ → Declarations
with_sort d name = record { sorts = d.sorts ++ name ∷ []; functions = d.functions; macros = d.macros }

-- `(declare-sort s 0)`
unfoldable pub sort_declared : Declarations → List ℕ → Result Declarations FaultKind
sort_declared d name = declarable name (is_one_of d.sorts name) (with_sort d name)

-- The sorts that a function may have in this profile: no argument is of sort Bool or an array, and an array has
-- no arguments.
abbrev pub is_first_order : Sort → Bool
is_first_order s = not (is_array s || is_sort s sort.Truth)

abbrev pub is_supported : List Sort → Sort → Bool
is_supported args result = list_all is_first_order args && ((length args == 0) || not (is_array result))

abbrev pub with_function : Declarations → Function → Declarations
with_function d f = record { sorts = d.sorts; functions = d.functions ++ f ∷ []; macros = d.macros }

-- `(declare-fun f (S ...) S)`
unfoldable pub function_declared : Declarations → Function → Result Declarations FaultKind
function_declared d f =
    if is_supported f.args f.result then declarable f.name (is_function d f.name) (with_function d f) else Err Unsupported

-- The parameters of a macro, each in turn.
abbrev pub parameters_of : List Sexpr → List (List ℕ) → List (List ℕ) → Result (List Parameter) FaultKind
parameters_of [] sorts seen = Ok []
parameters_of (t ∷ ts) sorts seen =
    binder_sort t sorts >>= (λ s. bindable (binder_name t) seen >>= (λ name.
    parameters_of ts sorts (seen ++ name ∷ []) >>= (λ ps. Ok (record { name = name; sort = s } ∷ ps))))

-- At its definition a macro is read with opaque arguments: as if each parameter were a constant of its sort,
-- numbered behind the declared functions.
abbrev pub opaque_from : ℕ → List Parameter → List Meaning
opaque_from number [] = []
opaque_from number (p ∷ ps) = application number [] p.sort ∷ opaque_from (number + 1) ps

abbrev pub with_definition : Declarations → Macro → Declarations
with_definition d m = record { sorts = d.sorts; functions = d.functions; macros = d.macros ++ m ∷ [] }

-- What the body of a definition means.
abbrev pub body_meant : Declarations → Definition → Result Meaning FaultKind
body_meant d definition =
    meant_by definition.body (names_of d) (arguments definition.parameters (opaque_from (length d.functions) definition.parameters) 0) 0

-- Whether a macro may be defined whose body has this sort.
abbrev pub may_define : Declarations → Definition → Sort → Result (Unit {0}) FaultKind
may_define d definition s =
    if is_reserved definition.name then Err ReservedName
    else (if is_function d definition.name then Err Twice
    else (if is_sort definition.result s then Ok tt else Err WrongSort))

-- What is kept of a body: its meaning, unless there are parameters.
abbrev pub kept_body : List Parameter → Sexpr → Meaning → MacroBody
kept_body [] t m = body.Meaning m
kept_body (p ∷ ps) t m = body.Tree t

abbrev pub macro_of : Definition → Meaning → Macro
macro_of definition m = record {
  name = definition.name;
  parameters = definition.parameters;
  body = kept_body definition.parameters definition.body m;
}

-- The macro of a definition.
abbrev pub macro_meant : Declarations → Definition → Result Macro FaultKind
macro_meant d definition =
    body_meant d definition >>= (λ m. may_define d definition (sort_of m) >>= (λ u. Ok (macro_of definition m)))

abbrev pub definition_described : Declarations → List ℕ → List Sexpr → Sexpr → Sexpr → Result Definition FaultKind
definition_described d name parameters result body =
    parameters_of parameters d.sorts [] >>= (λ ps. sort_meant result d.sorts >>= (λ s.
    Ok (record { name = name; parameters = ps; result = s; body = body })))

-- A definition begins with its word, a name and a list of parameters.
abbrev pub is_definition : Sexpr → Sexpr → Sexpr → Bool
is_definition head name parameters =
    is_symbol (codes "define-fun") head && (is_some_symbol name && (is_list parameters && list_all is_binder (trees_in parameters)))

-- The definition that trees write.
abbrev pub definition_of : Declarations → List Sexpr → Result Definition FaultKind
definition_of d (head ∷ name ∷ parameters ∷ result ∷ body ∷ []) =
    if is_definition head name parameters then definition_described d (text_of name) (trees_in parameters) result body else Err BadForm
definition_of d trees = Err BadForm

-- `(define-fun f ((x S) ...) S t)`
abbrev pub macro_defined : Declarations → Sexpr → Result Declarations FaultKind
macro_defined d t =
    definition_of d (trees_in t) >>= (λ (definition : Definition). macro_meant d definition >>= (λ (m : Macro). Ok (with_definition d m)))

-- What stands in a definition: its first fault, or none. The macro's own name and sort aren't judged.
unfoldable pub definition_parts : Declarations → Sexpr → Result (Unit {0}) FaultKind
definition_parts d t = definition_of d (trees_in t) >>= (λ (definition : Definition). body_meant d definition >>= (λ m. Ok tt))

-- The first so many declarations of each kind.
abbrev pub released : Declarations → ℕ → ℕ → ℕ → Declarations
released d sorts functions macros =
    record { sorts = take sorts d.sorts; functions = take functions d.functions; macros = take macros d.macros }
