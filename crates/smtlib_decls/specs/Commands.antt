-- What a command adds to a script (SMT-LIB 2.6, section 3.9, in this project's profile and order of kinds).
use Rattle.std.specs.Prelude.{ℕ, Bool, true, false, ◌&&◌, List, [], ◌∷◌, ◌++◌, codes, Option, None, Some, is_some, unwrap_or, Result, Ok, Err, if◌then◌else◌}
use Rattle.std.specs.Option.{option_map_or}
use Rattle.mbqi_values.specs.declared.fault.FaultKind.{FaultKind}
use Rattle.mbqi_values.specs.declared.fault.FaultKind.TheVariants.{BadForm, Unsupported, Twice}
use Rattle.mbqi_terms.specs.declared.formula.Formula.{Formula}
use Rattle.mbqi_terms.specs.declared.sort.Sort.{Sort}
use Rattle.sexpr_text.specs.declared.tree.Sexpr.{Sexpr}
use Rattle.sexpr_text.specs.declared.tree.Sexpr.TheVariants as tree
use Rattle.sexpr_text.specs.Trees.{numeral_in}
use Rattle.smtlib_terms.specs.Declaring.{Declarations, definition_parts, function_declared, macro_defined, sort_declared, sort_read, term_read}
use Rattle.smtlib_terms.specs.declared.meaning.Meaning.{Meaning}
use Rattle.smtlib_terms.specs.Names.{◌>>=◌}
use Rattle.smtlib_terms.specs.Operators.{as_formula}
use Rattle.smtlib_terms.specs.Reading.{is_list, is_some_symbol, text_of, trees_in}
use Rattle.smtlib_terms.specs.Words.{is_one_of, is_text, passed_over_words}
use Rattle.smtlib_decls.specs.declared.command.Command.{Command}
use Rattle.smtlib_decls.specs.declared.command.Command.TheVariants as command
use Rattle.smtlib_decls.specs.declared.progress.Progress.{Progress}
use Rattle.smtlib_decls.specs.Labels.{is_taken, label_of}

-- The words of the profile's commands that aren't passed over.
abbrev pub command_words : List (List ℕ × Command)
command_words =
    (codes "declare-sort", command.DeclareSort)
    ∷ (codes "declare-const", command.DeclareConst)
    ∷ (codes "declare-fun", command.DeclareFun)
    ∷ (codes "define-fun", command.DefineFun)
    ∷ (codes "assert", command.Assert)
    ∷ (codes "check-sat", command.CheckSat)
    ∷ (codes "exit", command.Exit)
    ∷ []

abbrev pub command_among : List (List ℕ × Command) → List ℕ → Option Command
command_among [] text = None
command_among (entry ∷ entries) text = if is_text text entry.0 then Some entry.1 else command_among entries text

-- The command of a word.
unfoldable pub command_of : List ℕ → Command
command_of text =
    if is_one_of passed_over_words text then command.PassedOver
    else unwrap_or (command_among command_words text) command.Unknown

-- What changes the script may not follow the question.
abbrev pub unless_asked : {A : Type 0} → Progress → Result A FaultKind → Result A FaultKind
unless_asked p meant = if p.asks then Err Unsupported else meant

abbrev pub with_names : Progress → Declarations → Progress
with_names p names = record { names = names; assertions = p.assertions; asks = p.asks }

abbrev pub renamed : Progress → Result Declarations FaultKind → Result Progress FaultKind
renamed p meant = meant >>= (λ names. Ok (with_names p names))

abbrev pub is_numeral : Sexpr → Bool
is_numeral t = is_some (numeral_in t)

abbrev pub is_zero : Sexpr → Bool
is_zero t = option_map_or (λ text. is_text text (codes "0")) (numeral_in t) false

-- `(declare-sort s 0)`: sorts with parameters are left out.
abbrev pub sort_command : Progress → List Sexpr → Result Progress FaultKind
sort_command p (name ∷ arity ∷ []) =
    if is_some_symbol name && is_numeral arity
    then (if is_zero arity then unless_asked p (renamed p (sort_declared p.names (text_of name))) else Err Unsupported)
    else Err BadForm
sort_command p parts = Err BadForm

-- Sorts, each in turn.
abbrev pub sorts_read : Declarations → List Sexpr → Result (List Sort) FaultKind
sorts_read names [] = Ok []
sorts_read names (t ∷ ts) = sort_read names t >>= (λ s. sorts_read names ts >>= (λ ss. Ok (s ∷ ss)))

-- A function of these sorts.
unfoldable pub function_command : Progress → List ℕ → List Sort → Sort → Result Progress FaultKind
function_command p name args result =
    unless_asked p (renamed p (function_declared p.names (record { name = name; args = args; result = result })))

-- `(declare-const f S)`
unfoldable pub constant_declared : Progress → List ℕ → Sexpr → Result Progress FaultKind
constant_declared p name sort = sort_read p.names sort >>= (λ s. function_command p name [] s)

abbrev pub constant_command : Progress → List Sexpr → Result Progress FaultKind
constant_command p (name ∷ sort ∷ []) =
    if is_some_symbol name then constant_declared p (text_of name) sort else Err BadForm
constant_command p parts = Err BadForm

-- `(declare-fun f (S ...) S)`
unfoldable pub signature_declared : Progress → List ℕ → List Sexpr → Sexpr → Result Progress FaultKind
signature_declared p name args result =
    sorts_read p.names args >>= (λ ss. sort_read p.names result >>= (λ s. function_command p name ss s))

abbrev pub signature_command : Progress → List Sexpr → Result Progress FaultKind
signature_command p (name ∷ args ∷ result ∷ []) =
    if is_some_symbol name && is_list args then signature_declared p (text_of name) (trees_in args) result
    else Err BadForm
signature_command p parts = Err BadForm

-- `(define-fun f ((x S) ...) S t)`: a macro, which is no part of the script. Behind the question, what stands in it is
-- judged and nothing else.
unfoldable pub definition_behind : Progress → Sexpr → Result Progress FaultKind
definition_behind p t = definition_parts p.names t >>= (λ u. Err Unsupported)

abbrev pub definition_command : Progress → Sexpr → Result Progress FaultKind
definition_command p t = if p.asks then definition_behind p t else renamed p (macro_defined p.names t)

abbrev pub with_assertion : Progress → Option (List ℕ) → Formula → Progress
with_assertion p label f =
    record { names = p.names; assertions = p.assertions ++ record { label = label; formula = f } ∷ []; asks = p.asks }

-- Whether an assertion with this label, or without one, may stand behind what was read.
abbrev pub may_assert : Progress → Option (List ℕ) → Result (Unit {0}) FaultKind
may_assert p label = unless_asked p (if is_taken label p.assertions then Err Twice else Ok tt)

-- A label that no assertion has, or none, and a term that is a formula.
abbrev pub labelled : Progress → Option (List ℕ) → Meaning → Result Progress FaultKind
labelled p label m =
    if is_taken label p.assertions then Err Twice else as_formula m >>= (λ f. Ok (with_assertion p label f))

abbrev pub asserted : Progress → Option (List ℕ) → Meaning → Result Progress FaultKind
asserted p label m = unless_asked p (labelled p label m)

-- `(assert t)`
abbrev pub assertion_command : Progress → List Sexpr → Result Progress FaultKind
assertion_command p (t ∷ []) = label_of t >>= (λ label. term_read p.names t >>= asserted p label)
assertion_command p parts = Err BadForm

-- `(check-sat)`, once.
abbrev pub question_command : Progress → List Sexpr → Result Progress FaultKind
question_command p [] = unless_asked p (Ok (record { names = p.names; assertions = p.assertions; asks = true }))
question_command p (part ∷ parts) = Err BadForm

-- A command with what stands behind its word. `(exit)` alone ends a script, which is said there.
abbrev pub by_command : Command → Progress → Sexpr → List Sexpr → Result Progress FaultKind
by_command command.PassedOver p t parts = Ok p
by_command command.DeclareSort p t parts = sort_command p parts
by_command command.DeclareConst p t parts = constant_command p parts
by_command command.DeclareFun p t parts = signature_command p parts
by_command command.DefineFun p t parts = definition_command p t
by_command command.Assert p t parts = assertion_command p parts
by_command command.CheckSat p t parts = question_command p parts
by_command command.Exit p t parts = Err BadForm
by_command command.Unknown p t parts = Err Unsupported

abbrev pub headed : Progress → Sexpr → List Sexpr → Result Progress FaultKind
headed p t [] = Err BadForm
headed p t (head ∷ parts) = if is_some_symbol head then by_command (command_of (text_of head)) p t parts else Err BadForm

-- What a form adds to a script: a list that begins with the word of a command.
unfoldable pub command_meant : Progress → Sexpr → Result Progress FaultKind
command_meant p t = headed p t (trees_in t)
