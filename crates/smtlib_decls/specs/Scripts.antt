-- The script that forms mean, or their first fault (SMT-LIB 2.6, section 3.9).
use Rattle.std.specs.Prelude.{ℕ, Bool, false, List, [], ◌∷◌, codes, Result, Ok, Err, if◌then◌else◌}
use Rattle.mbqi_values.specs.declared.fault.FaultKind.{FaultKind}
use Rattle.mbqi_values.specs.declared.fault.Refusal.{Refusal}
use Rattle.mbqi_terms.specs.declared.script.Script.{Script}
use Rattle.sexpr_text.specs.declared.tree.Form.{Form}
use Rattle.sexpr_text.specs.declared.tree.Sexpr.{Sexpr}
use Rattle.smtlib_terms.specs.Names.{is_symbol}
use Rattle.smtlib_terms.specs.Reading.{trees_in}
use Rattle.smtlib_decls.specs.declared.progress.Progress.{Progress}
use Rattle.smtlib_decls.specs.Commands.{command_meant}

abbrev pub is_exit_word : List Sexpr → Bool
is_exit_word (head ∷ []) = is_symbol (codes "exit") head
is_exit_word trees = false

-- `(exit)`
unfoldable pub is_exit : Sexpr → Bool
is_exit t = is_exit_word (trees_in t)

-- Before the first command.
abbrev pub nothing : Progress
nothing = record { names = record { sorts = []; functions = []; macros = [] }; assertions = []; asks = false }

abbrev pub script_of : Progress → Script
script_of p = record { sorts = p.names.sorts; functions = p.names.functions; assertions = p.assertions; asks = p.asks }

-- The script, behind a form that was taken, or the refusal at the form's first byte.
abbrev pub behind_form : ℕ → Result Progress FaultKind → (Progress → Result Script Refusal) → Result Script Refusal
behind_form at (Ok p) rest = rest p
behind_form at (Err kind) rest = Err (record { at = at; kind = kind })

-- The script after these forms. What stands behind `(exit)` is passed over.
abbrev pub script_from : Progress → List Form → Result Script Refusal
script_from p [] = Ok (script_of p)
script_from p (form ∷ forms) =
    if is_exit form.tree then Ok (script_of p)
    else behind_form form.from (command_meant p form.tree) (λ next. script_from next forms)

-- The script of forms, or the first of them without a meaning.
abbrev pub script_meant : List Form → Result Script Refusal
script_meant forms = script_from nothing forms
