-- A form that is refused, in the reading of forms.
use Rattle.std.proofs.Common.{◌≡◌, ℕ, Bool, false, List, ◌∷◌, Result, Ok, Err, sym, ap, ◌∙◌}
use Rattle.std.specs.Prelude.{if◌then◌else◌}
use Rattle.mbqi_values.specs.declared.fault.FaultKind.{FaultKind}
use Rattle.mbqi_values.specs.declared.fault.ReadError.{ReadError}
use Rattle.mbqi_values.specs.declared.fault.ReadError.TheVariants.{Refused, Memory}
use Rattle.mbqi_values.specs.declared.fault.Refusal.{Refusal}
use Rattle.mbqi_terms.specs.declared.script.Script.{Script}
use Rattle.sexpr_text.specs.declared.tree.Form.{Form}
use Rattle.smtlib_decls.specs.declared.progress.Progress.{Progress}
use Rattle.smtlib_decls.specs.Commands.{command_meant}
use Rattle.smtlib_decls.specs.Scripts.{behind_form, is_exit, script_from, script_of}
use Rattle.smtlib_decls.specs.Takes.{Reads, TakesForm}

pub form_faulty : (error : ReadError) (p after : Progress) (form : Form) (forms : List Form) (whole : Result Script Refusal)
    → is_exit form.tree ≡ false → (let r : Result (Unit {0}) ReadError = Err error in TakesForm r after form.from (command_meant p form.tree))
    → script_from p (form ∷ forms) ≡ whole → (let r : Result Script ReadError = Err error in Reads r whole)
form_faulty (Refused refusal) p after form forms whole plain fault is =
    sym is
    ∙ (ap (λ (t : Bool). if t then Ok (script_of p) else behind_form form.from (command_meant p form.tree) (λ next. script_from next forms)) plain
    ∙ (ap (λ (r : Result Progress FaultKind). behind_form form.from r (λ next. script_from next forms)) fault.0
    ∙ ap (λ (n : ℕ). let r : Refusal = record { at = n; kind = refusal.kind } in let e : Result Script Refusal = Err r in e) (sym fault.1)))
form_faulty Memory p after form forms whole plain fault is = tt
