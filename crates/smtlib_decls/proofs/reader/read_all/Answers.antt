-- A form that is refused refuses the script.
use Rattle.std.proofs.Common.{◌≡◌, ◌+◌, false, drop, List, ◌∷◌, ◌∙◌, ap, sym, arith}
use Rattle.std.proofs.lemmas.Result.{err_from_is_err_and}
use Rattle.std.proofs.lemmas.Grind.{common_steps}
use Rattle.sexpr_text.specs.declared.tree.Form.{Form}
use Rattle.smtlib_decls.specs.Scripts.{is_exit, script_from, script_meant}
use Rattle.smtlib_decls.proofs.FormsRead.{form_faulty}
use Rattle.smtlib_decls.proofs.reader.read_all.Goals as goal

pub returns-in_err-take_form : goal.returns-in_err-take_form
returns-in_err-take_form c =
    let at : drop c.loop-form.form-index c.args.forms.now ≡ c.form-item.result ∷ drop (c.loop-form.form-index + 1) c.args.forms.now = grind (arith, common_steps) in
    let plain : is_exit c.form-item.result.tree ≡ false = sym c.is_exit.ensures ∙ c.if-is_exit.false in
    let whole = ap (λ (forms : List Form). script_from c.loop-form.progress forms) (sym at) ∙ c.loop-form.invariant in
    let p = err_from_is_err_and c.from_residual.result c.from_residual.ensures.1 in
    rw (p.1, p.2)
    (form_faulty _ c.loop-form.progress _ c.form-item.result (drop (c.loop-form.form-index + 1) c.args.forms.now) (script_meant c.args.forms.now) plain c.in_err-take_form.ensures whole)
