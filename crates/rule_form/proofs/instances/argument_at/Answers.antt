use Rattle.std.proofs.Common.{◌≡◌, Ok, Err, Result, IfOk, length, refl, sym, ap, ◌∙◌}
use Rattle.std.specs.declared.alloc.AllocError.{AllocError}
use Rattle.mbqi_terms.specs.declared.term.Term.{Term}
use Rattle.mbqi_terms.specs.declared.term.Term.TheVariants as term
use Rattle.std.proofs.lemmas.Option.{get_or_from_slice_get, slice_get_read}
use Rattle.rule_form.specs.Rules.{term_at}
use Rattle.mbqi_terms.specs.Substitution.{put_into}
use Rattle.rule_form.proofs.Putting.{put_variable, put_named, variable_within}
use Rattle.rule_form.proofs.instances.argument_at.Goals as goal

copied : (r : Result Term AllocError) (t u : Term) → IfOk r (λ copy. copy ≡ t) → t ≡ u → IfOk r (λ copy. copy ≡ u)
copied (Ok copy) t u is e = is ∙ e
copied (Err e) t u is f = tt

pub returns-in-Var : goal.returns-in-Var
returns-in-Var c =
    let terms = c.args.terms.now in
    let within = variable_within c.args.functions.now (length terms) c.args.arg.now c.in-Var.place c.requires c.in-Var.is in
    let there = slice_get_read terms (length terms) c.in-Var.place c.index-terms-place.result refl within c.index-terms-place.is in
    copied c.copy_term.result c.index-terms-place.result (put_into (term_at terms) c.args.arg.now) c.copy_term.ensures
    (sym (get_or_from_slice_get terms c.in-Var.place c.index-terms-place.result (term.Var c.in-Var.place) there) ∙ sym (ap (put_into (term_at c.args.terms.now)) c.in-Var.is ∙ put_variable (term_at c.args.terms.now) c.in-Var.place))

pub returns-in_default : goal.returns-in_default
returns-in_default c =
    copied c.copy_term-in_default.result c.args.arg.now (put_into (term_at c.args.terms.now) c.args.arg.now) c.copy_term-in_default.ensures
    (sym (put_named c.args.functions.now (length c.args.terms.now) (term_at c.args.terms.now) c.args.arg.now c.requires c.in_default.not-Var))
