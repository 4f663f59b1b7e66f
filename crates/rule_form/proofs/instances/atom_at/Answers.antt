use Rattle.std.proofs.Common.{length, sym, ap, ◌∙◌}
use Rattle.mbqi_terms.specs.declared.term.Symbol.TheVariants as symbol
use Rattle.mbqi_terms.specs.declared.term.Term.TheVariants as term
use Rattle.element_atoms.specs.Profile.{IsArgument}
use Rattle.rule_form.specs.Rules.{term_at}
use Rattle.mbqi_terms.specs.Substitution.{put_into}
use Rattle.rule_form.proofs.Putting.{atom_arguments, put_apply}
use Rattle.rule_form.proofs.instances.atom_at.Goals as goal

pub arguments_at-requires : goal.arguments_at-requires
arguments_at-requires c =
    atom_arguments c.args.functions.now (IsArgument c.args.functions.now (length c.args.terms.now)) c.args.t.now c.declared-predicate.result.0
    c.declared-predicate.result.1.now c.requires c.declared-predicate.ensures

pub returns : goal.returns
returns c =
    ap (term.Apply (symbol.Declared c.declared-predicate.result.0)) c.in_ok-args.ensures
    ∙ sym (ap (put_into (term_at c.args.terms.now)) c.declared-predicate.ensures
    ∙ put_apply (term_at c.args.terms.now) c.declared-predicate.result.0 c.declared-predicate.result.1.now)
