use Rattle.std.proofs.Common.{sym, ap, ◌∙◌}
use Rattle.mbqi_terms.specs.declared.formula.Formula.TheVariants as formula
use Rattle.rule_form.specs.Rules.{term_at}
use Rattle.mbqi_terms.specs.Substitution.{put_into_formula}
use Rattle.rule_form.proofs.Putting.{put_atom, put_not}
use Rattle.rule_form.proofs.instances.literal_at.Goals as goal

pub returns-in_ok-atom_at-in-Atom : goal.returns-in_ok-atom_at-in-Atom
returns-in_ok-atom_at-in-Atom c =
    ap formula.Atom c.in_ok-atom_at-in-Atom.ensures
    ∙ sym (ap (put_into_formula (term_at c.args.terms.now)) c.in-Atom.is ∙ put_atom (term_at c.args.terms.now) c.in-Atom.t)

pub returns-in_ok-new-in-Not : goal.returns-in_ok-new-in-Not
returns-in_ok-new-in-Not c =
    let at = term_at c.args.terms.now in
    ap formula.Not (c.in_ok-new-in-Not.ensures ∙ ap formula.Atom c.in_ok-atom_at-in-Not.ensures)
    ∙ sym (ap (put_into_formula at) c.in-Not.is ∙ (put_not at c.in-Not.negated
    ∙ ap (λ f. formula.Not (put_into_formula at f)) (sym c.get.ensures ∙ c.in-Atom-get.is) ∙ ap formula.Not (put_atom at c.in-Atom-get.t)))
