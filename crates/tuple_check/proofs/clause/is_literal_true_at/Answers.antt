use Rattle.mbqi_terms.specs.declared.formula.Formula.{Formula}
use Rattle.std.proofs.Common.{Bool, not, sym, ap, ◌∙◌}
use Rattle.element_atoms.specs.Atoms.{truth_in}
use Rattle.tuple_check.specs.Failing.{truth_at}
use Rattle.tuple_check.proofs.Truths.{out_atom, out_not}
use Rattle.tuple_check.proofs.clause.is_literal_true_at.Goals as goal

pub returns-in_ok-atom-in-Atom : goal.returns-in_ok-atom-in-Atom
returns-in_ok-atom-in-Atom c =
    c.truth.ensures ∙ (ap (truth_in c.args.table.now c.args.truths.now) c.in_ok-atom-in-Atom.ensures
    ∙ sym (ap (λ f. truth_at c.args.pool.now c.args.table.now c.args.truths.now f c.args.tuple.now) c.in-Atom.is
    ∙ out_atom c.args.pool.now c.args.table.now c.args.truths.now c.in-Atom.t c.args.tuple.now))

pub returns-in_ok-atom-in-Not : goal.returns-in_ok-atom-in-Not
returns-in_ok-atom-in-Not c =
    let at : Formula → Bool = λ f. truth_at c.args.pool.now c.args.table.now c.args.truths.now f c.args.tuple.now in
    ap not (c.truth-in-Not.ensures ∙ ap (truth_in c.args.table.now c.args.truths.now) c.in_ok-atom-in-Not.ensures)
    ∙ sym (ap at c.in-Not.is ∙ (out_not c.args.pool.now c.args.table.now c.args.truths.now c.in-Not.negated c.args.tuple.now
    ∙ ap not (ap at (sym c.get.ensures ∙ c.in-Atom-get.is) ∙ out_atom c.args.pool.now c.args.table.now c.args.truths.now c.in-Atom-get.t c.args.tuple.now)))
