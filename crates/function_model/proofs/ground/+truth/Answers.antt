use Rattle.std.proofs.Common.{⊎_elim, ap, subst, sym, ◌∙◌}
use Rattle.std.specs.List.{list_all, list_any}
use Rattle.std.specs.Ordering.{is_eq, is_le}
use Rattle.mbqi_values.specs.Value.{is_true}
use Rattle.mbqi_terms.specs.Meanings.{Meanings, truth_of}
use Rattle.function_model.specs.Evaluable.{IsEvaluableFormula}
use Rattle.function_model.specs.Points.{point_of, values_at}
use Rattle.function_model.proofs.FormulaTruths.{no_arrays, no_exists, no_forall, truth_all, truth_any, truth_at_most, truth_atom, truth_equal}
use Rattle.function_model.proofs.ground.+truth.Goals as goal

pub truth_at-unreachable-requires : goal.truth_at-unreachable-requires
truth_at-unreachable-requires t c =
    ⊎_elim
    (λ same. no_arrays same.0 same.1 (subst IsEvaluableFormula same.2 c.requires.formula))
    (λ quantified.
    ⊎_elim
    (λ each. no_forall each.0 each.1 (subst IsEvaluableFormula each.2 c.requires.formula))
    (λ some. no_exists some.0 some.1 (subst IsEvaluableFormula some.2 c.requires.formula))
    quantified)
    c.in-SameArray.is

pub truth_at-returns-in-Atom : goal.truth_at-returns-in-Atom
truth_at-returns-in-Atom t c =
    let m : Meanings = values_at c.args.model.now (point_of c.args.binders.now c.args.point.now) in
    c.is_true.ensures ∙ (ap is_true c.value_at.ensures ∙ (sym (truth_atom m c.in-Atom.t) ∙ ap (truth_of m) (sym c.in-Atom.is)))

pub truth_at-returns-in-Equal : goal.truth_at-returns-in-Equal
truth_at-returns-in-Equal t c =
    let m : Meanings = values_at c.args.model.now (point_of c.args.binders.now c.args.point.now) in
    c.is_eq.ensures ∙ (ap is_eq c.rank_at.ensures ∙ (sym (truth_equal m c.in-Equal.left c.in-Equal.right) ∙ ap (truth_of m) (sym c.in-Equal.is)))

pub truth_at-returns-in-AtMost : goal.truth_at-returns-in-AtMost
truth_at-returns-in-AtMost t c =
    let m : Meanings = values_at c.args.model.now (point_of c.args.binders.now c.args.point.now) in
    c.is_le.ensures ∙ (ap is_le c.rank_at-in-AtMost.ensures ∙ (sym (truth_at_most m c.in-AtMost.left c.in-AtMost.right) ∙ ap (truth_of m) (sym c.in-AtMost.is)))

pub truth_at-returns-in-All : goal.truth_at-returns-in-All
truth_at-returns-in-All t c =
    let m : Meanings = values_at c.args.model.now (point_of c.args.binders.now c.args.point.now) in
    c.are_true_at.ensures
    ∙ (ap (list_all (truth_of m)) c.as_slice-parts.ensures ∙ (sym (truth_all m c.in-All.parts) ∙ ap (truth_of m) (sym c.in-All.is)))

pub truth_at-returns-in-Any : goal.truth_at-returns-in-Any
truth_at-returns-in-Any t c =
    let m : Meanings = values_at c.args.model.now (point_of c.args.binders.now c.args.point.now) in
    c.is_one_true_at.ensures
    ∙ (ap (list_any (truth_of m)) c.as_slice-in-Any.ensures ∙ (sym (truth_any m c.in-Any.parts) ∙ ap (truth_of m) (sym c.in-Any.is)))
