use Rattle.std.proofs.Common.{sym, ap, ◌∙◌}
use Rattle.rule_form.specs.Rules.{clause_of}
use Rattle.rule_form.proofs.Shapes.{clause_forall}
use Rattle.rule_form.proofs.parts.rule_parts.Goals as goal

pub returns-in-Forall-clause-clause : goal.returns-in-Forall-clause-clause
returns-in-Forall-clause-clause c =
    c.get.ensures ∙ sym (ap clause_of c.in-Forall.is ∙ clause_forall c.in-Forall.binders c.in-Forall.clause)
