use Rattle.std.proofs.Common.{All, sym, ap, subst, ◌∙◌, arith}
use Rattle.std.proofs.lemmas.List.{take_all}
use Rattle.mbqi_terms.specs.declared.instance.InstanceLine.{InstanceLine}
use Rattle.element_atoms.specs.Atoms.{formulas_in}
use Rattle.element_atoms.specs.Profile.{IsClause, IsGround}
use Rattle.rule_form.specs.Instance.{IsInstance}
use Rattle.rule_form.specs.Rules.{lines_of}
use Rattle.rule_form.proofs.Chosen.{lines_ground, lines_instances}
use Rattle.rule_form.proofs.instances.chosen_lines.Goals as goal

pub returns-clause-ground : goal.returns-clause-ground
returns-clause-ground c =
    let script = c.args.script.now in
    let whole = c.loop-choice.invariant ∙ ap (lines_of script.assertions) (take_all c.loop-choice.choice-index c.args.choices.now (omega arith)) in
    subst (λ lines. All (IsClause script.functions (IsGround script.functions)) (formulas_in lines)) (sym whole)
    (lines_ground script c.requires.elementary c.args.choices.now c.requires.choices)

pub returns-clause-instances : goal.returns-clause-instances
returns-clause-instances c =
    let script = c.args.script.now in
    let whole = c.loop-choice.invariant ∙ ap (lines_of script.assertions) (take_all c.loop-choice.choice-index c.args.choices.now (omega arith)) in
    subst (All (λ (line : InstanceLine). IsInstance script line.assertion line.terms line.formula)) (sym whole)
    (lines_instances script c.requires.elementary c.args.choices.now c.requires.choices)
