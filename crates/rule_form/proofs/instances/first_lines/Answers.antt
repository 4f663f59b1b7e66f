use Rattle.std.proofs.Common.{All, length, ◌++◌, sym, ap, subst, ◌∙◌, arith, append-nil}
use Rattle.std.proofs.lemmas.List.{drop_all}
use Rattle.mbqi_terms.specs.declared.instance.InstanceLine.{InstanceLine}
use Rattle.element_atoms.specs.Atoms.{formulas_in}
use Rattle.element_atoms.specs.Profile.{IsClause, IsGround}
use Rattle.rule_form.specs.Instance.{IsInstance}
use Rattle.rule_form.specs.Rules.{first_from}
use Rattle.rule_form.proofs.Chosen.{firsts_ground, firsts_instances}
use Rattle.rule_form.proofs.instances.first_lines.Goals as goal

pub returns-clause-ground : goal.returns-clause-ground
returns-clause-ground c =
    let script = c.args.script.now in
    let none = drop_all c.loop-rule.rule script.assertions (omega (arith, ap length c.as_slice-assertion-items.ensures)) in
    let whole = sym (append-nil c.loop-rule.lines) ∙ (ap (λ as'. c.loop-rule.lines ++ first_from c.loop-rule.rule as') (sym none) ∙ c.loop-rule.invariant) in
    subst (λ lines. All (IsClause script.functions (IsGround script.functions)) (formulas_in lines)) (sym whole) (firsts_ground script c.requires)

pub returns-clause-instances : goal.returns-clause-instances
returns-clause-instances c =
    let script = c.args.script.now in
    let none = drop_all c.loop-rule.rule script.assertions (omega (arith, ap length c.as_slice-assertion-items.ensures)) in
    let whole = sym (append-nil c.loop-rule.lines) ∙ (ap (λ as'. c.loop-rule.lines ++ first_from c.loop-rule.rule as') (sym none) ∙ c.loop-rule.invariant) in
    subst (All (λ (line : InstanceLine). IsInstance script line.assertion line.terms line.formula)) (sym whole) (firsts_instances script c.requires)
