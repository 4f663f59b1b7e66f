use Rattle.std.proofs.Common.{◌≡◌, [], sym, ◌∙◌}
use Rattle.rule_form.specs.Instance.{whole_at}
use Rattle.rule_form.proofs.Chosen.{itself_whole}
use Rattle.rule_form.proofs.instances.itself.Goals as goal

pub returns : goal.returns
returns c =
    let formula : c.in_ok-copy_formula.field-0 ≡ whole_at c.args.rule c.args.formula.now [] =
    c.in_ok-copy_formula.ensures ∙ sym (itself_whole c.args.script.now c.requires.elementary c.args.rule c.args.formula.now c.requires.rule c.requires.closed) in
    λ i. record { assertion = c.args.rule; terms = c.new.ensures i; formula = formula i }
