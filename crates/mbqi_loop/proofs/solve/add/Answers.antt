use Rattle.std.proofs.Common.{◌≡◌, ◌++◌, sym, subst}
use Rattle.std.proofs.lemmas.List.Elements.{All-append}
use Rattle.std.proofs.lemmas.Result.{IfOk-weaker}
use Rattle.mbqi_terms.specs.declared.instance.InstanceLine.{InstanceLine}
use Rattle.rule_form.specs.Instance.{IsInstance}
use Rattle.mbqi_loop.specs.Refuted.{AreInstances}
use Rattle.mbqi_loop.proofs.solve.add.Goals as goal

pub list-requires-clause-ground : goal.list-requires-clause-ground
list-requires-clause-ground c = rw (c.as_slice-2.ensures) c.in_ok-lines.ensures.ground

pub returns-clause-instances : goal.returns-clause-instances
returns-clause-instances c =
    let script = c.args.script.now in
    IfOk-weaker c.list.result (λ more. more.lines ≡ c.args.listed.lines ++ c.in_ok-lines.lines) (λ more. AreInstances script more.lines)
    (λ more e. subst (AreInstances script) (sym e)
    (All-append (λ (line : InstanceLine). IsInstance script line.assertion line.terms line.formula) c.args.listed.lines c.in_ok-lines.lines
    c.requires.instances c.in_ok-lines.ensures.instances)) c.list.ensures.lines
