use Rattle.std.proofs.Common.{◌≡◌, ◌++◌, drop}
use Rattle.rule_form.specs.Rules.{first_from}
use Rattle.rule_form.proofs.instances.first_lines.Given as goal

-- the instances so far and those of the assertions to come are all
abbrev pub invariant-loop-rule : goal.invariant-loop-rule
invariant-loop-rule l = l.lines ++ first_from l.rule (drop l.rule l.script.assertions) ≡ first_from 0 l.script.assertions
