use Rattle.std.proofs.Common.{◌≡◌, take}
use Rattle.rule_form.specs.Rules.{lines_of}
use Rattle.rule_form.proofs.instances.chosen_lines.Given as goal

abbrev pub invariant-loop-choice : goal.invariant-loop-choice
invariant-loop-choice l = l.lines ≡ lines_of l.script.assertions (take l.choice-index l.choices)
