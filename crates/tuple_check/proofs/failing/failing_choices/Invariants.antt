-- The choices so far and those of the rules to come are all.
use Rattle.std.proofs.Common.{◌≡◌, ◌++◌, drop}
use Rattle.tuple_check.specs.Failing.{failing_from}
use Rattle.tuple_check.proofs.failing.failing_choices.Given as goal

abbrev pub invariant-loop-rule : goal.invariant-loop-rule
invariant-loop-rule l =
    l.choices ++ failing_from l.pool l.table l.truths l.rule (drop l.rule l.script.assertions) ≡ failing_from l.pool l.table l.truths 0 l.script.assertions
