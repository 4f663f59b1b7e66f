use Rattle.std.proofs.Common.{◌≡◌, ◌+◌, ◌-◌, length}
use Rattle.rule_form.specs.Rules.{count}
use Rattle.mbqi_loop.specs.Journal.{Lead, added_in, first_lines}
use Rattle.mbqi_loop.specs.Listed.{IsListed}
use Rattle.mbqi_loop.specs.Refuted.{AreInstances}
use Rattle.mbqi_loop.proofs.solve.rounds.Given as goal

-- the journal leads from the first list to this one, one decision a round
abbrev pub invariant-loop-journal : goal.invariant-loop-journal
invariant-loop-journal g l = record {
  listed : IsListed l.script.functions l.pool.terms l.listed;
  lead : Lead l.script (first_lines l.script) l.journal l.listed.lines;
  instances : AreInstances l.script l.listed.lines;
  steps : l.steps ≡ l.fn.steps + length l.journal;
}

-- the choices that no round added yet
abbrev pub decreases-loop-journal : goal.decreases-loop-journal
decreases-loop-journal g l = count l.script - length (added_in l.journal)
