use Rattle.std.proofs.Common.{append_assoc}
use Rattle.element_models.proofs.HiddenTables.{hidden_next}
use Rattle.element_models.proofs.elements.push_hidden.Goals as goal

-- the table that is pushed is the next one
pub loop-sort-preserved : goal.loop-sort-preserved
loop-sort-preserved c =
    rw (c.in_ok-push.ensures.items, c.bare_table.ensures, append_assoc, ← hidden_next c.args.seed c.loop-sort.sort c.args.sorts c.loop-sort-test.true)
    c.loop-sort.invariant
