-- A walk: what was seen, and what is still before it, are the items of the list.
use Rattle.std.proofs.Common.{◌≡◌, ◌<◌, ◌++◌, length}
use Rattle.std.specs.Option.{IfSome}
use Rattle.index_lists.specs.Lists.{item_count, items_from, items_of}
use Rattle.index_lists.proofs.tests.walked.Given as goal

abbrev pub invariant-loop-at : goal.invariant-loop-at
invariant-loop-at l = (l.seen.items ++ items_from l.lists l.at ≡ items_of l.lists l.list) × IfSome l.at (λ item. item < item_count l.lists)

abbrev pub decreases-loop-at : goal.decreases-loop-at
decreases-loop-at l = length (items_from l.lists l.at)
