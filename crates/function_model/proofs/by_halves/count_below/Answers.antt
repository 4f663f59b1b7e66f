use Rattle.std.proofs.Common.{rules, of_calls}
use Rattle.std.proofs.lemmas.Fn.{always_returns_same}
use Rattle.function_model.specs.Narrowing.{is_below, passes_at}
use Rattle.function_model.proofs.ValueOrder.{below_downward}
use Rattle.function_model.proofs.by_halves.count_below.Goals as goal

pub returns-clause-split : goal.returns-clause-split
returns-clause-split c never =
    c.partition_point.ensures.partitioned (passes_at c.args.place (is_below c.args.bound)) (always_returns_same _ _ _ (λ a r f k. search (rules, of_calls)))
    (never (is_below c.args.bound) (below_downward c.args.bound))
