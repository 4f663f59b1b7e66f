use Rattle.std.proofs.Common.{rules, of_calls}
use Rattle.std.proofs.lemmas.Fn.{always_returns_same}
use Rattle.function_model.specs.Narrowing.{is_up_to, passes_at}
use Rattle.function_model.proofs.ValueOrder.{up_to_downward}
use Rattle.function_model.proofs.by_halves.count_up_to.Goals as goal

pub returns-clause-split : goal.returns-clause-split
returns-clause-split c never =
    c.partition_point.ensures.partitioned (passes_at c.args.place (is_up_to c.args.bound)) (always_returns_same _ _ _ (λ a r f k. search (rules, of_calls)))
    (never (is_up_to c.args.bound) (up_to_downward c.args.bound))
