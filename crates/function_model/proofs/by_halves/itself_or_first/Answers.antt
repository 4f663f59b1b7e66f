use Rattle.std.proofs.Common.{pos, rules, of_calls, sym, ◌∙◌}
use Rattle.std.proofs.lemmas.Fn.{always_returns_same}
use Rattle.mbqi_values.specs.declared.value.Value.TheVariants.{Num}
use Rattle.function_model.specs.Narrowing.{is_below}
use Rattle.function_model.proofs.KnotSearch.{first_found, itself_found, knots_parted}
use Rattle.function_model.proofs.ValueOrder.{below_downward}
use Rattle.function_model.proofs.by_halves.itself_or_first.Goals as goal

pub returns-then-is_there : goal.returns-then-is_there
returns-then-is_there c =
    let v = c.args.value in
    let knots = c.args.knots.now in
    let parted = knots_parted (is_below v) (below_downward v) knots c.requires in
    let point = c.partition_point-at.ensures.partitioned (is_below v) (always_returns_same _ _ _ (λ a r f k. search (rules, of_calls))) parted in
    sym (itself_found v knots c.partition_point-at.result c.requires point (sym c.is_there.ensures ∙ c.if-is_there.true))

pub returns-else-is_there : goal.returns-else-is_there
returns-else-is_there c =
    let v = c.args.value in
    let knots = c.args.knots.now in
    let parted = knots_parted (is_below v) (below_downward v) knots c.requires in
    let point = c.partition_point-at.ensures.partitioned (is_below v) (always_returns_same _ _ _ (λ a r f k. search (rules, of_calls))) parted in
    sym (first_found v knots c.partition_point-at.result (Num (pos 0)) c.requires point (sym c.is_there.ensures ∙ c.if-is_there.false))
