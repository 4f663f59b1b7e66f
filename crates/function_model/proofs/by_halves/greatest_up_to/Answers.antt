use Rattle.std.proofs.Common.{pos, get_or, rules, of_calls, ap, sym, ◌∙◌}
use Rattle.std.proofs.lemmas.Fn.{always_returns_same}
use Rattle.mbqi_values.specs.declared.value.Value.TheVariants.{Num}
use Rattle.function_model.specs.Narrowing.{is_up_to}
use Rattle.function_model.proofs.KnotSearch.{greatest_found, knots_parted}
use Rattle.function_model.proofs.ValueOrder.{up_to_downward}
use Rattle.function_model.proofs.by_halves.greatest_up_to.Goals as goal

pub returns : goal.returns
returns c =
    let v = c.args.value in
    let knots = c.args.knots.now in
    let parted = knots_parted (is_up_to v) (up_to_downward v) knots c.requires in
    let point = c.partition_point-many.ensures.partitioned (is_up_to v) (always_returns_same _ _ _ (λ a r f k. search (rules, of_calls))) parted in
    ap (λ n. get_or knots n (Num (pos 0))) c.saturating_sub.ensures
    ∙ sym (greatest_found v knots c.partition_point-many.result (Num (pos 0)) c.requires c.partition_point-many.ensures.bound point)
