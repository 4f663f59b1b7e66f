use Rattle.std.proofs.Common.{◌≡◌, ◌∙◌, arith}
use Rattle.function_model.proofs.PlaceEnds.{ranked_at_end}
use Rattle.function_model.proofs.rising.rank_places.Goals as goal

pub returns : goal.returns
returns c =
    let end : c.loop-at.at ≡ c.min-both.result = omega (arith, c.loop-at.auto.at-end, c.loop-at-test.false) in
    c.cmp.ensures ∙ ranked_at_end c.loop-at.at c.args.left.now c.args.right.now (end ∙ c.min-both.ensures) ∙ c.loop-at.invariant
