use Rattle.std.proofs.Common.{arith, sym, ◌∙◌}
use Rattle.function_model.proofs.PointValues.{point_behind, point_ends}
use Rattle.function_model.proofs.eval.value_of_place.Goals as goal

pub loop-at-preserved : goal.loop-at-preserved
loop-at-preserved c =
    point_behind c.args.binders.now c.args.point.now c.args.place c.loop-at.at _ (omega arith) (omega arith) c.if-binders-at.false ∙ c.loop-at.invariant

pub returns : goal.returns
returns c = sym (point_ends c.args.binders.now c.args.point.now c.args.place c.loop-at.at (omega arith)) ∙ c.loop-at.invariant
