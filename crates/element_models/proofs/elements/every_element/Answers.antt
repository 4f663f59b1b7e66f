use Rattle.std.proofs.Common.{append_assoc}
use Rattle.element_models.proofs.Knots.{elements_next}
use Rattle.element_models.proofs.elements.every_element.Goals as goal

-- the element that is pushed is the next one
pub loop-element-preserved : goal.loop-element-preserved
loop-element-preserved c =
    rw (c.in_ok-push.ensures.items, append_assoc, ← elements_next c.loop-element.element c.args.size c.loop-element-test.true) c.loop-element.invariant
