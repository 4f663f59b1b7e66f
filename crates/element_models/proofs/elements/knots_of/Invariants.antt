use Rattle.std.proofs.Common.{◌≡◌, take}
use Rattle.element_models.specs.Elements.{knots_of}
use Rattle.element_models.proofs.elements.knots_of.Given as goal

abbrev pub invariant-loop-arg : goal.invariant-loop-arg
invariant-loop-arg l = l.knots.items ≡ knots_of l.size (take l._arg-index l.args)
