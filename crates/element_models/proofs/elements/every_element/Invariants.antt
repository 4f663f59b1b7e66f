use Rattle.std.proofs.Common.{◌≡◌, ◌-◌, ◌++◌}
use Rattle.element_models.specs.Elements.{elements_from}
use Rattle.element_models.proofs.elements.every_element.Given as goal

-- the elements so far and those to come are all
abbrev pub invariant-loop-element : goal.invariant-loop-element
invariant-loop-element l = l.values.items ++ elements_from l.element (l.size - l.element) ≡ elements_from 0 l.size
