use Rattle.std.proofs.Common.{take}
use Rattle.std.specs.List.{AllByRecursion}
use Rattle.element_atoms.specs.Profile.{IsRule}
use Rattle.first_profile.proofs.rules.are_rules.Given as goal

abbrev pub invariant-loop-assertion : goal.invariant-loop-assertion
invariant-loop-assertion l = AllByRecursion (λ assertion. IsRule l.functions assertion.formula) (take l.assertion-index l.assertions)
