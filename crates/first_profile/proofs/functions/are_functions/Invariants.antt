use Rattle.std.proofs.Common.{take}
use Rattle.std.specs.Prelude.{◌⊎◌}
use Rattle.std.specs.List.{AllByRecursion}
use Rattle.element_atoms.specs.Profile.{IsConstant, IsPredicate}
use Rattle.first_profile.proofs.functions.are_functions.Given as goal

abbrev pub invariant-loop-function : goal.invariant-loop-function
invariant-loop-function l = AllByRecursion (λ function. IsConstant function ⊎ IsPredicate function) (take l.function-index l.functions)
