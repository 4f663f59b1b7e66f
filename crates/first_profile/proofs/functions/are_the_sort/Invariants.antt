use Rattle.std.proofs.Common.{◌≡◌, take}
use Rattle.std.specs.List.{AllByRecursion}
use Rattle.element_atoms.specs.Profile.{the_sort}
use Rattle.first_profile.proofs.functions.are_the_sort.Given as goal

abbrev pub invariant-loop-sort : goal.invariant-loop-sort
invariant-loop-sort l = AllByRecursion (λ arg. arg ≡ the_sort) (take l.sort-index l.sorts)
