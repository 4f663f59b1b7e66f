use Rattle.std.proofs.Common.{take}
use Rattle.std.specs.List.{AllByRecursion}
use Rattle.element_atoms.specs.Profile.{IsArgument}
use Rattle.first_profile.proofs.clauses.are_arguments.Given as goal

abbrev pub invariant-loop-t : goal.invariant-loop-t
invariant-loop-t l = AllByRecursion (IsArgument l.functions l.variables) (take l.t-index l.terms)
