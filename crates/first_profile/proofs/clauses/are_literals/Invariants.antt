use Rattle.std.proofs.Common.{take}
use Rattle.std.specs.List.{AllByRecursion}
use Rattle.element_atoms.specs.Profile.{IsArgument, IsLiteral}
use Rattle.first_profile.proofs.clauses.are_literals.Given as goal

abbrev pub invariant-loop-formula : goal.invariant-loop-formula
invariant-loop-formula l = AllByRecursion (IsLiteral l.functions (IsArgument l.functions l.variables)) (take l.formula-index l.formulas)
