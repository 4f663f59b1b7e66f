use Rattle.std.proofs.Common.{◌≡◌, take}
use Rattle.element_atoms.specs.Profile.{variables_from}
use Rattle.first_profile.proofs.rules.are_variables.Given as goal

abbrev pub invariant-loop-place : goal.invariant-loop-place
invariant-loop-place l = take l.place l.binders ≡ variables_from 0 l.place
