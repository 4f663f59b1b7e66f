use Rattle.std.proofs.Common.{◌≡◌, map, take}
use Rattle.element_atoms.specs.Profile.{constant}
use Rattle.element_atoms.proofs.tests.terms.Given as goal

abbrev pub invariant-loop-number : goal.invariant-loop-number
invariant-loop-number l = l.terms ≡ map constant (take l.number-index l.constants)
