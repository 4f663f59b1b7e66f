-- A place for each argument that was passed.
use Rattle.std.proofs.Common.{◌≡◌, map, take}
use Rattle.mbqi_terms.specs.declared.sort.Sort.TheVariants as sort
use Rattle.operator_arguments.specs.Measured.{meanings_of}
use Rattle.array_operators.proofs.pointwise.connective_map.Given as goal

abbrev pub invariant-loop-m : goal.invariant-loop-m
invariant-loop-m l = l.places ≡ map (λ m. sort.Truth) (meanings_of (take l._m-index l.args))
