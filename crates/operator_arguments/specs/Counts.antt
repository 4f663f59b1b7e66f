-- Arguments by their count.
use Rattle.std.specs.Prelude.{List, [], ◌∷◌, Result, Ok, Err}
use Rattle.mbqi_values.specs.declared.fault.FaultKind.{FaultKind}
use Rattle.mbqi_values.specs.declared.fault.FaultKind.TheVariants.{WrongCount}

-- The one, two or three arguments of an operator.
abbrev pub sole_of : {A : Type 0} → List A → Result A FaultKind
sole_of (a ∷ []) = Ok a
sole_of args = Err WrongCount

abbrev pub pair_of : {A : Type 0} → List A → Result (A × A) FaultKind
pair_of (a ∷ b ∷ []) = Ok (a, b)
pair_of args = Err WrongCount

abbrev pub triple_of : {A : Type 0} → List A → Result (A × A × A) FaultKind
triple_of (a ∷ b ∷ c ∷ []) = Ok (a, b, c)
triple_of args = Err WrongCount
