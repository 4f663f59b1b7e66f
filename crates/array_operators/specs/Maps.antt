-- Pointwise maps by their functions (de Moura and Bjørner 2009).
use Rattle.std.specs.Prelude.{◌==◌, List, [], ◌∷◌, length, Result, Ok, Err, if◌then◌else◌}
use Rattle.mbqi_values.specs.declared.fault.FaultKind.{FaultKind}
use Rattle.mbqi_values.specs.declared.fault.FaultKind.TheVariants.{WrongCount, WrongSort}
use Rattle.mbqi_terms.specs.declared.sort.Plain.{Plain}
use Rattle.mbqi_terms.specs.declared.term.ArrayTerm.TheVariants as array
use Rattle.smtlib_terms.specs.declared.meaning.Meaning.{Meaning}
use Rattle.smtlib_terms.specs.declared.meaning.Meaning.TheVariants as meaning
use Rattle.smtlib_terms.specs.Applying.{Pointwise, are_over, arrays_of, mapped_over}
use Rattle.smtlib_terms.specs.Operators.{unbound}
use Rattle.array_operators.specs.declared.pointwise.Pointwise as kept

-- The function as the definition has it.
abbrev pub pointwise_of : kept.Pointwise → Pointwise
pointwise_of p = record { op = p.op; places = p.places; result = p.result }

-- A map whose function was found.
abbrev pub mapped_by : Pointwise → List Meaning → Result Meaning FaultKind
mapped_by p args = if length args == length p.places then mapped_over p args else Err WrongCount

-- A map over arrays with indices of this sort. No public clause cites it, nor the next.
abbrev pub mapped_at : Plain → Pointwise → List Meaning → Result Meaning FaultKind
mapped_at i p args = if are_over i p.places args then unbound i p.result (array.Map p.op (arrays_of args)) else Err WrongSort

-- The sort of the index of the first argument, which must be an array.
abbrev pub first_index : List Meaning → Result Plain FaultKind
first_index [] = Err WrongCount
first_index (meaning.Array i e a ∷ ms) = Ok i
first_index (meaning.Formula f ∷ ms) = Err WrongSort
first_index (meaning.Term s t ∷ ms) = Err WrongSort
