-- What was read, with its measures, as the meaning that the definition speaks of.
use Rattle.std.specs.Prelude.{◌≡◌, List, map, Option, None, Some, Result, Ok, Err}
use Rattle.mbqi_values.specs.declared.fault.FaultKind.{FaultKind}
use Rattle.mbqi_values.specs.declared.fault.ReadError.{ReadError}
use Rattle.mbqi_terms.specs.declared.sort.Plain.{Plain}
use Rattle.mbqi_terms.specs.declared.term.ArrayTerm.{ArrayTerm}
use Rattle.smtlib_terms.specs.declared.meaning.Meaning.{Meaning}
use Rattle.smtlib_terms.specs.declared.meaning.Meaning.TheVariants as meaning
use Rattle.smtlib_terms.specs.declared.meaning.Side.{Side}
use Rattle.smtlib_terms.specs.declared.meaning.Side.TheVariants as side
use Rattle.smtlib_terms.specs.Answers.{IsFault}
use Rattle.operator_arguments.specs.declared.meaning.MeasuredMeaning.{MeasuredMeaning}
use Rattle.operator_arguments.specs.declared.meaning.MeasuredMeaning.TheVariants.{Formula, Term, Array}
use Rattle.operator_arguments.specs.declared.meaning.MeasuredSide.{MeasuredSide}
use Rattle.operator_arguments.specs.declared.meaning.MeasuredSide.TheVariants.{Meant, Difference}

-- The meaning without its measures.
abbrev pub meaning_of : MeasuredMeaning → Meaning
meaning_of (Formula f) = meaning.Formula f
meaning_of (Term s t) = meaning.Term s t
meaning_of (Array i e a) = meaning.Array i e a

abbrev pub meanings_of : List MeasuredMeaning → List Meaning
meanings_of ms = map meaning_of ms

-- The array term of a meaning, with the sorts of its index and its elements.
abbrev pub array_in : Meaning → Option (Plain × Plain × ArrayTerm)
array_in (meaning.Array i e a) = Some (i, e, a)
array_in (meaning.Formula f) = None
array_in (meaning.Term s t) = None

abbrev pub side_of : MeasuredSide → Side
side_of (Meant m) = side.Meant (meaning_of m)
side_of (Difference s t) = side.Difference s t

-- What an operator answers: what is meant, exactly where there is a meaning, else the kind of the first fault; or that
-- memory ran out.
abbrev pub Means : {A B : Type 0} → (A → B) → Result A ReadError → Result B FaultKind → Type 0
Means as_meant (Ok a) meant = meant ≡ Ok (as_meant a)
Means as_meant (Err error) meant = IsFault error meant
