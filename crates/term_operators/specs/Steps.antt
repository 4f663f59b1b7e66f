-- What an operator hands from one of its functions to the next. No public clause cites it.
use Rattle.std.specs.Prelude.{ℤ, List, Option, None, Some, Result, Ok, Err}
use Rattle.mbqi_values.specs.declared.fault.FaultKind.{FaultKind}
use Rattle.mbqi_values.specs.declared.fault.FaultKind.TheVariants.{UnknownName, NotDifference}
use Rattle.mbqi_terms.specs.declared.formula.Formula.{Formula}
use Rattle.mbqi_terms.specs.declared.formula.Formula.TheVariants as formula
use Rattle.mbqi_terms.specs.declared.sort.Sort.TheVariants as sort
use Rattle.mbqi_terms.specs.declared.term.Term.{Term}
use Rattle.smtlib_terms.specs.declared.meaning.Meaning.{Meaning}
use Rattle.smtlib_terms.specs.declared.meaning.Meaning.TheVariants as meaning
use Rattle.smtlib_terms.specs.declared.word.Word.{Word}
use Rattle.smtlib_terms.specs.declared.word.Word.TheVariants as word
use Rattle.smtlib_terms.specs.Operators.{at_least, chain, choice, compared_by, connective, equality, exclusion, implication, inequality, moved_by, negated, ordered_by, pairs}
use Rattle.formula_operators.specs.Steps.{number_of, order_of}

-- The formula that a connective or a relation makes of its arguments.
abbrev pub formula_of : Word → List Meaning → Result Formula FaultKind
formula_of word.Not args = negated args
formula_of word.And args = connective formula.All args
formula_of word.Or args = connective formula.Any args
formula_of word.Implies args = implication args
formula_of word.Xor args = exclusion args
formula_of word.Equal args = at_least 2 args (compared_by (chain equality) args)
formula_of word.Distinct args = at_least 2 args (compared_by (pairs inequality) args)
formula_of word.Choose args = choice args
formula_of word.AtMost args = at_least 2 args (ordered_by (order_of word.AtMost) args)
formula_of word.Below args = at_least 2 args (ordered_by (order_of word.Below) args)
formula_of word.AtLeast args = at_least 2 args (ordered_by (order_of word.AtLeast) args)
formula_of word.Above args = at_least 2 args (ordered_by (order_of word.Above) args)
formula_of other args = Err UnknownName

-- The number of an argument that is a numeral.
abbrev pub numeral_of : Meaning → Option ℤ
numeral_of (meaning.Term sort.Int t) = number_of t
numeral_of other = None

-- A term moved by the number of a numeral that stands beside it.
abbrev pub moved_by_number : Term → Option ℤ → Result Meaning FaultKind
moved_by_number t None = Err NotDifference
moved_by_number t (Some n) = Ok (moved_by t n)

abbrev pub moved_beside : Meaning → Term → Result Meaning FaultKind
moved_beside other t = moved_by_number t (numeral_of other)
