-- What an operator hands from one of its functions to the next.
use Rattle.std.specs.Prelude.{ℤ, Bool, false, is_none, List, [], ◌∷◌, ◌++◌, Option, None, Some, Result}
use Rattle.std.specs.Option.{option_to_list}
use Rattle.mbqi_values.specs.declared.fault.FaultKind.{FaultKind}
use Rattle.mbqi_terms.specs.declared.formula.Formula.{Formula}
use Rattle.mbqi_terms.specs.declared.formula.Formula.TheVariants as formula
use Rattle.mbqi_terms.specs.declared.term.Term.{Term}
use Rattle.mbqi_terms.specs.declared.term.Term.TheVariants as term
use Rattle.smtlib_terms.specs.declared.meaning.Meaning.{Meaning}
use Rattle.smtlib_terms.specs.declared.word.Word.{Word}
use Rattle.smtlib_terms.specs.declared.word.Word.TheVariants as word
use Rattle.smtlib_terms.specs.Names.{◌>>=◌}
use Rattle.smtlib_terms.specs.Number.{Sum}
use Rattle.smtlib_terms.specs.Operators.{as_formula, at_most, below, unquantified}

-- `ite` of three meanings that are formulas.
abbrev pub chosen_of : Meaning → Meaning → Meaning → Result Formula FaultKind
chosen_of c m n =
    as_formula c >>= (λ f. as_formula m >>= (λ g. as_formula n >>= (λ h. unquantified (f ∷ []) (formula.Choose f g h))))

-- The relation of two integers that a word names.
abbrev pub order_of : Word → Term → Term → Formula
order_of word.Below s t = below s t
order_of word.AtLeast s t = at_most t s
order_of word.Above s t = below t s
order_of other s t = at_most s t

-- Terms with that of one more sum.
abbrev pub bases_with : List Term → Sum → List Term
bases_with bases s = bases ++ option_to_list s.base

-- The number of an integer's numeral.
abbrev pub number_of : Term → Option ℤ
number_of (term.Num n) = Some n
number_of other = None

-- Whether integers are one minus another that is no numeral.
abbrev pub is_difference : List Term → Bool
is_difference (s ∷ t ∷ []) = is_none (number_of t)
is_difference ts = false
