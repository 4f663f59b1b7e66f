-- Connectives of a fixed number of arguments, by their arguments.
use Rattle.std.proofs.Common.{◌≡◌, ℕ, false, List, [], ◌∷◌, length, Result, Ok, Err, refl, arith}
use Rattle.std.specs.Prelude.{◌==◌, suc, if◌then◌else◌}
use Rattle.mbqi_values.specs.declared.fault.FaultKind.{FaultKind}
use Rattle.mbqi_values.specs.declared.fault.FaultKind.TheVariants.{Unsupported}
use Rattle.mbqi_terms.specs.declared.formula.Formula.{Formula}
use Rattle.mbqi_terms.specs.declared.formula.Formula.TheVariants as formula
use Rattle.smtlib_terms.specs.declared.meaning.Meaning.{Meaning}
use Rattle.smtlib_terms.specs.declared.meaning.Meaning.TheVariants as meaning
use Rattle.smtlib_terms.specs.Meaning.{sort_of}
use Rattle.smtlib_terms.specs.Names.{◌>>=◌}
use Rattle.smtlib_terms.specs.Operators.{as_formula, choice, is_other_choice, negated}
use Rattle.operator_arguments.specs.declared.meaning.MeasuredMeaning.{MeasuredMeaning}
use Rattle.operator_arguments.specs.Counts.{sole_of, triple_of}
use Rattle.operator_arguments.specs.Measured.{meaning_of, meanings_of}
use Rattle.formula_operators.specs.Steps.{chosen_of}

negated_alone : (m : Meaning) → negated (m ∷ []) ≡ as_formula m >>= (λ f. Ok (formula.Not f))
negated_alone (meaning.Formula f) = refl
negated_alone (meaning.Term s t) = refl
negated_alone (meaning.Array i e a) = refl

not_one : (n : ℕ) → (suc (suc n) == 1) ≡ false
not_one n = grind arith

pub negated_is : (args : List MeasuredMeaning) → negated (meanings_of args) ≡ sole_of args >>= (λ m. as_formula (meaning_of m) >>= (λ f. Ok (formula.Not f)))
negated_is [] = refl
negated_is (m ∷ []) = negated_alone (meaning_of m)
negated_is (m ∷ n ∷ ms) = rw (not_one (length (meanings_of ms))) refl

-- `ite` of its three arguments
abbrev choice_in : Meaning → Meaning → Meaning → Result Formula FaultKind
choice_in c m n = if is_other_choice (sort_of m) (sort_of n) then Err Unsupported else chosen_of c m n

chosen_is : (c m n : Meaning) → choice (c ∷ m ∷ n ∷ []) ≡ choice_in c m n
chosen_is (meaning.Formula f) (meaning.Formula g) (meaning.Formula h) = refl
chosen_is (meaning.Formula f) (meaning.Formula g) (meaning.Term s t) = refl
chosen_is (meaning.Formula f) (meaning.Formula g) (meaning.Array i e a) = refl
chosen_is (meaning.Formula f) (meaning.Term s t) n = refl
chosen_is (meaning.Formula f) (meaning.Array i e a) n = refl
chosen_is (meaning.Term s t) m n = refl
chosen_is (meaning.Array i e a) m n = refl

pub choice_is : (args : List MeasuredMeaning) → choice (meanings_of args) ≡ triple_of args >>= (λ p. choice_in (meaning_of p.0) (meaning_of p.1) (meaning_of p.2))
choice_is [] = refl
choice_is (c ∷ []) = refl
choice_is (c ∷ m ∷ []) = refl
choice_is (c ∷ m ∷ n ∷ []) = chosen_is (meaning_of c) (meaning_of m) (meaning_of n)
choice_is (c ∷ m ∷ n ∷ k ∷ ms) = refl
