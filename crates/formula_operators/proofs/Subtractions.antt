-- `-` of one integer, of two and of more.
use Rattle.std.proofs.Common.{◌≡◌, ◌≢◌, true, false, List, [], ◌∷◌, length, map, Ok, refl, arith}
use Rattle.mbqi_terms.specs.declared.term.Term.{Term}
use Rattle.mbqi_terms.specs.declared.term.Term.TheVariants as term
use Rattle.smtlib_terms.specs.declared.meaning.Side.TheVariants.{Difference}
use Rattle.smtlib_terms.specs.Number.{difference, negation, sum_of}
use Rattle.smtlib_terms.specs.Operators.{integer_meant, meant, subtracted}
use Rattle.formula_operators.specs.Steps.{is_difference}

pub subtracted_one : (s : Term) (rest : List Term) → length (s ∷ rest) ≡ 1 → subtracted (s ∷ rest) ≡ meant (integer_meant (negation (sum_of s)))
subtracted_one s [] one = refl
subtracted_one s (t ∷ rest) one = absurd (omega arith)

difference_left : (s t : Term) → is_difference (s ∷ t ∷ []) ≡ true → subtracted (s ∷ t ∷ []) ≡ Ok (Difference s t)
difference_left s (term.Num n) left = cc
difference_left s other left = refl

pub subtracted_left : (s t : Term) (rest : List Term) → is_difference (s ∷ t ∷ rest) ≡ true → subtracted (s ∷ t ∷ rest) ≡ Ok (Difference s t)
subtracted_left s t [] left = difference_left s t left
subtracted_left s t (u ∷ rest) left = cc

difference_made : (s t : Term) → is_difference (s ∷ t ∷ []) ≡ false → subtracted (s ∷ t ∷ []) ≡ meant (integer_meant (difference (sum_of s) (sum_of t ∷ [])))
difference_made s (term.Num n) made = refl
difference_made s other made = cc

pub subtracted_more : (s : Term) (rest : List Term) → is_difference (s ∷ rest) ≡ false → length (s ∷ rest) ≢ 1 → subtracted (s ∷ rest) ≡ meant (integer_meant (difference (sum_of s) (map sum_of rest)))
subtracted_more s [] made more = absurd (more refl)
subtracted_more s (t ∷ []) made more = difference_made s t made
subtracted_more s (t ∷ u ∷ rest) made more = refl

pub ruleset subtraction_laws = (subtracted_one, subtracted_left, subtracted_more)
