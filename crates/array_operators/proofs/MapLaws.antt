-- Pointwise maps by the sort of the first argument.
use Rattle.std.proofs.Common.{◌≡◌, List, [], ◌∷◌, refl}
use Rattle.smtlib_terms.specs.Applying.{Pointwise, mapped_over}
use Rattle.smtlib_terms.specs.Names.{◌>>=◌}
use Rattle.array_operators.specs.Maps.{first_index, mapped_at}
use Rattle.operator_arguments.specs.Measured.{meanings_of}
use Rattle.operator_arguments.specs.declared.meaning.MeasuredMeaning.{MeasuredMeaning}
use Rattle.operator_arguments.specs.declared.meaning.MeasuredMeaning.TheVariants.{Formula, Term, Array}

pub over_first : (p : Pointwise) (args : List MeasuredMeaning) → mapped_over p (meanings_of args) ≡ first_index (meanings_of args) >>= (λ i. mapped_at i p (meanings_of args))
over_first p [] = refl
over_first p (Array i e a ∷ ms) = refl
over_first p (Formula f ∷ ms) = refl
over_first p (Term s t ∷ ms) = refl
