-- The two sides of an atom of which one is a difference.
use Rattle.std.proofs.Common.{◌≡◌, List, Ok, refl}
use Rattle.mbqi_terms.specs.declared.sort.Sort.TheVariants as sort
use Rattle.mbqi_terms.specs.declared.term.Term.{Term}
use Rattle.mbqi_terms.specs.declared.term.Term.TheVariants as term
use Rattle.smtlib_terms.specs.declared.meaning.Meaning.{Meaning}
use Rattle.smtlib_terms.specs.declared.meaning.Meaning.TheVariants as meaning
use Rattle.smtlib_terms.specs.Names.{◌>>=◌}
use Rattle.smtlib_terms.specs.Operators.{beside}
use Rattle.term_operators.specs.Steps.{moved_beside}

pub beside_is : (m : Meaning) (s t : Term) (order : Meaning → Meaning → List Meaning) → beside m s t order ≡ moved_beside m t >>= (λ moved. Ok (order (meaning.Term sort.Int s) moved))
beside_is (meaning.Term sort.Int (term.Num n)) s t order = refl
beside_is other s t order = refl
