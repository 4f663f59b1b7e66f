-- Operators of arrays, by their arguments.
use Rattle.std.proofs.Common.{◌≡◌, List, [], ◌∷◌, Option, None, Some, Err, refl, ap}
use Rattle.mbqi_values.specs.declared.fault.FaultKind.TheVariants.{WrongSort}
use Rattle.mbqi_terms.specs.declared.sort.Plain.{Plain}
use Rattle.mbqi_terms.specs.declared.sort.Sort.{Sort}
use Rattle.mbqi_terms.specs.declared.term.ArrayTerm.{ArrayTerm}
use Rattle.smtlib_terms.specs.declared.meaning.Meaning.{Meaning}
use Rattle.smtlib_terms.specs.declared.meaning.Meaning.TheVariants as meaning
use Rattle.smtlib_terms.specs.Names.{◌>>=◌}
use Rattle.smtlib_terms.specs.Operators.{constant, constant_of, default_of, defaulting, read_at, selection, stored_at, storing}
use Rattle.operator_arguments.specs.declared.meaning.MeasuredMeaning.{MeasuredMeaning}
use Rattle.operator_arguments.specs.Counts.{pair_of, sole_of, triple_of}
use Rattle.operator_arguments.specs.Measured.{array_in, meaning_of, meanings_of}

pub selection_is : (args : List MeasuredMeaning) → selection (meanings_of args) ≡ pair_of args >>= (λ p. read_at (meaning_of p.0) (meaning_of p.1))
selection_is [] = refl
selection_is (a ∷ []) = refl
selection_is (a ∷ i ∷ []) = refl
selection_is (a ∷ i ∷ m ∷ ms) = refl

pub storing_is : (args : List MeasuredMeaning) → storing (meanings_of args) ≡ triple_of args >>= (λ p. stored_at (meaning_of p.0) (meaning_of p.1) (meaning_of p.2))
storing_is [] = refl
storing_is (a ∷ []) = refl
storing_is (a ∷ i ∷ []) = refl
storing_is (a ∷ i ∷ v ∷ []) = refl
storing_is (a ∷ i ∷ v ∷ m ∷ ms) = refl

pub defaulting_is : (args : List MeasuredMeaning) → defaulting (meanings_of args) ≡ sole_of args >>= (λ a. default_of (meaning_of a))
defaulting_is [] = refl
defaulting_is (a ∷ []) = refl
defaulting_is (a ∷ m ∷ ms) = refl

pub constant_is : (s : Sort) (args : List MeasuredMeaning) → constant s (meanings_of args) ≡ sole_of args >>= (λ v. constant_of s (meaning_of v))
constant_is s [] = refl
constant_is s (a ∷ []) = refl
constant_is s (a ∷ m ∷ ms) = refl

abbrev array_at : Meaning → Option (Plain × Plain × ArrayTerm) → Meaning
array_at a None = a
array_at a (Some p) = meaning.Array p.0 p.1 p.2

is_array : (a : Meaning) (i e : Plain) (b : ArrayTerm) → array_in a ≡ Some (i, e, b) → a ≡ meaning.Array i e b
is_array (meaning.Array j f a) i e b some = ap (array_at (meaning.Array j f a)) some
is_array (meaning.Formula f) i e b some = cc
is_array (meaning.Term s t) i e b some = cc

pub stored_none : (a m n : Meaning) → array_in a ≡ None → stored_at a m n ≡ Err WrongSort
stored_none (meaning.Array i e a) m n none = cc
stored_none (meaning.Formula f) m n none = refl
stored_none (meaning.Term s t) m n none = refl

pub stored_some : (a m n : Meaning) (i e : Plain) (b : ArrayTerm) → array_in a ≡ Some (i, e, b) → stored_at a m n ≡ stored_at (meaning.Array i e b) m n
stored_some a m n i e b some = ap (λ (x : Meaning). stored_at x m n) (is_array a i e b some)

pub ruleset stored_laws = (stored_none, stored_some)
