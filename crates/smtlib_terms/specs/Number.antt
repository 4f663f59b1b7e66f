use Rattle.std.specs.Prelude.{ℕ, zero, suc, ◌-◌, ◌^◌, ℤ, pos, negsuc, neg_ℤ, ◌+ℤ◌, ◌-ℤ◌, List, [], ◌∷◌, Option, None, Some, Result, Ok, Err, if◌then◌else◌}
use Rattle.std.specs.List.{fold, flat_map}
use Rattle.std.specs.Option.{option_to_list}
use Rattle.mbqi_values.specs.declared.fault.FaultKind.{FaultKind}
use Rattle.mbqi_values.specs.declared.fault.FaultKind.TheVariants.{NotDifference, OffsetTooWide}
use Rattle.mbqi_terms.specs.declared.term.Term.{Term, more_of-Term, end_of-Term}
use Rattle.mbqi_terms.specs.declared.term.Term.TheVariants as term
use Rattle.mbqi_terms.specs.Limits.{is_within}
use Rattle.mbqi_terms.specs.Depth.{depth_of_term}
use Rattle.smtlib_terms.specs.Meaning.{unless_deep}

-- An integer term of the profile: at most one term that is neither a numeral nor a sum, and a whole number.
pub record Sum : Type 0 where
  pub base : Option Term
  pub number : ℤ

-- What an integer term is the sum of.
abbrev pub sum_of : Term → Sum
sum_of (term.Num n) = record { base = None; number = n }
sum_of (term.Plus' u (more_of-Term t end_of-Term) n) = record { base = Some t; number = n }
sum_of t = record { base = Some t; number = pos 0 }

-- The term of a sum, which has no sign of a number 0.
abbrev pub plus_number : Term → ℤ → Term
plus_number t (pos zero) = t
plus_number t (pos (suc n)) = term.Plus t (pos (suc n))
plus_number t (negsuc n) = term.Plus t (negsuc n)

abbrev pub term_of : Option Term → ℤ → Term
term_of None n = term.Num n
term_of (Some t) n = plus_number t n

-- The limits of the profile (this project's own): of a numeral, and of the number beside another term.
abbrev pub limit_of : Option Term → ℕ
limit_of None = 2 ^ 63 - 1
limit_of (Some t) = 2 ^ 59

-- The term of a sum whose number is within its limit.
abbrev pub summed : Option Term → ℤ → Result Term FaultKind
summed base n =
    if is_within (limit_of base) n then Ok (term_of base n) else Err (unless_deep OffsetTooWide (depth_of_term (term_of base n)))

abbrev pub bases_of : List Sum → List Term
bases_of sums = flat_map (λ (s : Sum). option_to_list s.base) sums

abbrev pub total_of : List Sum → ℤ
total_of sums = fold (λ n (s : Sum). n +ℤ s.number) (pos 0) sums

abbrev pub summed_beside : List Term → ℤ → Result Term FaultKind
summed_beside [] n = summed None n
summed_beside (t ∷ []) n = summed (Some t) n
summed_beside (t ∷ u ∷ ts) n = Err NotDifference

-- `(+ s ...)`: at most one of the terms isn't a numeral (SMT-LIB 2.6, theory Ints; the limit to one is this
-- project's own).
abbrev pub sum_of_terms : List Sum → Result Term FaultKind
sum_of_terms sums = summed_beside (bases_of sums) (total_of sums)

-- `(- s)` of a numeral.
abbrev pub negation_of : Option Term → ℤ → Result Term FaultKind
negation_of None n = summed None (neg_ℤ n)
negation_of (Some t) n = Err NotDifference

abbrev pub negation : Sum → Result Term FaultKind
negation s = negation_of s.base s.number

abbrev pub less : Sum → List Term → ℤ → Result Term FaultKind
less s [] n = summed s.base (s.number -ℤ n)
less s (t ∷ ts) n = Err NotDifference

-- `(- s t ...)`: a term minus numerals.
abbrev pub difference : Sum → List Sum → Result Term FaultKind
difference s others = less s (bases_of others) (total_of others)
