-- Terms one level at a time, and their sums with numbers (this project's own).
use Rattle.std.specs.Prelude.{zero, suc, ℤ, pos, negsuc, ◌+ℤ◌, ◌≡◌, List, Contains}
use Rattle.mbqi_terms.specs.declared.term.ArrayTerm.{ArrayTerm}
use Rattle.mbqi_terms.specs.declared.term.ArrayTerm.TheOpen.{Term-F}
use Rattle.mbqi_terms.specs.declared.term.Symbol.{Symbol}
use Rattle.mbqi_terms.specs.declared.term.Term.{Term, out-Term}
use Rattle.mbqi_terms.specs.declared.term.Term.TheVariants as term

-- One level of a term.
abbrev pub Layer : Type 0
Layer = Term-F ArrayTerm Symbol Term

-- It is no numeral and no sum.
abbrev pub IsBase : Layer → Type 0
IsBase (Term-F.Num n) = ⊥
IsBase (Term-F.Plus t n) = ⊥
IsBase layer = Unit {0}

-- A term that is no numeral and no sum, plus a number: itself where that is 0.
abbrev pub sum_of : Term → ℤ → Term
sum_of t (pos zero) = t
sum_of t (pos (suc n)) = term.Plus t (pos (suc n))
sum_of t (negsuc n) = term.Plus t (negsuc n)

-- Any term plus a number: numerals and the numbers of sums take it up.
abbrev pub plus_at : Layer → Term → ℤ → Term
plus_at (Term-F.Num m) t n = term.Num (m +ℤ n)
plus_at (Term-F.Plus u m) t n = sum_of u (m +ℤ n)
plus_at layer t n = sum_of t n

abbrev pub plus_of : Term → ℤ → Term
plus_of t n = plus_at (out-Term t) t n

-- The number that a numeral or a sum has, and 0 for other terms.
abbrev pub number_at : Layer → ℤ
number_at (Term-F.Num n) = n
number_at (Term-F.Plus t n) = n
number_at layer = pos 0

abbrev pub number_of : Term → ℤ
number_of t = number_at (out-Term t)

-- The first term is the second or stands in it, outside its array terms.
pub data IsPart : Term → Term → Type 0 where
  itself : (t : Term) → IsPart t t
  of_sum : (part t u : Term) (n : ℤ) → out-Term t ≡ Term-F.Plus u n → IsPart part u → IsPart part t
  of_argument : (part t u : Term) (f : Symbol) (us : List Term) → out-Term t ≡ Term-F.Apply f us → Contains us u → IsPart part u → IsPart part t
  of_index : (part t u : Term) (a : ArrayTerm) → out-Term t ≡ Term-F.Read a u → IsPart part u → IsPart part t
