-- Plainly lawful valuations of ground terms (congruence and arithmetic with constant offsets; SMT-LIB 2.6, theories Core and Ints).
use Rattle.std.specs.Prelude.{◌≡◌, ℤ, Bool, List, map, Some}
use Rattle.mbqi_values.specs.declared.value.Value.{Value}
use Rattle.mbqi_values.specs.declared.value.Value.TheVariants.{Num, Elem, Truth}
use Rattle.mbqi_values.specs.Value.{plus_number}
use Rattle.mbqi_terms.specs.Lists.{sort_of_term}
use Rattle.mbqi_terms.specs.declared.sort.Sort.{Sort}
use Rattle.mbqi_terms.specs.declared.sort.Sort.TheVariants as sort
use Rattle.mbqi_terms.specs.declared.store.lists.Lists.{Lists}
use Rattle.mbqi_terms.specs.declared.term.ArrayTerm.{ArrayTerm}
use Rattle.mbqi_terms.specs.declared.term.ArrayTerm.TheOpen.{Term-F}
use Rattle.mbqi_terms.specs.declared.term.Symbol.{Symbol}
use Rattle.mbqi_terms.specs.declared.term.Term.{Term, out-Term}
use Rattle.mbqi_terms.specs.Meanings.{Meanings}

-- The value has the sort, whatever elements there are.
abbrev pub IsOfSort : Sort → Value → Type 0
IsOfSort sort.Truth (Truth t) = Unit {0}
IsOfSort sort.Int (Num n) = Unit {0}
IsOfSort (sort.Elem s) (Elem e) = Unit {0}
IsOfSort sort.Truth (Num n) = ⊥
IsOfSort sort.Truth (Elem e) = ⊥
IsOfSort sort.Int (Elem e) = ⊥
IsOfSort sort.Int (Truth t) = ⊥
IsOfSort (sort.Elem s) (Num n) = ⊥
IsOfSort (sort.Elem s) (Truth t) = ⊥
IsOfSort (sort.Array i e) v = ⊥

-- The values of the terms that stand there are as the terms ask: each has its sort by the lists, numerals and truths have their own value, a sum has
-- that of its term plus its number, and applications of one symbol, or reads of one array, to equal values have equal values. The terms
-- that stand there are closed under parts.
pub record IsPlainlyLawful (l : Lists) (Stands : Term → Type 0) (m : Meanings) : Type 0 where
  pub sorts : (t : Term) (s : Sort) → Stands t → sort_of_term l t ≡ Some s → IsOfSort s (m.value t)
  pub numbers : (t : Term) (n : ℤ) → Stands t → out-Term t ≡ Term-F.Num n → m.value t ≡ Num n
  pub truths : (t : Term) (b : Bool) → Stands t → out-Term t ≡ Term-F.Truth b → m.value t ≡ Truth b
  pub sums : (t u : Term) (n : ℤ) → Stands t → out-Term t ≡ Term-F.Plus u n → m.value t ≡ plus_number (m.value u) n
  pub applications : (t u : Term) (f : Symbol) (ts us : List Term) → Stands t → Stands u → out-Term t ≡ Term-F.Apply f ts → out-Term u ≡ Term-F.Apply f us
      → map m.value ts ≡ map m.value us → m.value t ≡ m.value u
  pub reads : (t u : Term) (a : ArrayTerm) (i j : Term) → Stands t → Stands u → out-Term t ≡ Term-F.Read a i → out-Term u ≡ Term-F.Read a j
      → m.value i ≡ m.value j → m.value t ≡ m.value u
