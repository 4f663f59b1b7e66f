-- Sorts that a test finds to be one.
use Rattle.std.proofs.Common.{◌≡◌, ℕ, Bool, true, false, eqb, ◌&&◌, refl, ap, ◌∙◌, arith}
use Rattle.std.proofs.lemmas.Bool.Decides.{nat_tests}
use Rattle.mbqi_terms.specs.declared.sort.Plain.{Plain}
use Rattle.mbqi_terms.specs.declared.sort.Plain.TheVariants as plain
use Rattle.mbqi_terms.specs.declared.sort.Sort.{Sort}
use Rattle.mbqi_terms.specs.declared.sort.Sort.TheVariants as sort
use Rattle.mbqi_terms.specs.Sort.{plain_sort, is_plain, is_sort}

pub same_number : (a b : ℕ) → eqb a b ≡ true → a ≡ b
same_number a b e = grind (arith, nat_tests)

pub same_plain : (p q : Plain) → is_plain p q ≡ true → p ≡ q
same_plain plain.Truth plain.Truth is = refl
same_plain plain.Truth plain.Int is = cc
same_plain plain.Truth (plain.Elem t) is = cc
same_plain plain.Int plain.Truth is = cc
same_plain plain.Int plain.Int is = refl
same_plain plain.Int (plain.Elem t) is = cc
same_plain (plain.Elem s) plain.Truth is = cc
same_plain (plain.Elem s) plain.Int is = cc
same_plain (plain.Elem s) (plain.Elem t) is = ap (λ (n : ℕ). plain.Elem n) (same_number s t is)

same_arrays : (i e j f : Plain) (first second : Bool) → is_plain i j ≡ first → is_plain e f ≡ second → (first && second) ≡ true → sort.Array i e ≡ sort.Array j f
same_arrays i e j f true true one two is = ap (λ (p : Plain). sort.Array p e) (same_plain i j one) ∙ ap (λ (p : Plain). sort.Array j p) (same_plain e f two)
same_arrays i e j f true false one two is = cc
same_arrays i e j f false second one two is = cc

pub same_sort : (s t : Sort) → is_sort s t ≡ true → s ≡ t
same_sort sort.Truth sort.Truth is = refl
same_sort sort.Truth sort.Int is = cc
same_sort sort.Truth (sort.Elem t) is = cc
same_sort sort.Truth (sort.Array j f) is = cc
same_sort sort.Int sort.Truth is = cc
same_sort sort.Int sort.Int is = refl
same_sort sort.Int (sort.Elem t) is = cc
same_sort sort.Int (sort.Array j f) is = cc
same_sort (sort.Elem s) sort.Truth is = cc
same_sort (sort.Elem s) sort.Int is = cc
same_sort (sort.Elem s) (sort.Elem t) is = ap (λ (n : ℕ). sort.Elem n) (same_number s t is)
same_sort (sort.Elem s) (sort.Array j f) is = cc
same_sort (sort.Array i e) sort.Truth is = cc
same_sort (sort.Array i e) sort.Int is = cc
same_sort (sort.Array i e) (sort.Elem t) is = cc
same_sort (sort.Array i e) (sort.Array j f) is = same_arrays i e j f (is_plain i j) (is_plain e f) refl refl is

-- plain sorts that are one as sorts
pub one_plain : (p q : Plain) → plain_sort p ≡ plain_sort q → p ≡ q
one_plain plain.Truth plain.Truth same = refl
one_plain plain.Truth plain.Int same = cc
one_plain plain.Truth (plain.Elem t) same = cc
one_plain plain.Int plain.Truth same = cc
one_plain plain.Int plain.Int same = refl
one_plain plain.Int (plain.Elem t) same = cc
one_plain (plain.Elem s) plain.Truth same = cc
one_plain (plain.Elem s) plain.Int same = cc
one_plain (plain.Elem s) (plain.Elem t) same = cc
