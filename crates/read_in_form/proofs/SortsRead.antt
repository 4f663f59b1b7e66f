-- A sort that a tree names is one of the script.
use Rattle.std.proofs.Common.{◌≡◌, ◌≤◌, ◌<◌, ℕ, Bool, true, false, cond, List, [], length, Option, Some, None, Ok, refl, subst, arith}
use Rattle.std.specs.Prelude.{codes}
use Rattle.std.proofs.lemmas.List.Quantifiers.{position-Some}
use Rattle.mbqi_terms.specs.declared.script.Script.{Script}
use Rattle.mbqi_terms.specs.declared.sort.Plain.{Plain}
use Rattle.mbqi_terms.specs.declared.sort.Plain.TheVariants as plain
use Rattle.mbqi_terms.specs.declared.sort.Sort.{Sort}
use Rattle.mbqi_terms.specs.declared.sort.Sort.TheVariants as sort
use Rattle.sexpr_text.specs.declared.tree.Sexpr.{Sexpr, Row_of-Sexpr, end_of-Sexpr, more_of-Sexpr}
use Rattle.sexpr_text.specs.declared.tree.Sexpr.TheVariants as tree
use Rattle.smtlib_terms.specs.Names.{◌>>=◌, array_meant, array_of_plain, array_sort, found_sort, is_symbol, place_of, sort_meant, sort_named}
use Rattle.smtlib_terms.specs.Reading.{quantifiable}
use Rattle.smtlib_terms.specs.Words.{is_text}
use Rattle.mbqi_terms.specs.HasSort.{IsIndexSort}
use Rattle.mbqi_terms.specs.InForm.{IsResultSort, IsVariableSort}
use Rattle.read_in_form.proofs.Steps.{passed, stepped}

-- a name
found_is : (script : Script) (place : Option ℕ) (s : Sort) → ((n : ℕ) → place ≡ Some n → n < length script.sorts) → found_sort place ≡ Ok s → IsResultSort (length script.sorts) s
found_is script (Some n) s within e = let same : sort.Elem n ≡ s = cc in subst (IsResultSort (length script.sorts)) same (within n refl)
found_is script None s within e = cc

one_of : (script : Script) (bool int : Bool) (place : Option ℕ) (s : Sort) → ((n : ℕ) → place ≡ Some n → n < length script.sorts) →
    cond bool (Ok sort.Truth) (cond int (Ok sort.Int) (found_sort place)) ≡ Ok s → IsResultSort (length script.sorts) s
one_of script true int place s within e = let same : sort.Truth ≡ s = cc in subst (IsResultSort (length script.sorts)) same tt
one_of script false true place s within e = let same : sort.Int ≡ s = cc in subst (IsResultSort (length script.sorts)) same tt
one_of script false false place s within e = found_is script place s within e

name_is : (script : Script) (sorts : List (List ℕ)) (name : List ℕ) (s : Sort) → length sorts ≤ length script.sorts → sort_named sorts name ≡ Ok s → IsResultSort (length script.sorts) s
name_is script sorts name s fewer e =
    one_of script (is_text name (codes "Bool")) (is_text name (codes "Int")) (place_of name sorts) s
    (λ n at. let found = position-Some (λ (other : List ℕ). is_text name other) sorts n [] at in omega (arith, found.0, fewer)) e

-- arrays
of_plain_is : (script : Script) (i : Plain) (e s : Sort) → IsIndexSort (length script.sorts) i → IsResultSort (length script.sorts) e → array_of_plain i e ≡ Ok s → IsResultSort (length script.sorts) s
of_plain_is script i sort.Truth s index element is = let same : sort.Array i plain.Truth ≡ s = cc in subst (IsResultSort (length script.sorts)) same (index, tt)
of_plain_is script i sort.Int s index element is = let same : sort.Array i plain.Int ≡ s = cc in subst (IsResultSort (length script.sorts)) same (index, tt)
of_plain_is script i (sort.Elem n) s index element is = let same : sort.Array i (plain.Elem n) ≡ s = cc in subst (IsResultSort (length script.sorts)) same (index, element)
of_plain_is script i (sort.Array j f) s index element is = cc

array_is : (script : Script) (i e s : Sort) → IsResultSort (length script.sorts) i → IsResultSort (length script.sorts) e → array_sort i e ≡ Ok s → IsResultSort (length script.sorts) s
array_is script sort.Truth e s index element is = cc
array_is script sort.Int e s index element is = of_plain_is script plain.Int e s tt element is
array_is script (sort.Elem n) e s index element is = of_plain_is script (plain.Elem n) e s index element is
array_is script (sort.Array j f) e s index element is = cc

mutual
  unfolding sort_meant

  pub sort_read_is : (script : Script) (sorts : List (List ℕ)) (t : Sexpr) (s : Sort) → length sorts ≤ length script.sorts → sort_meant t sorts ≡ Ok s → IsResultSort (length script.sorts) s
  sort_read_is script sorts (tree.Symbol name) s fewer e = name_is script sorts name s fewer e
  sort_read_is script sorts (tree.List' n row) s fewer e = row_read_is script sorts row s fewer e
  sort_read_is script sorts (tree.Numeral text) s fewer e = cc
  sort_read_is script sorts (tree.Decimal text) s fewer e = cc
  sort_read_is script sorts (tree.Hex text) s fewer e = cc
  sort_read_is script sorts (tree.Binary text) s fewer e = cc
  sort_read_is script sorts (tree.Str text) s fewer e = cc
  sort_read_is script sorts (tree.Keyword text) s fewer e = cc

  row_read_is : {n : _} (script : Script) (sorts : List (List ℕ)) (row : Row_of-Sexpr n) (s : Sort) → length sorts ≤ length script.sorts → array_meant row sorts ≡ Ok s → IsResultSort (length script.sorts) s
  row_read_is script sorts end_of-Sexpr s fewer is = cc
  row_read_is script sorts (more_of-Sexpr head end_of-Sexpr) s fewer is = cc
  row_read_is script sorts (more_of-Sexpr head (more_of-Sexpr i end_of-Sexpr)) s fewer is = cc
  row_read_is script sorts (more_of-Sexpr head (more_of-Sexpr i (more_of-Sexpr e end_of-Sexpr))) s fewer is =
      let read = passed (is_symbol (codes "Array") head) (sort_meant i sorts >>= (λ index. sort_meant e sorts >>= (λ element. array_sort index element))) _ s is in
      let first = stepped (sort_meant i sorts) (λ index. sort_meant e sorts >>= (λ element. array_sort index element)) s read.1 in
      let second = stepped (sort_meant e sorts) (λ element. array_sort first.value element) s first.rest in
      array_is script first.value second.value s (sort_read_is script sorts i first.value fewer first.first) (sort_read_is script sorts e second.value fewer second.first) second.rest
  row_read_is script sorts (more_of-Sexpr head (more_of-Sexpr i (more_of-Sexpr e (more_of-Sexpr other row)))) s fewer is = cc

-- the sort of a variable
pub quantifiable_is : (script : Script) (s r : Sort) → IsResultSort (length script.sorts) s → quantifiable s ≡ Ok r → IsVariableSort (length script.sorts) r
quantifiable_is script sort.Truth r is e = cc
quantifiable_is script sort.Int r is e = let same : sort.Int ≡ r = cc in subst (IsVariableSort (length script.sorts)) same tt
quantifiable_is script (sort.Elem n) r is e = let same : sort.Elem n ≡ r = cc in subst (IsVariableSort (length script.sorts)) same is
quantifiable_is script (sort.Array i f) r is e = cc
