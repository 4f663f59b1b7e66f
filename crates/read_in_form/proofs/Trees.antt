-- Each tree reads as something in form.
use Rattle.std.proofs.Common.{◌≡◌, ℕ, ◌-◌, ◌^◌, pos, Bool, true, false, cond, ltb, List, [], codes, Result, Ok, Err, refl, sym, subst, arith, if◌then◌else◌}
use Rattle.std.specs.Str.Parse.{digits_value}
use Rattle.mbqi_values.specs.declared.fault.FaultKind.{FaultKind}
use Rattle.mbqi_values.specs.declared.fault.FaultKind.TheVariants.{NumeralTooWide}
use Rattle.mbqi_terms.specs.declared.formula.Formula.TheVariants as formula
use Rattle.mbqi_terms.specs.declared.script.Script.{Script}
use Rattle.mbqi_terms.specs.declared.sort.Binder.{Binder}
use Rattle.mbqi_terms.specs.declared.sort.Plain.TheVariants as plain
use Rattle.mbqi_terms.specs.declared.sort.Sort.TheVariants as sort
use Rattle.mbqi_terms.specs.declared.term.Term.TheVariants as term
use Rattle.sexpr_text.specs.declared.tree.Sexpr.{Sexpr, Row_of-Sexpr, end_of-Sexpr, more_of-Sexpr}
use Rattle.sexpr_text.specs.declared.tree.Sexpr.TheVariants as tree
use Rattle.smtlib_terms.specs.declared.meaning.Meaning.{Meaning}
use Rattle.smtlib_terms.specs.declared.meaning.Meaning.TheVariants as meaning
use Rattle.smtlib_terms.specs.declared.meaning.Side.{Side}
use Rattle.smtlib_terms.specs.declared.names.Binding.{Binding}
use Rattle.smtlib_terms.specs.Applying.{name_applied}
use Rattle.smtlib_terms.specs.Names.{Signature}
use Rattle.smtlib_terms.specs.Operators.{meant}
use Rattle.smtlib_terms.specs.Reading.{inner, inner_of, numeral, parts_of, readings, readings_of, side, symbol}
use Rattle.smtlib_terms.specs.Words.{is_text}
use Rattle.measured_terms.proofs.FormulaLaws as formula_measure
use Rattle.measured_terms.proofs.TermLaws as term_measure
use Rattle.mbqi_terms.specs.HasSort.{HasSortIn}
use Rattle.mbqi_terms.specs.InForm.{IsPlaced}
use Rattle.smtlib_terms.specs.InForm.{HasSort}
use Rattle.smtlib_terms.proofs.Tests.{le_true, ltb_lt}
use Rattle.read_in_form.proofs.Placed.{IsRead, IsReadSide}
use Rattle.read_in_form.proofs.Lists.{list_is_good}
use Rattle.read_in_form.proofs.MovedFormulas.{bound_read}
use Rattle.read_in_form.proofs.NamesApplied.{name_alone}
use Rattle.read_in_form.proofs.Parts.{AreGood, AreGoodLists, AreGoodParts, IsGood, IsPlace}
use Rattle.read_in_form.proofs.Steps.{meant_by}

-- a meaning as a side
read_is_side : (script : Script) (scope : List Binder) (next : ℕ) (r : Result Meaning FaultKind) (s : Side) → ((m : Meaning) → r ≡ Ok m → IsRead script scope next m) → meant r ≡ Ok s → IsReadSide script scope next s
read_is_side script scope next r s gives is =
    let by = meant_by r s is in
    subst (IsReadSide script scope next) (sym by.side) (gives by.value by.first)

-- a truth, or a name
truth_is_read : (script : Script) (scope : List Binder) (next : ℕ) (b : Bool) → IsRead script scope next (meaning.Formula (formula.Truth b))
truth_is_read script scope next b = record { meaning = IsPlaced.truth scope next b; depth = let deep = formula_measure.depth-Truth b in omega arith }

truth_or_name : (script : Script) (scope : List Binder) (next : ℕ) (own other : Bool) (r : Result Meaning FaultKind) (m : Meaning) → (r ≡ Ok m → IsRead script scope next m) →
    (if own then Ok (meaning.Formula (formula.Truth true)) else (if other then Ok (meaning.Formula (formula.Truth false)) else r)) ≡ Ok m → IsRead script scope next m
truth_or_name script scope next true other r m named is =
    let same : meaning.Formula (formula.Truth true) ≡ m = cc in
    subst (IsRead script scope next) same (truth_is_read script scope next true)
truth_or_name script scope next false true r m named is =
    let same : meaning.Formula (formula.Truth false) ≡ m = cc in
    subst (IsRead script scope next) same (truth_is_read script scope next false)
truth_or_name script scope next false false r m named is = named is

symbol_is_read : (script : Script) (names : Signature) (scope : List Binder) (bindings : List Binding) (text : List ℕ) (next : ℕ) (m : Meaning) → IsPlace script names scope bindings next → symbol names bindings text next ≡ Ok m → IsRead script scope next m
symbol_is_read script names scope bindings text next m at is =
    truth_or_name script scope next (is_text text (codes "true")) (is_text text (codes "false")) (name_applied names bindings text next []) m
    (name_alone script names scope next bindings text m at.signature at.below (bound_read script scope next) at.scoped) is

-- a numeral
number_is_read : (script : Script) (scope : List Binder) (next n : ℕ) (within : Bool) (m : Meaning) → ltb n (2 ^ 63) ≡ within → cond within (Ok (meaning.Term sort.Int (term.Num (pos n)))) (Err NumeralTooWide) ≡ Ok m → IsRead script scope next m
number_is_read script scope next n true m within is =
    let same : meaning.Term sort.Int (term.Num (pos n)) ≡ m = cc in
    let small = ltb_lt n (2 ^ 63) within in
    let number : HasSort script scope (term.Num (pos n)) plain.Int = HasSortIn.number (pos n) (le_true n (2 ^ 63 - 1) (omega arith)) in
    let deep = term_measure.depth-Num (pos n) in
    subst (IsRead script scope next) same (record { meaning = record { is = plain.Int; sort = refl; index = tt; term = number }; depth = omega arith })
number_is_read script scope next n false m within is = cc

numeral_is_read : (script : Script) (scope : List Binder) (digits : List ℕ) (next : ℕ) (m : Meaning) → numeral digits ≡ Ok m → IsRead script scope next m
numeral_is_read script scope digits next m is = number_is_read script scope next (digits_value 10 digits) (ltb (digits_value 10 digits) (2 ^ 63)) m refl is

-- trees, by recursion
mutual
  unfolding side

  pub tree_is_good : (script : Script) (t : Sexpr) → IsGood script (side t)
  tree_is_good script (tree.Symbol text) names scope bindings next s at is =
      read_is_side script scope next (symbol names bindings text next) s (λ m e. symbol_is_read script names scope bindings text next m at e) is
  tree_is_good script (tree.Numeral digits) names scope bindings next s at is =
      read_is_side script scope next (numeral digits) s (λ m e. numeral_is_read script scope digits next m e) is
  tree_is_good script (tree.Decimal text) names scope bindings next s at is = cc
  tree_is_good script (tree.Hex text) names scope bindings next s at is = cc
  tree_is_good script (tree.Binary text) names scope bindings next s at is = cc
  tree_is_good script (tree.Str text) names scope bindings next s at is = cc
  tree_is_good script (tree.Keyword text) names scope bindings next s at is = cc
  tree_is_good script (tree.List' n row) names scope bindings next s at is = list_is_good script (parts_of row) (parts_are_good script row) names scope bindings next s at is

  parts_are_good : (script : Script) {n : _} (row : Row_of-Sexpr n) → AreGoodParts script (parts_of row)
  parts_are_good script end_of-Sexpr = tt
  parts_are_good script (more_of-Sexpr t row) = (record { reads = tree_is_good script t; inner = inner_is_good script t }, parts_are_good script row)

  inner_is_good : (script : Script) (t : Sexpr) → AreGoodLists script (inner t)
  inner_is_good script (tree.Symbol text) = tt
  inner_is_good script (tree.Numeral text) = tt
  inner_is_good script (tree.Decimal text) = tt
  inner_is_good script (tree.Hex text) = tt
  inner_is_good script (tree.Binary text) = tt
  inner_is_good script (tree.Str text) = tt
  inner_is_good script (tree.Keyword text) = tt
  inner_is_good script (tree.List' n row) = row_is_good script row

  row_is_good : (script : Script) {n : _} (row : Row_of-Sexpr n) → AreGoodLists script (inner_of row)
  row_is_good script end_of-Sexpr = tt
  row_is_good script (more_of-Sexpr t row) = (readings_are_good script t, row_is_good script row)

  readings_are_good : (script : Script) (t : Sexpr) → AreGood script (readings t)
  readings_are_good script (tree.Symbol text) = tt
  readings_are_good script (tree.Numeral text) = tt
  readings_are_good script (tree.Decimal text) = tt
  readings_are_good script (tree.Hex text) = tt
  readings_are_good script (tree.Binary text) = tt
  readings_are_good script (tree.Str text) = tt
  readings_are_good script (tree.Keyword text) = tt
  readings_are_good script (tree.List' n row) = all_are_good script row

  all_are_good : (script : Script) {n : _} (row : Row_of-Sexpr n) → AreGood script (readings_of row)
  all_are_good script end_of-Sexpr = tt
  all_are_good script (more_of-Sexpr t row) = (tree_is_good script t, all_are_good script row)
