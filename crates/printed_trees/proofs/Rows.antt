-- A worked row: a script in form, with a label that is a reserved word.
use Rattle.std.proofs.Common.{◌≡◌, ◌≤◌, ℕ, zero, suc, true, List, [], ◌∷◌, Some, slice_get, codes, refl, sym, ◌∙◌, arith, length, ap}
use Rattle.std.specs.List.{list_all}
use Rattle.std.proofs.lemmas.List.Elements.{All-from_recursion}
use Rattle.mbqi_terms.specs.Distinct.{AreDistinct}
use Rattle.mbqi_terms.specs.declared.formula.Formula.{Formula}
use Rattle.mbqi_terms.specs.declared.formula.Formula.TheVariants as formula
use Rattle.mbqi_terms.specs.declared.script.Script.{Script}
use Rattle.mbqi_terms.specs.declared.sort.Binder.{Binder}
use Rattle.mbqi_terms.specs.declared.sort.Plain.TheVariants as plain
use Rattle.mbqi_terms.specs.declared.sort.Sort.TheVariants as sort
use Rattle.mbqi_terms.specs.declared.term.Symbol.TheVariants as symbol
use Rattle.mbqi_terms.specs.declared.term.Term.{out-Term}
use Rattle.mbqi_terms.specs.declared.term.Term.TheVariants as term
use Rattle.mbqi_terms.proofs.Levels.{out-apply, out-truth}
use Rattle.sexpr_text.specs.Bytes.{is_content, is_quoted_content}
use Rattle.mbqi_terms.specs.Depth.{depth_of_formula}
use Rattle.smtlib_terms.specs.Words.{is_reserved, is_reserved_word}
use Rattle.mbqi_terms.specs.HasSort.{HasSortIn, HaveSortsIn}
use Rattle.mbqi_terms.specs.InForm.{IsPlaced, IsRanked, IsVariableSort}
use Rattle.smtlib_terms.specs.InForm.{HasSort, IsAsserted, IsFormula, IsInForm, IsName}
use Rattle.measured_terms.proofs.FormulaLaws as measure
use Rattle.measured_terms.proofs.SymbolLaws as symbol_measure
use Rattle.measured_terms.proofs.TermLaws as term_measure

-- that the predicate is true everywhere
abbrev binders : List Binder
binders = record { place = 0; sort = sort.Elem 0 } ∷ []

abbrev atom : Formula
atom = formula.Atom (term.Apply (symbol.Declared 0) (term.Var 0 ∷ []))

abbrev sample : Script
sample = record {
  sorts = codes "S" ∷ [];
  functions = record { name = codes "p"; args = sort.Elem 0 ∷ []; result = sort.Truth } ∷ [];
  assertions = record { label = Some (codes "let"); formula = formula.Forall binders atom } ∷ [];
  asks = true;
}

sort_named : IsName (codes "S")
unfolding is_quoted_content is_content is_reserved is_reserved_word
sort_named = record { legal = refl; free = refl }

function_named : IsName (codes "p")
unfolding is_quoted_content is_content is_reserved is_reserved_word
function_named = record { legal = refl; free = refl }

label_legal : list_all is_quoted_content (codes "let") ≡ true
unfolding is_quoted_content is_content
label_legal = refl

one_place : {X : Type 0} (x : X) (i : ℕ) (y : X) → slice_get (x ∷ []) i ≡ Some y → i ≡ 0
one_place x zero y e = refl
one_place x (suc i) y e = cc

one_distinct : {X : Type 0} (x : X) → AreDistinct (x ∷ [])
one_distinct x zero zero y e f = refl
one_distinct x zero (suc j) y e f = cc
one_distinct x (suc i) j y e f = cc

applied : HasSort sample binders (term.Apply (symbol.Declared 0) (term.Var 0 ∷ [])) plain.Truth
applied =
    HasSortIn.application 0 (term.Var 0 ∷ []) (plain.Elem 0 ∷ []) plain.Truth (record { function = record { name = codes "p"; args = sort.Elem 0 ∷ []; result = sort.Truth }; there = refl; takes = refl; gives = refl })
    (HaveSortsIn.more_terms (term.Var 0) [] (plain.Elem 0) [] (omega arith) (HasSortIn.variable 0 (plain.Elem 0) (omega arith) refl) HaveSortsIn.no_terms)

in_form : IsFormula sample [] 0 (formula.Forall binders atom)
in_form =
    IsPlaced.universal [] 0 binders atom
    (record { some = omega arith; placed = (refl, omega arith, tt) })
    (IsPlaced.atom binders 1 (term.Apply (symbol.Declared 0) (term.Var 0 ∷ []))
    (record { sort = applied; other = λ b same. let flat = ap out-Term same in let one = out-apply (symbol.Declared 0) (term.Var 0 ∷ []) in let two = out-truth b in cc }))

shallow : depth_of_formula (formula.Forall binders atom) ≤ 1000
shallow =
    let one = measure.depth-Forall binders atom in
    let two = measure.depth-Atom (term.Apply (symbol.Declared 0) (term.Var 0 ∷ [])) in
    let three = term_measure.depth-Apply (symbol.Declared 0) (term.Var 0 ∷ []) in
    let four = term_measure.depth-Var 0 in
    let five = symbol_measure.depth-Declared 0 in
    omega arith

sample_in_form : IsInForm sample
sample_in_form = record {
  named = record {
    sorts = All-from_recursion IsName (codes "S" ∷ []) (sort_named, tt);
    functions = All-from_recursion IsName (codes "p" ∷ []) (function_named, tt);
    sorts_differ = one_distinct (codes "S");
    functions_differ = one_distinct (codes "p");
  };
  ranked = All-from_recursion (IsRanked (length sample.sorts)) sample.functions (record { args = All-from_recursion (IsVariableSort (length sample.sorts)) (sort.Elem 0 ∷ []) (omega arith, tt); result = tt; array = λ no. cc }, tt);
  asserted = All-from_recursion (IsAsserted sample) sample.assertions (record { formula = in_form; depth = shallow; label = label_legal }, tt);
  labels = λ i j a b label e f g h. one_place _ i a e ∙ sym (one_place _ j b f);
}
