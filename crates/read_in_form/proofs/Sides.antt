-- The two arguments that an atom compares are in form.
use Rattle.std.proofs.Common.{◌≡◌, ℕ, ◌+◌, ◌+ℤ◌, false, ◌||◌, List, Result, Ok, Err, refl, sym, subst}
use Rattle.std.specs.List.{list_any}
use Rattle.std.proofs.lemmas.Bool.{or_parts}
use Rattle.mbqi_values.specs.declared.fault.FaultKind.{FaultKind}
use Rattle.mbqi_terms.specs.declared.script.Script.{Script}
use Rattle.mbqi_terms.specs.declared.sort.Binder.{Binder}
use Rattle.mbqi_terms.specs.declared.sort.Plain.TheVariants as plain
use Rattle.mbqi_terms.specs.declared.sort.Sort.TheVariants as sort
use Rattle.mbqi_terms.specs.declared.term.ArrayTerm.TheBlock.{hidden-the_row-Term-1}
use Rattle.mbqi_terms.specs.declared.term.Term.{Term}
use Rattle.mbqi_terms.specs.declared.term.Term.TheVariants as term
use denote.Hole.Carrier.{hidden}
use Rattle.smtlib_terms.specs.declared.meaning.Meaning.{Meaning}
use Rattle.smtlib_terms.specs.declared.meaning.Meaning.TheVariants as meaning
use Rattle.smtlib_terms.specs.declared.meaning.Side.{Side}
use Rattle.smtlib_terms.specs.declared.meaning.Side.TheVariants.{Meant, Difference}
use Rattle.smtlib_terms.specs.Number.{sum_of, term_of}
use Rattle.smtlib_terms.specs.Operators.{beside, is_wide, is_wide_term, moved_by, two, two_sides, two_turned}
use Rattle.smtlib_terms.specs.Reading.{variables_of_side}
use Rattle.smtlib_terms.specs.InForm.{HasSort}
use Rattle.read_in_form.proofs.Placed.{AreMeanings, IsSideMeaning}
use Rattle.read_in_form.proofs.Steps.{same_ok}
use Rattle.read_in_form.proofs.Sums.{moved_has, term_int}

-- a difference beside a numeral
beside_placed : (script : Script) (scope : List Binder) (next : ℕ) (m : Meaning) (s t : Term) (order : Meaning → Meaning → List Meaning) (args : List Meaning) → HasSort script scope t plain.Int →
    ((u : Term) → (is_wide_term u ≡ false → HasSort script scope u plain.Int) → list_any is_wide (order (meaning.Term sort.Int s) (meaning.Term sort.Int u)) ≡ false →
    AreMeanings script scope next (order (meaning.Term sort.Int s) (meaning.Term sort.Int u))) →
    beside m s t order ≡ Ok args → list_any is_wide args ≡ false → AreMeanings script scope next args
unfolding hidden-the_row-Term-1 hidden
beside_placed script scope next (meaning.Formula f) s t order args h each is narrow = cc
beside_placed script scope next (meaning.Array i e a) s t order args h each is narrow = cc
beside_placed script scope next (meaning.Term sort.Truth u) s t order args h each is narrow = cc
beside_placed script scope next (meaning.Term (sort.Elem k) u) s t order args h each is narrow = cc
beside_placed script scope next (meaning.Term (sort.Array i e) u) s t order args h each is narrow = cc
beside_placed script scope next (meaning.Term sort.Int (term.Num n)) s t order args h each is narrow =
    let number = (sum_of t).number +ℤ n in
    let all = same_ok (order (meaning.Term sort.Int s) (moved_by t n)) args is in
    subst (AreMeanings script scope next) all
    (each (term_of (sum_of t).base number) (moved_has script scope t number h) (subst (λ (ms : List Meaning). list_any is_wide ms ≡ false) (sym all) narrow))
beside_placed script scope next (meaning.Term sort.Int u) s t order args h each is narrow = cc

pub two_sides_placed : (script : Script) (scope : List Binder) (next : ℕ) (left : Side) (right : Result Side FaultKind) (args : List Meaning) → IsSideMeaning script scope next left → ((s : Side) → right ≡ Ok s → IsSideMeaning script scope (next + variables_of_side left) s) →
    two_sides left right ≡ Ok args → list_any is_wide args ≡ false → AreMeanings script scope next args
two_sides_placed script scope next (Meant m) (Ok (Meant n)) args h has is narrow =
    subst (AreMeanings script scope next) (same_ok (two m n) args is) (h, (has (Meant n) refl, tt))
two_sides_placed script scope next (Meant m) (Ok (Difference s t)) args h has is narrow =
    let both = has (Difference s t) refl in
    beside_placed script scope next m s t two_turned args both.second
    (λ u within none. (term_int script scope u (within (or_parts (is_wide_term u) (is_wide_term s || false) none).0), (term_int script scope s both.first, tt))) is narrow
two_sides_placed script scope next (Meant m) (Err kind) args h has is narrow = cc
two_sides_placed script scope next (Difference s t) (Ok (Meant n)) args h has is narrow =
    beside_placed script scope next n s t two args h.second
    (λ u within none. (term_int script scope s h.first, (term_int script scope u (within (or_parts (is_wide_term u) false (or_parts (is_wide_term s) (is_wide_term u || false) none).1).0), tt))) is narrow
two_sides_placed script scope next (Difference s t) (Ok (Difference u v)) args h has is narrow = cc
two_sides_placed script scope next (Difference s t) (Err kind) args h has is narrow = cc
