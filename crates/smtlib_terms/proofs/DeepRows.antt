-- Worked rows: what is too deep and has another fault all the same. The terms and formulas T are any that are 1,000 deep, or as is said.
use Rattle.std.proofs.Common.{◌≡◌, ◌+◌, ℤ, [], ◌∷◌, Some, Ok, Err, pos, true, false, max, refl, rules}
use Rattle.mbqi_values.specs.declared.fault.FaultKind.TheVariants as kind
use Rattle.mbqi_terms.specs.declared.formula.Formula.{Formula}
use Rattle.mbqi_terms.specs.declared.formula.Formula as formulas
use Rattle.mbqi_terms.specs.declared.formula.Formula.TheVariants as formula
use Rattle.mbqi_terms.specs.declared.sort.Plain.TheVariants as plain
use Rattle.mbqi_terms.specs.declared.sort.Sort.TheVariants as sort
use Rattle.mbqi_terms.specs.declared.term.ArrayTerm.TheBlock.{hidden-the_row-Term-1}
use Rattle.mbqi_terms.specs.declared.term.ArrayTerm.{ArrayTerm}
use Rattle.mbqi_terms.specs.declared.term.ArrayTerm.TheVariants as array
use Rattle.mbqi_terms.specs.declared.term.Term.{Term}
use Rattle.mbqi_terms.specs.declared.term.Term as terms
use Rattle.mbqi_terms.specs.declared.term.Term.TheVariants as term
use denote.Hole.Carrier.{hidden}
use Rattle.smtlib_terms.specs.declared.meaning.Meaning.TheVariants as meaning
use Rattle.smtlib_terms.specs.declared.meaning.Side.TheVariants.{Meant, Difference}
use Rattle.smtlib_terms.specs.declared.word.Word.TheVariants as word
use Rattle.mbqi_terms.specs.Depth.{depth_of_array, depth_of_formula, depth_of_term}
use Rattle.mbqi_terms.specs.Binders.{variables_in}
use Rattle.mbqi_terms.specs.Varies.{varies, varies_term}
use Rattle.smtlib_terms.specs.Names.{◌>>=◌}
use Rattle.smtlib_terms.specs.Number.{sum_of}
use Rattle.smtlib_terms.specs.Operators.{applied, is_wide_term, two_sides}

depth-Num : (n : ℤ) → depth_of_term (term.Num n) ≡ 1
unfolding depth_of_term hidden-the_row-Term-1 hidden
depth-Num n = search (rules, terms.the_lemmas)

depth-Plus : (t : Term) (n : ℤ) → depth_of_term (term.Plus t n) ≡ depth_of_term t + 1
unfolding depth_of_term hidden-the_row-Term-1 hidden
depth-Plus t n = search (rules, terms.the_lemmas)

depth-Iff : (f g : Formula) → depth_of_formula (formula.Iff f g) ≡ max (depth_of_formula f) (depth_of_formula g) + 1
unfolding depth_of_formula hidden-the_row-Term-1 hidden
depth-Iff f g = search (rules, formulas.the_lemmas)

depth-AtMost : (s t : Term) → depth_of_formula (formula.AtMost s t) ≡ max (depth_of_term s) (depth_of_term t) + 1
unfolding depth_of_formula hidden-the_row-Term-1 hidden
depth-AtMost s t = search (rules, formulas.the_lemmas)

depth-Store : (a : ArrayTerm) (i v : Term) → depth_of_array (array.Store a i v) ≡ max (depth_of_array a) (max (depth_of_term i) (depth_of_term v)) + 1
unfolding depth_of_array depth_of_term hidden-the_row-Term-1 hidden
depth-Store a i v = search (rules, terms.the_lemmas)

varies-Store : (a : ArrayTerm) (i v : Term) → varies_term i ≡ true → varies a ≡ false → varies (array.Store a i v) ≡ true
unfolding varies varies_term hidden-the_row-Term-1 hidden
varies-Store a i v bound closed = search (rules, terms.the_lemmas)

-- (+ T 576460752303423489)
sum_of_a_deep_term : (t : Term) → sum_of t ≡ record { base = Some t; number = pos 0 } → depth_of_term t ≡ 1000 →
    applied word.Plus (meaning.Term sort.Int t ∷ meaning.Term sort.Int (term.Num (pos 576460752303423489)) ∷ []) ≡ Err kind.TooDeep
sum_of_a_deep_term t base deep = rw (base, depth-Plus t (pos 576460752303423489), deep) refl

sum_of_a_shallow_term : (t : Term) → sum_of t ≡ record { base = Some t; number = pos 0 } → depth_of_term t ≡ 999 →
    applied word.Plus (meaning.Term sort.Int t ∷ meaning.Term sort.Int (term.Num (pos 576460752303423489)) ∷ []) ≡ Err kind.OffsetTooWide
sum_of_a_shallow_term t base deep = rw (base, depth-Plus t (pos 576460752303423489), deep) refl

-- (<= (- s T) 576460752303423489)
difference_of_a_deep_term : (s t : Term) → sum_of t ≡ record { base = Some t; number = pos 0 } → is_wide_term s ≡ false → depth_of_term s ≡ 1 → depth_of_term t ≡ 999 →
    two_sides (Difference s t) (Ok (Meant (meaning.Term sort.Int (term.Num (pos 576460752303423489))))) >>= applied word.AtMost ≡ Err kind.TooDeep
difference_of_a_deep_term s t base narrow first deep = rw (base, narrow, depth-AtMost s (term.Plus t (pos 576460752303423489)), depth-Plus t (pos 576460752303423489), first, deep) refl

-- (= T T), with a quantifier in T
equality_of_deep_formulas : (f : Formula) → variables_in f ≡ 1 → depth_of_formula f ≡ 1000 →
    applied word.Equal (meaning.Formula f ∷ meaning.Formula f ∷ []) ≡ Err kind.TooDeep
equality_of_deep_formulas f some deep = rw (some, depth-Iff f f, deep) refl

equality_of_shallow_formulas : (f : Formula) → variables_in f ≡ 1 → depth_of_formula f ≡ 999 →
    applied word.Equal (meaning.Formula f ∷ meaning.Formula f ∷ []) ≡ Err kind.QuantifierPlace
equality_of_shallow_formulas f some deep = rw (some, depth-Iff f f, deep) refl

-- (store a T 0), with a variable in T
store_at_a_deep_index : (a : ArrayTerm) (t : Term) → varies_term t ≡ true → varies a ≡ false → depth_of_term t ≡ 1000 → depth_of_array a ≡ 1 →
    applied word.Store (meaning.Array plain.Int plain.Int a ∷ meaning.Term sort.Int t ∷ meaning.Term sort.Int (term.Num (pos 0)) ∷ []) ≡ Err kind.TooDeep
store_at_a_deep_index a t bound closed deep named =
    rw (varies-Store a t (term.Num (pos 0)) bound closed, depth-Store a t (term.Num (pos 0)), depth-Num (pos 0), deep, named) refl
