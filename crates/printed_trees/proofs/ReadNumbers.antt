-- How numbers and truths read.
use Rattle.std.proofs.Common.{◌≡◌, ◌<◌, ◌≤◌, ℕ, suc, ◌-◌, ◌^◌, ℤ, pos, negsuc, Bool, true, false, cond, ltb, List, [], ◌∷◌, Result, Ok, Err, ap, ◌∙◌, arith}
use Rattle.std.specs.Prelude.{codes, decimal}
use Rattle.std.proofs.lemmas.Bool.Decides.{nat_tests}
use Rattle.mbqi_values.specs.declared.fault.FaultKind.{FaultKind}
use Rattle.mbqi_values.specs.declared.fault.FaultKind.TheVariants.{NumeralTooWide, OffsetTooWide}
use Rattle.mbqi_terms.specs.declared.formula.Formula.TheVariants as formula
use Rattle.mbqi_terms.specs.declared.sort.Sort.TheVariants as sort
use Rattle.mbqi_terms.specs.declared.term.Term.TheVariants as term
use Rattle.sexpr_text.specs.declared.tree.Sexpr.TheVariants as tree
use Rattle.smtlib_terms.specs.declared.meaning.Meaning.{Meaning}
use Rattle.smtlib_terms.specs.declared.meaning.Meaning.TheVariants as meaning
use Rattle.smtlib_terms.specs.declared.meaning.Side.TheVariants.{Meant}
use Rattle.smtlib_terms.specs.declared.names.Binding.{Binding}
use Rattle.smtlib_terms.specs.declared.word.Word.TheVariants as word
use Rattle.smtlib_terms.specs.Names.{◌>>=◌, Signature}
use Rattle.mbqi_terms.specs.Depth.{depth_of_term}
use Rattle.mbqi_terms.specs.Limits.{is_within}
use Rattle.smtlib_terms.specs.Meaning.{unless_deep}
use Rattle.smtlib_terms.specs.Operators.{integer_meant, meant, subtraction}
use Rattle.smtlib_terms.specs.Reading.{numeral}
use Rattle.smtlib_terms.proofs.TermTrees.{side-Numeral, side-Symbol}
use Rattle.measured_terms.proofs.TermLaws.{depth-Num}
use Rattle.printed_trees.specs.Means.{Means}
use Rattle.printed_trees.specs.Trees.{number_tree, truth_tree}
use Rattle.printed_trees.proofs.Decimals.{decimal_value}
use Rattle.smtlib_terms.proofs.Tests.{le_true, leb_le, ltb_lt}
use Rattle.printed_trees.proofs.ReadParts.{one_read, word_means}
use Rattle.printed_trees.proofs.Words.{minus_word}

lt_ltb : (a b : ℕ) → a < b → ltb a b ≡ true
lt_ltb a b e = grind (arith, nat_tests)

numeral_read : (n : ℕ) → n < 2 ^ 63 → numeral (decimal n) ≡ Ok (meaning.Term sort.Int (term.Num (pos n)))
numeral_read n small =
    ap (λ (v : ℕ). cond (ltb v (2 ^ 63)) (Ok (meaning.Term sort.Int (term.Num (pos v)))) (Err NumeralTooWide)) (decimal_value n (omega arith))
    ∙ ap (λ (t : Bool). cond t (Ok (meaning.Term sort.Int (term.Num (pos n)))) (Err NumeralTooWide)) (lt_ltb n (2 ^ 63) small)

numeral_means : (n : ℕ) (names : Signature) (scope : List Binding) (next : ℕ) → n < 2 ^ 63 → Means (tree.Numeral (decimal n)) names scope next (meaning.Term sort.Int (term.Num (pos n)))
numeral_means n names scope next small =
    side-Numeral (decimal n) names scope next ∙ ap meant (numeral_read n small)

negated_read : (n : ℕ) → ltb n (2 ^ 63 - 1) ≡ true → subtraction (meaning.Term sort.Int (term.Num (pos (suc n))) ∷ []) ≡ Ok (Meant (meaning.Term sort.Int (term.Num (negsuc n))))
negated_read n within = ap (λ (t : Bool). meant (integer_meant (cond t (Ok (term.Num (negsuc n))) (Err (unless_deep OffsetTooWide (depth_of_term (term.Num (negsuc n)))))))) within

pub number_means : (n : ℤ) (names : Signature) (scope : List Binding) (next : ℕ) → is_within (2 ^ 63 - 1) n ≡ true → Means (number_tree n) names scope next (meaning.Term sort.Int (term.Num n))
number_means (pos n) names scope next within =
    let small : n ≤ 2 ^ 63 - 1 = leb_le n (2 ^ 63 - 1) within in
    numeral_means n names scope next (omega arith)
number_means (negsuc n) names scope next within =
    let small : n < 2 ^ 63 - 1 = ltb_lt n (2 ^ 63 - 1) within in
    word_means (codes "-") word.Minus (tree.Numeral (decimal (suc n)) ∷ []) names scope next (meaning.Term sort.Int (term.Num (negsuc n))) minus_word
    (ap (λ (r : Result (List Meaning) FaultKind). r >>= subtraction) (one_read (tree.Numeral (decimal (suc n))) names scope next (meaning.Term sort.Int (term.Num (pos (suc n)))) (numeral_means (suc n) names scope next (omega arith)))
    ∙ negated_read n within)
    (let deep = depth-Num (negsuc n) in omega arith)

pub truth_means : (b : Bool) (names : Signature) (scope : List Binding) (next : ℕ) → Means (truth_tree b) names scope next (meaning.Formula (formula.Truth b))
truth_means true names scope next = side-Symbol (codes "true") names scope next
truth_means false names scope next = side-Symbol (codes "false") names scope next

-- a number within the limit of one beside a term is within that of a numeral
pub offset_within : (n : ℤ) → is_within (2 ^ 59) n ≡ true → is_within (2 ^ 63 - 1) n ≡ true
offset_within (pos n) within = let small : n ≤ 2 ^ 59 = leb_le n (2 ^ 59) within in le_true n (2 ^ 63 - 1) (omega arith)
offset_within (negsuc n) within = let small : n < 2 ^ 59 = ltb_lt n (2 ^ 59) within in lt_ltb n (2 ^ 63 - 1) (omega arith)
