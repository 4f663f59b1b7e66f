-- The digits of numbers, and the names of variables, which are question marks and then digits.
use Rattle.std.proofs.Common.{◌≡◌, ◌≢◌, ◌<◌, ◌≤◌, ℕ, zero, suc, ◌+◌, ◌^◌, ◌%◌, Bool, true, false, ◌&&◌, eqb, ltb, List, [], ◌∷◌, ◌++◌, length, take, replicate, get_or, refl, ap, ◌∙◌, arith}
use Rattle.std.specs.Prelude.{decimal}
use Rattle.std.specs.Char.{is_ascii_digit}
use Rattle.std.specs.List.{list_all}
use Rattle.std.specs.Str.Parse.{digits_value}
use Rattle.std.proofs.lemmas.Bool.Decides.{nat_tests}
use Rattle.std.proofs.lemmas.Fmt.{decimal_by_steps, decimal_digit, decimal_injective, decimal_is_IsNumeral, decimal_nonempty, first_decimal}
use Rattle.std.proofs.lemmas.List.Folds.{list_all-append}
use Rattle.sexpr_text.specs.Bytes.{is_symbol_byte}
use Rattle.sexpr_text.specs.Front.{is_numeral}
use Rattle.sexpr_text.specs.Text.{is_simple}
use Rattle.sexpr_text.proofs.Legality.{all_more}
use Rattle.smtlib_printer.specs.Names.{begins_with, variable_text}

digit_is : (d : ℕ) → d < 10 → is_ascii_digit (48 + d) ≡ true
digit_is d low = grind (arith, nat_tests)

digits_one : (n : ℕ) → n < 10 → list_all is_ascii_digit ((48 + n) ∷ []) ≡ true
digits_one n low = rw (digit_is n low) refl

digits_more : (n : ℕ) (ds : List ℕ) → 10 ≤ n → list_all is_ascii_digit ds ≡ true → list_all is_ascii_digit (ds ++ ((48 + n % 10) ∷ [])) ≡ true
digits_more n ds high all =
    let last : list_all is_ascii_digit ((48 + n % 10) ∷ []) ≡ true = digits_one (n % 10) (omega arith) in
    list_all-append is_ascii_digit ds ((48 + n % 10) ∷ []) ∙ (ap (λ (t : Bool). t && list_all is_ascii_digit ((48 + n % 10) ∷ [])) all ∙ last)

pub digits_all : (n : ℕ) → n < 2 ^ 64 → list_all is_ascii_digit (decimal n) ≡ true
digits_all n within = decimal_by_steps (λ n ds. list_all is_ascii_digit ds ≡ true) digits_one digits_more n within

pub decimal_value : (n : ℕ) → n < 2 ^ 64 → digits_value 10 (decimal n) ≡ n
decimal_value n within = (decimal_is_IsNumeral n within).1

legal_zero : is_numeral (48 ∷ []) ≡ true
unfolding is_numeral
legal_zero = refl

legal_more : (ds : List ℕ) → list_all is_ascii_digit ds ≡ true → 0 < length ds → 48 < get_or ds 0 0 → is_numeral ds ≡ true
unfolding is_numeral
legal_more ds all some high =
    let nonempty : ltb 0 (length ds) ≡ true = grind (arith, nat_tests) in
    let first : eqb (get_or ds 0 0) 48 ≡ false = grind (arith, nat_tests) in
    rw (nonempty, all, first) refl

pub decimal_legal : (n : ℕ) → n < 2 ^ 64 → is_numeral (decimal n) ≡ true
decimal_legal zero within = ap is_numeral (decimal_digit 0 (omega arith)) ∙ legal_zero
decimal_legal (suc n) within =
    legal_more (decimal (suc n)) (digits_all (suc n) within) (decimal_nonempty (suc n) within) (first_decimal (suc n) (omega arith) within)

-- the first of some digits
first_all : (p : ℕ → Bool) (ds : List ℕ) → list_all p ds ≡ true → 0 < length ds → p (get_or ds 0 0) ≡ true
first_all p [] all some = absurd (omega arith)
first_all p (d ∷ ds) all some = go (p d) (list_all p ds) all
  where
    go : (a b : Bool) → (a && b) ≡ true → a ≡ true
    go true b e = refl
    go false b e = e

-- behind the question marks
past_marks : (marks : ℕ) (ds : List ℕ) → get_or (replicate marks 63 ++ ds) marks 0 ≡ get_or ds 0 0
past_marks zero ds = refl
past_marks (suc marks) ds = past_marks marks ds

all_marks : (marks : ℕ) (ds : List ℕ) → list_all (λ b. eqb b 63) (take marks (replicate marks 63 ++ ds)) ≡ true
all_marks zero ds = refl
all_marks (suc marks) ds = all_marks marks ds

pub variable_begins : (marks place : ℕ) → place < 2 ^ 64 → begins_with marks (variable_text marks place) ≡ true
variable_begins marks place within =
    let digit : is_ascii_digit (get_or (replicate marks 63 ++ decimal place) marks 0) ≡ true =
    ap is_ascii_digit (past_marks marks (decimal place)) ∙ first_all is_ascii_digit (decimal place) (digits_all place within) (decimal_nonempty place within) in
    rw digit (all_marks marks (decimal place))

-- a variable's name needs no bars
digit_symbol : (b : ℕ) → is_ascii_digit b ≡ true → is_symbol_byte b ≡ true
unfolding is_symbol_byte
digit_symbol b is = grind (arith, nat_tests)

all_symbols : (ds : List ℕ) → list_all is_ascii_digit ds ≡ true → list_all is_symbol_byte ds ≡ true
all_symbols ds all = all_more is_ascii_digit is_symbol_byte digit_symbol ds all

mark_symbol : is_symbol_byte 63 ≡ true
unfolding is_symbol_byte
mark_symbol = refl

marks_symbols : (marks : ℕ) (ds : List ℕ) → list_all is_symbol_byte ds ≡ true → list_all is_symbol_byte (replicate marks 63 ++ ds) ≡ true
marks_symbols zero ds all = all
marks_symbols (suc marks) ds all = rw mark_symbol (marks_symbols marks ds all)

pub variable_symbols : (marks place : ℕ) → place < 2 ^ 64 → list_all is_symbol_byte (variable_text marks place) ≡ true
variable_symbols marks place within = marks_symbols marks (decimal place) (all_symbols (decimal place) (digits_all place within))

pub variable_simple : (marks place : ℕ) → 0 < marks → place < 2 ^ 64 → is_simple (variable_text marks place) ≡ true
unfolding is_simple
variable_simple zero place some within = absurd (omega arith)
variable_simple (suc marks) place some within =
    let all : list_all is_symbol_byte (63 ∷ (replicate marks 63 ++ decimal place)) ≡ true = marks_symbols (suc marks) (decimal place) (all_symbols (decimal place) (digits_all place within)) in
    let nonempty : ltb 0 (suc (length (replicate marks 63 ++ decimal place))) ≡ true = grind (arith, nat_tests) in
    rw (nonempty, all) refl

-- and tells the place
marks_cancel : (marks : ℕ) (a b : List ℕ) → replicate marks 63 ++ a ≡ replicate marks 63 ++ b → a ≡ b
marks_cancel zero a b e = e
marks_cancel (suc marks) a b e = marks_cancel marks a b (cc)

pub variables_differ : (marks p q : ℕ) → p < 2 ^ 64 → q < 2 ^ 64 → p ≢ q → variable_text marks p ≢ variable_text marks q
variables_differ marks p q first second differ same = differ (decimal_injective p q first second (marks_cancel marks (decimal p) (decimal q) same))
