-- What stands at the front of an atom's text, where the bytes behind it don't belong to it.
use Rattle.std.proofs.Common.{◌≡◌, ℕ, suc, ◌+◌, ◌<◌, Bool, true, false, cond, not, ◌&&◌, List, [], ◌∷◌, ◌++◌, length, take, drop, get_or, eqb, ltb, None, Some, refl, sym, ap, ◌∙◌, subst, arith, one-add, length-append, length-drop, length-take-le, drop-cons, get_or-take, ◌||◌}
use Rattle.std.specs.List.{list_all, position, position_or_len, prefix_len}
use Rattle.std.specs.Char.{is_ascii_digit, is_ascii_hexdigit}
use Rattle.std.proofs.lemmas.Bool.{and_parts}
use Rattle.std.proofs.lemmas.Bool.Decides.{nat_tests}
use Rattle.std.proofs.Math.Seq.{take-append_seam}
use Rattle.std.proofs.lemmas.List.{take-append-drop}
use Rattle.std.proofs.lemmas.List.Sums.{passes_at_first}
use Rattle.std.proofs.lemmas.List.Folds.{list_all-append, list_all_at}
use Rattle.mbqi_values.specs.declared.fault.FaultKind.TheVariants.{OpenQuote, OpenString}
use Rattle.sexpr_text.specs.Bytes.{class_of, is_symbol_byte, is_content, is_quoted_content, is_quote, is_bar, word_of}
use Rattle.mbqi_values.specs.declared.fault.FaultKind.{FaultKind}
use Rattle.sexpr_text.specs.Front.{front_of, front_by, number_front, literal_front, radix_front, keyword_front, string_front, quoted_front, enclosed, enclosed_by, is_numeral, is_decimal, is_fraction, is_point, is_binary_digit, undoubled, content_len, atom}
use Rattle.sexpr_text.specs.Text.{is_simple, doubled}
use Rattle.sexpr_text.specs.declared.class.Class.{Class}
use Rattle.sexpr_text.specs.declared.class.Class.TheVariants as class
use Rattle.sexpr_text.specs.declared.tree.Sexpr.{Sexpr}
use Rattle.sexpr_text.specs.declared.tree.Sexpr.TheVariants as sexpr
use Rattle.sexpr_text.proofs.ByteSearch.{other_first, quote_first, undoubled-cons}
use Rattle.sexpr_text.proofs.Legality.{all_more}

-- what stands behind an atom's text belongs to no atom
pub record IsDelimited (rest : List ℕ) : Type 0 where
  pub no_symbol : is_symbol_byte (get_or rest 0 0) ≡ false
  pub no_quote : is_quote (get_or rest 0 0) ≡ false

prefix_is : (p : ℕ → Bool) (text rest : List ℕ) → list_all p text ≡ true → p (get_or rest 0 0) ≡ false → prefix_len p (text ++ rest) ≡ length text
prefix_is p [] [] all ends = refl
prefix_is p [] (b ∷ bs) all ends = rw ends refl
prefix_is p (b ∷ text) rest all ends =
    let parts = and_parts (p b) (list_all p text) all in rw parts.0 (ap (λ n. 1 + n) (prefix_is p text rest parts.1 ends) ∙ one-add (length text))

front_part : (p : ℕ → Bool) (text rest : List ℕ) → list_all p text ≡ true → p (get_or rest 0 0) ≡ false → take (prefix_len p (text ++ rest)) (text ++ rest) ≡ text
front_part p text rest all ends = ap (λ n. take n (text ++ rest)) (prefix_is p text rest all ends) ∙ take-append_seam text rest

word_is : (text rest : List ℕ) → list_all is_symbol_byte text ≡ true → IsDelimited rest → word_of (text ++ rest) ≡ text
word_is text rest all ends = front_part is_symbol_byte text rest all ends.no_symbol

digit_class : (b : ℕ) → is_ascii_digit b ≡ true → class_of b ≡ class.Digit
unfolding class_of
digit_class b is = grind (arith, nat_tests)

symbol_class : (b : ℕ) → is_symbol_byte b ≡ true → is_ascii_digit b ≡ false → class_of b ≡ class.Symbol
unfolding class_of is_symbol_byte
symbol_class b is other = grind (arith, nat_tests)

digit_is_symbol : (b : ℕ) → is_ascii_digit b ≡ true → is_symbol_byte b ≡ true
unfolding is_symbol_byte
digit_is_symbol b is = grind (arith, nat_tests)

hex_is_symbol : (b : ℕ) → is_ascii_hexdigit b ≡ true → is_symbol_byte b ≡ true
unfolding is_symbol_byte
hex_is_symbol b is = grind (arith, nat_tests)

binary_is_symbol : (b : ℕ) → is_binary_digit b ≡ true → is_symbol_byte b ≡ true
unfolding is_symbol_byte
binary_is_symbol b is = grind (arith, nat_tests)

-- the front of a text whose first byte has a class
front_is : (b : ℕ) (bs : List ℕ) (k : Class) → class_of b ≡ k → front_of (b ∷ bs) ≡ front_by k (b ∷ bs)
unfolding front_of
front_is b bs k is = ap (λ c. front_by c (b ∷ bs)) is

pub numeral_front : (text rest : List ℕ) → is_numeral text ≡ true → IsDelimited rest → front_of (text ++ rest) ≡ atom (sexpr.Numeral text) (length text)
unfolding is_numeral number_front
numeral_front [] rest is ends = cc
numeral_front (b ∷ bs) rest is ends =
    let digits = (and_parts _ _ (and_parts _ _ is).1).0 in
    front_is b (bs ++ rest) class.Digit (digit_class b (and_parts _ _ digits).0)
    ∙ ap number_front (word_is (b ∷ bs) rest (all_more is_ascii_digit is_symbol_byte digit_is_symbol (b ∷ bs) digits) ends)
    ∙ rw is refl

first_some : (p : ℕ → Bool) (text : List ℕ) → ltb 0 (length text) ≡ true → list_all p text ≡ true → p (get_or text 0 0) ≡ true
first_some p [] some all = cc
first_some p (b ∷ bs) some all = (and_parts (p b) (list_all p bs) all).0

radix_is : (is_digit : ℕ → Bool) (tree : Sexpr) (text : List ℕ) → ltb 0 (length text) ≡ true → list_all is_digit text ≡ true → radix_front is_digit tree text ≡ atom tree (length text + 2)
unfolding radix_front
radix_is is_digit tree text some all = rw (first_some is_digit text some all) (rw all refl)

pub hex_front : (text rest : List ℕ) → ltb 0 (length text) ≡ true → list_all is_ascii_hexdigit text ≡ true → IsDelimited rest → front_of (35 ∷ 120 ∷ (text ++ rest)) ≡ atom (sexpr.Hex text) (length text + 2)
unfolding front_of class_of literal_front
hex_front text rest some all ends =
    ap (λ word. radix_front is_ascii_hexdigit (sexpr.Hex word) word) (word_is text rest (all_more is_ascii_hexdigit is_symbol_byte hex_is_symbol text all) ends)
    ∙ radix_is is_ascii_hexdigit (sexpr.Hex text) text some all

pub binary_front : (text rest : List ℕ) → ltb 0 (length text) ≡ true → list_all is_binary_digit text ≡ true → IsDelimited rest → front_of (35 ∷ 98 ∷ (text ++ rest)) ≡ atom (sexpr.Binary text) (length text + 2)
unfolding front_of class_of literal_front
binary_front text rest some all ends =
    ap (λ word. radix_front is_binary_digit (sexpr.Binary word) word) (word_is text rest (all_more is_binary_digit is_symbol_byte binary_is_symbol text all) ends)
    ∙ radix_is is_binary_digit (sexpr.Binary text) text some all

pub keyword_is_front : (text rest : List ℕ) → ltb 0 (length text) ≡ true → list_all is_symbol_byte text ≡ true → IsDelimited rest → front_of (58 ∷ (text ++ rest)) ≡ atom (sexpr.Keyword text) (length text + 1)
unfolding front_of class_of keyword_front
keyword_is_front text rest some all ends = ap keyword_front (word_is text rest all ends) ∙ rw some refl

negated : (b : Bool) → not b ≡ true → b ≡ false
negated true is = cc
negated false is = refl

pub simple_front : (text rest : List ℕ) → is_simple text ≡ true → IsDelimited rest → front_of (text ++ rest) ≡ atom (sexpr.Symbol text) (length text)
unfolding is_simple
simple_front [] rest is ends = cc
simple_front (b ∷ bs) rest is ends =
    let parts = and_parts _ _ (and_parts _ _ is).1 in
    front_is b (bs ++ rest) class.Symbol (symbol_class b (and_parts _ _ parts.0).0 (negated _ parts.1))
    ∙ ap (λ word. atom (sexpr.Symbol word) (length word)) (word_is (b ∷ bs) rest parts.0 ends)

-- content that is allowed has no stray byte
all_prefix : (p : ℕ → Bool) (text : List ℕ) → list_all p text ≡ true → prefix_len (λ b. not (not (p b))) text ≡ length text
all_prefix p [] all = refl
all_prefix p (b ∷ bs) all =
    let parts = and_parts (p b) (list_all p bs) all in rw parts.0 (ap (λ n. 1 + n) (all_prefix p bs parts.1) ∙ one-add (length bs))

not_below : (n : ℕ) → ltb n n ≡ false
not_below n = grind (arith, nat_tests)

none_stray : (p : ℕ → Bool) (text : List ℕ) → list_all p text ≡ true → position (λ b. not (p b)) text ≡ None
none_stray p text all =
    ap (λ n. cond (ltb n (length text)) (Some n) None) (all_prefix p text all) ∙ ap (λ t. cond t (Some (length text)) None) (not_below (length text))

is_closed : (text : List ℕ) (b : ℕ) (rest : List ℕ) → ltb (length text) (length (text ++ b ∷ rest)) ≡ true
is_closed text b rest = rw (length-append text (b ∷ rest)) (grind (arith, nat_tests))

enclosed_is : (allows : ℕ → Bool) (kind : FaultKind) (text : List ℕ) (b : ℕ) (rest : List ℕ) (tree : Sexpr) → list_all allows text ≡ true →
    enclosed allows kind (text ++ b ∷ rest) text tree ≡ atom tree (length text + 2)
enclosed_is allows kind text b rest tree all =
    ap (λ stray. enclosed_by stray (ltb (length text) (length (text ++ b ∷ rest))) kind tree (length text)) (none_stray allows text all)
    ∙ ap (λ closed. enclosed_by None closed kind tree (length text)) (is_closed text b rest)

not_bar : (b : ℕ) → is_quoted_content b ≡ true → not (is_bar b) ≡ true
unfolding is_quoted_content
not_bar b is = (and_parts _ _ (and_parts _ _ is).1).1

pub bars_front : (text rest : List ℕ) → list_all is_quoted_content text ≡ true → front_of (124 ∷ (text ++ 124 ∷ rest)) ≡ atom (sexpr.Symbol text) (length text + 2)
unfolding front_of class_of quoted_front
bars_front text rest all =
    ap (λ content. enclosed is_quoted_content OpenQuote (text ++ 124 ∷ rest) content (sexpr.Symbol content)) (front_part (λ b. not (is_bar b)) text (124 ∷ rest) (all_more is_quoted_content (λ b. not (is_bar b)) not_bar text all) refl)
    ∙ enclosed_is is_quoted_content OpenQuote text 124 rest (sexpr.Symbol text) all

-- the content of a string whose text is doubled
doubled_len : (text rest : List ℕ) → is_quote (get_or rest 0 0) ≡ false → content_len (doubled text ++ 34 ∷ rest) ≡ length (doubled text)
unfolding content_len
doubled_len [] rest ends = quote_first 34 rest refl ∙ rw ends refl
doubled_len (b ∷ text) rest ends =
    elim (is_quote b) as (λ t. is_quote b ≡ t → content_len ((cond t (b ∷ b ∷ []) (b ∷ []) ++ doubled text) ++ 34 ∷ rest) ≡ length (cond t (b ∷ b ∷ []) (b ∷ []) ++ doubled text)) [
      | true ↦ λ quote. rw quote (rw (doubled_len text rest ends) (omega arith))
      | false ↦ λ other. other_first b (doubled text ++ 34 ∷ rest) other ∙ ap (λ n. 1 + n) (doubled_len text rest ends) ∙ one-add (length (doubled text))
    ] refl

undoubled-doubled : (text : List ℕ) → undoubled (doubled text) ≡ text
unfolding undoubled
undoubled-doubled [] = refl
undoubled-doubled (b ∷ text) =
    elim (is_quote b) as (λ t. is_quote b ≡ t → undoubled (cond t (b ∷ b ∷ []) (b ∷ []) ++ doubled text) ≡ b ∷ text) [
      | true ↦ λ quote. rw quote (ap (λ more. b ∷ more) (undoubled-doubled text))
      | false ↦ λ other. undoubled-cons b (doubled text) ∙ ap (λ t. b ∷ undoubled (drop (cond t 1 0) (doubled text))) other ∙ ap (λ more. b ∷ more) (undoubled-doubled text)
    ] refl

doubled_all : (p : ℕ → Bool) (text : List ℕ) → list_all p text ≡ true → list_all p (doubled text) ≡ true
doubled_all p [] all = refl
doubled_all p (b ∷ text) all =
    let parts = and_parts (p b) (list_all p text) all in
    elim (is_quote b) as (λ t. list_all p (cond t (b ∷ b ∷ []) (b ∷ []) ++ doubled text) ≡ true) [
      | true ↦ rw parts.0 (doubled_all p text parts.1)
      | false ↦ rw parts.0 (doubled_all p text parts.1)
    ]

pub string_is_front : (text rest : List ℕ) → list_all is_content text ≡ true → is_quote (get_or rest 0 0) ≡ false → front_of (34 ∷ (doubled text ++ 34 ∷ rest)) ≡ atom (sexpr.Str text) (length (doubled text) + 2)
unfolding front_of class_of string_front
string_is_front text rest all ends =
    ap (λ content. enclosed is_content OpenString (doubled text ++ 34 ∷ rest) content (sexpr.Str (undoubled content)))
    (ap (λ n. take n (doubled text ++ 34 ∷ rest)) (doubled_len text rest ends) ∙ take-append_seam (doubled text) (34 ∷ rest))
    ∙ enclosed_is is_content OpenString (doubled text) 34 rest (sexpr.Str (undoubled (doubled text))) (doubled_all is_content text all)
    ∙ ap (λ content. atom (sexpr.Str content) (length (doubled text) + 2)) (undoubled-doubled text)

-- the parts of a decimal: digits that begin it, and a point that is no digit
pub record DecimalParts (text : List ℕ) : Type 0 where
  pub symbols : list_all is_symbol_byte text ≡ true
  pub begins : is_ascii_digit (get_or text 0 0) ≡ true
  pub no_numeral : is_numeral text ≡ false

point_no_digit : (b : ℕ) → is_point b ≡ true → is_ascii_digit b ≡ false
point_no_digit b is = grind (arith, nat_tests)

point_is_symbol : (b : ℕ) → is_point b ≡ true → is_symbol_byte b ≡ true
unfolding is_symbol_byte
point_is_symbol b is = grind (arith, nat_tests)

and_false : (a : Bool) → (a && false) ≡ false
and_false true = refl
and_false false = refl

is_below : (m n : ℕ) → ltb m n ≡ true → m < n
is_below m n is = grind (arith, nat_tests)

no_numeral_with : (text : List ℕ) → list_all is_ascii_digit text ≡ false → is_numeral text ≡ false
unfolding is_numeral
no_numeral_with text other = ap (λ t. ltb 0 (length text) && (t && (not (eqb (get_or text 0 0) 48) || eqb (length text) 1))) other ∙ and_false (ltb 0 (length text))

-- digits up to a point, and digits behind it
decimal_at : (text : List ℕ) (k : ℕ) → k < length text → is_point (get_or text k 0) ≡ true →
    ltb 0 (length (take k text)) ≡ true → list_all is_ascii_digit (take k text) ≡ true → list_all is_ascii_digit (drop 1 (drop k text)) ≡ true → DecimalParts text
decimal_at text k lt point some digits more =
    let is : drop k text ≡ get_or text k 0 ∷ drop (suc k) text = drop-cons text k 0 lt in
    let behind : list_all is_ascii_digit (drop (suc k) text) ≡ true = subst (λ d. list_all is_ascii_digit (drop 1 d) ≡ true) is more in
    record {
      symbols = ap (list_all is_symbol_byte) (sym (take-append-drop k text)) ∙ list_all-append is_symbol_byte (take k text) (drop k text)
          ∙ ap (λ t. t && list_all is_symbol_byte (drop k text)) (all_more is_ascii_digit is_symbol_byte digit_is_symbol (take k text) digits)
          ∙ ap (list_all is_symbol_byte) is ∙ ap (λ t. t && list_all is_symbol_byte (drop (suc k) text)) (point_is_symbol (get_or text k 0) point)
          ∙ all_more is_ascii_digit is_symbol_byte digit_is_symbol (drop (suc k) text) behind;
      begins = ap is_ascii_digit (sym (get_or-take k text 0 0 (omega (arith, length-take-le k text (omega arith), is_below 0 (length (take k text)) some)))) ∙ first_some is_ascii_digit (take k text) some digits;
      no_numeral = no_numeral_with text (list_all_at is_ascii_digit text k 0 lt (point_no_digit (get_or text k 0) point));
    }

long_enough : (text : List ℕ) (k : ℕ) → ltb 1 (length (drop k text)) ≡ true → k < length text
long_enough text k long = omega (arith, length-drop k text, is_below 1 (length (drop k text)) long)

decimal_parts : (text : List ℕ) → is_decimal text ≡ true → DecimalParts text
unfolding is_decimal is_fraction is_numeral
decimal_parts text is =
    let k = position_or_len is_point text in
    let parts = and_parts (is_numeral (take k text)) (is_fraction (drop k text)) is in
    let whole = and_parts _ _ parts.0 in
    let fraction = and_parts _ _ parts.1 in
    let lt = long_enough text k fraction.0 in
    decimal_at text k lt (passes_at_first is_point text 0 lt) whole.0 (and_parts _ _ whole.1).0 fraction.1

pub decimal_front : (text rest : List ℕ) → is_decimal text ≡ true → IsDelimited rest → front_of (text ++ rest) ≡ atom (sexpr.Decimal text) (length text)
unfolding number_front
decimal_front [] rest is ends = let parts = decimal_parts [] is in let begins : is_ascii_digit 0 ≡ true = parts.begins in cc
decimal_front (b ∷ bs) rest is ends =
    let parts = decimal_parts (b ∷ bs) is in
    front_is b (bs ++ rest) class.Digit (digit_class b parts.begins)
    ∙ ap number_front (word_is (b ∷ bs) rest parts.symbols ends)
    ∙ rw parts.no_numeral (rw is refl)

pub numeral_some : (text : List ℕ) → is_numeral text ≡ true → 0 < length text
unfolding is_numeral
numeral_some text is = is_below 0 (length text) (and_parts (ltb 0 (length text)) _ is).0

pub decimal_some : (text : List ℕ) → is_decimal text ≡ true → 0 < length text
decimal_some [] is = let parts = decimal_parts [] is in let begins : is_ascii_digit 0 ≡ true = parts.begins in cc
decimal_some (b ∷ bs) is = omega arith

pub simple_some : (text : List ℕ) → is_simple text ≡ true → 0 < length text
unfolding is_simple
simple_some text is = is_below 0 (length text) (and_parts (ltb 0 (length text)) _ is).0
