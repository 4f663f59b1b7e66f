-- Worked rows: the definitions compute the tokens and the first faults of texts, from their bytes.
use Rattle.std.proofs.Common.{◌≡◌, ℕ, List, [], ◌∷◌, ◌++◌, map, Option, None, Some, refl}
use Rattle.std.specs.Prelude.{codes}
use Rattle.mbqi_values.specs.declared.fault.FaultKind.TheVariants.{BadByte, BadNumeral, OpenQuote, OpenString, Unclosed, Unopened}
use Rattle.mbqi_values.specs.declared.fault.FaultKind.{FaultKind}
use Rattle.mbqi_values.specs.declared.fault.Refusal.{Refusal}
use Rattle.sexpr_text.specs.Bytes.{class_of, is_content, is_quoted_content, is_symbol_byte}
use Rattle.sexpr_text.specs.Front.{content_len, front_of, is_decimal, is_fraction, is_numeral, keyword_front, literal_front, number_front, quoted_front, radix_front, string_front, undoubled}
use Rattle.sexpr_text.specs.Lexis.{fault_from, first_fault, lexed, lexed_from, tokens_of}
use Rattle.sexpr_text.specs.declared.token.Token.{Token}
use Rattle.sexpr_text.specs.declared.token.Token.TheVariants.{Open, Close, Atom}
use Rattle.sexpr_text.specs.declared.tree.Sexpr.TheVariants as tree

abbrev told : List ℕ → List Token
told bytes = map (λ placed. placed.token) (tokens_of (lexed bytes))

abbrev fault : ℕ → FaultKind → Option Refusal
fault at kind = Some (record { at = at; kind = kind })

abbrev symbol : List ℕ → Token
symbol text = Atom (tree.Symbol text)

-- a line feed alone ends a comment, in which any byte may stand
comment : told (codes "a;(\r" ++ 128 ∷ 7 ∷ codes "\nb;c") ≡ symbol (codes "a") ∷ symbol (codes "b") ∷ []
unfolding lexed_from front_of class_of is_symbol_byte
comment = refl

-- bars are no part of a symbol
quoted_simple_symbol : told (codes "|a|") ≡ told (codes "a")
unfolding lexed_from front_of class_of is_symbol_byte quoted_front is_quoted_content is_content
quoted_simple_symbol = refl

no_bytes_in_bars : told (codes "||") ≡ symbol [] ∷ []
unfolding lexed_from front_of class_of is_symbol_byte quoted_front is_quoted_content is_content
no_bytes_in_bars = refl

-- two quotes in a string stand for one
quote_in_a_string : told (codes "\"a\"\"b\"c") ≡ Atom (tree.Str (codes "a\"b")) ∷ symbol (codes "c") ∷ []
unfolding lexed_from front_of class_of is_symbol_byte string_front content_len undoubled is_content
quote_in_a_string = refl

-- literals of each kind, a keyword and a list
one_of_each : told (codes "(0 1.50#xF0 #b01:1)") ≡ Open ∷ Atom (tree.Numeral (codes "0")) ∷ Atom (tree.Decimal (codes "1.50")) ∷ Atom (tree.Hex (codes "F0")) ∷ Atom (tree.Binary (codes "01")) ∷ Atom (tree.Keyword (codes "1")) ∷ Close ∷ []
unfolding lexed_from front_of class_of is_symbol_byte number_front is_numeral is_decimal is_fraction literal_front radix_front keyword_front
one_of_each = refl

-- a word that begins with a digit is a numeral or a decimal
digits_and_a_sign : first_fault (codes "a 1-") ≡ fault 2 BadNumeral
unfolding fault_from lexed_from front_of class_of is_symbol_byte number_front is_numeral is_decimal is_fraction
digits_and_a_sign = refl

leading_zero : first_fault (codes "00") ≡ fault 0 BadNumeral
unfolding fault_from lexed_from front_of class_of is_symbol_byte number_front is_numeral is_decimal is_fraction
leading_zero = refl

point_without_digits : first_fault (codes "1.") ≡ fault 0 BadNumeral
unfolding fault_from lexed_from front_of class_of is_symbol_byte number_front is_numeral is_decimal is_fraction
point_without_digits = refl

-- `#`, `#b2` and `:` begin nothing; `#xFg` is a literal with a wrong digit
hash_alone : map first_fault (codes "#" ∷ codes "#b2" ∷ codes ":" ∷ codes "#xFg" ∷ []) ≡ fault 0 BadByte ∷ fault 0 BadByte ∷ fault 0 BadByte ∷ fault 0 BadNumeral ∷ []
unfolding fault_from lexed_from front_of class_of is_symbol_byte literal_front radix_front keyword_front
hash_alone = refl

-- a byte from 128 on passes in a string and between bars
high_byte_in_quotes : map first_fault ((codes "\"" ++ 128 ∷ codes "\"") ∷ (codes "|" ++ 255 ∷ codes "|") ∷ []) ≡ None ∷ None ∷ []
unfolding fault_from lexed_from front_of class_of is_symbol_byte string_front content_len quoted_front is_quoted_content is_content
high_byte_in_quotes = refl

-- nowhere else: alone, behind a symbol's or a numeral's bytes, behind `:` and behind `#x`
high_byte_elsewhere : map first_fault ((128 ∷ []) ∷ (codes "a" ++ 128 ∷ []) ∷ (codes "1" ++ 128 ∷ []) ∷ (codes ":" ++ 128 ∷ []) ∷ (codes "#x" ++ 128 ∷ []) ∷ []) ≡ fault 0 BadByte ∷ fault 1 BadByte ∷ fault 1 BadByte ∷ fault 0 BadByte ∷ fault 0 BadByte ∷ []
unfolding fault_from lexed_from front_of class_of is_symbol_byte number_front is_numeral is_decimal is_fraction literal_front radix_front keyword_front
high_byte_elsewhere = refl

-- what may not stand in a string or between bars is the fault, at its own place
wrong_byte_in_quotes : map first_fault ((codes "\"a" ++ 7 ∷ codes "\"") ∷ codes "|a\\|" ∷ []) ≡ fault 2 BadByte ∷ fault 2 BadByte ∷ []
unfolding fault_from lexed_from front_of class_of is_symbol_byte string_front content_len quoted_front is_quoted_content is_content
wrong_byte_in_quotes = refl

-- what isn't closed, and what wasn't opened
nothing_closes : map first_fault (codes "a\"b\"\"" ∷ codes "a|b" ∷ codes " ((a)" ∷ codes "a)" ∷ []) ≡ fault 1 OpenString ∷ fault 1 OpenQuote ∷ fault 1 Unclosed ∷ fault 1 Unopened ∷ []
unfolding fault_from lexed_from front_of class_of is_symbol_byte string_front content_len quoted_front is_quoted_content is_content
nothing_closes = refl
