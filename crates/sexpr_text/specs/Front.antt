use Rattle.std.specs.Prelude.{ℕ, ◌+◌, Bool, not, ◌&&◌, ◌||◌, ◌==◌, nat_lt, List, [], ◌∷◌, length, drop, take, slice_index, Option, None, Some, if◌then◌else◌}
use Rattle.std.specs.List.{list_all, position, position_or_len, before_first}
use Rattle.std.specs.Char.{is_ascii_digit, is_ascii_hexdigit}
use Rattle.mbqi_values.specs.declared.fault.FaultKind.{FaultKind}
use Rattle.mbqi_values.specs.declared.fault.FaultKind.TheVariants.{BadByte, BadNumeral, OpenQuote, OpenString}
use Rattle.sexpr_text.specs.Bytes.{class_of, is_bar, is_content, is_line_feed, is_quote, is_quoted_content, word_of}
use Rattle.sexpr_text.specs.declared.class.Class.{Class}
use Rattle.sexpr_text.specs.declared.class.Class.TheVariants as class
use Rattle.sexpr_text.specs.declared.tree.Sexpr.{Sexpr}
use Rattle.sexpr_text.specs.declared.tree.Sexpr.TheVariants.{Numeral, Decimal, Hex, Binary, Str, Symbol, Keyword}
use Rattle.sexpr_text.specs.declared.token.Token.TheVariants.{Open, Close, Atom}
use Rattle.sexpr_text.specs.declared.token.Front.{Front}
use Rattle.sexpr_text.specs.declared.token.Front.TheVariants as front

-- Digits without a leading zero, or the one digit 0 (SMT-LIB 2.6, section 3.1: numeral).
unfoldable pub is_numeral : List ℕ → Bool
is_numeral word =
    nat_lt 0 (length word) && (list_all is_ascii_digit word && (not (slice_index word 0 == 48) || length word == 1))

abbrev pub is_point : ℕ → Bool
is_point b = b == 46

-- A point and one or more digits.
unfoldable pub is_fraction : List ℕ → Bool
is_fraction behind = nat_lt 1 (length behind) && list_all is_ascii_digit (drop 1 behind)

-- A numeral, a point and one or more digits (SMT-LIB 2.6, section 3.1: decimal).
unfoldable pub is_decimal : List ℕ → Bool
is_decimal word = is_numeral (before_first is_point word) && is_fraction (drop (position_or_len is_point word) word)

abbrev pub is_binary_digit : ℕ → Bool
is_binary_digit b = b == 48 || b == 49

-- How many bytes the content of a string takes: up to its closing quote, which no quote follows, or up to the
-- end of the text (SMT-LIB 2.6, section 3.1: string).
unfoldable pub content_len : List ℕ → ℕ
content_len [] = 0
content_len (b ∷ []) = if is_quote b then 0 else 1
content_len (b ∷ c ∷ bs) =
    if is_quote b then (if is_quote c then 2 + content_len bs else 0) else 1 + content_len (c ∷ bs)

-- The text of a string's content, in which two quotes stand for one.
unfoldable pub undoubled : List ℕ → List ℕ
undoubled [] = []
undoubled (b ∷ []) = b ∷ []
undoubled (b ∷ c ∷ bs) = if is_quote b then b ∷ undoubled bs else b ∷ undoubled (c ∷ bs)

abbrev pub atom : Sexpr → ℕ → Front
atom tree len = front.Token (Atom tree) len

-- The front that opens with one byte, goes on with the content, and closes with one more byte, which is
-- missing where the content is all of the rest. A byte of the content that isn't allowed comes first.
abbrev pub enclosed_by : Option ℕ → Bool → FaultKind → Sexpr → ℕ → Front
enclosed_by (Some at) closed kind tree len = front.Fault BadByte (at + 1)
enclosed_by None closed kind tree len = if closed then atom tree (len + 2) else front.Fault kind 0

abbrev pub enclosed : (ℕ → Bool) → FaultKind → List ℕ → List ℕ → Sexpr → Front
enclosed allows kind rest content tree =
    enclosed_by (position (λ b. not (allows b)) content) (nat_lt (length content) (length rest)) kind tree (length content)

-- A string, behind its opening quote.
unfoldable pub string_front : List ℕ → Front
string_front rest =
    let content = take (content_len rest) rest in enclosed is_content OpenString rest content (Str (undoubled content))

-- A quoted symbol, behind its opening bar: the symbol is the content.
unfoldable pub quoted_front : List ℕ → Front
quoted_front rest =
    let content = before_first is_bar rest in enclosed is_quoted_content OpenQuote rest content (Symbol content)

-- A word that begins with a digit.
unfoldable pub number_front : List ℕ → Front
number_front word =
    if is_numeral word then atom (Numeral word) (length word)
    else (if is_decimal word then atom (Decimal word) (length word)
    else front.Fault BadNumeral 0)

-- A literal behind its two marks, `#x` or `#b`: its word begins with a digit of its kind, and has no other byte.
-- (Past the end of a list stands 0, which is no digit.)
unfoldable pub radix_front : (ℕ → Bool) → Sexpr → List ℕ → Front
radix_front is_digit tree word =
    if is_digit (slice_index word 0) then
    (if list_all is_digit word then atom tree (length word + 2) else front.Fault BadNumeral 0)
    else front.Fault BadByte 0

-- A hexadecimal or binary literal, behind its `#`.
unfoldable pub literal_front : List ℕ → Front
literal_front rest =
    let word = word_of (drop 1 rest) in
    if slice_index rest 0 == 120 then radix_front is_ascii_hexdigit (Hex word) word
    else (if slice_index rest 0 == 98 then radix_front is_binary_digit (Binary word) word
    else front.Fault BadByte 0)

-- A keyword, with the word behind its colon, which may begin with a digit by this project's choice.
unfoldable pub keyword_front : List ℕ → Front
keyword_front word =
    if nat_lt 0 (length word) then atom (Keyword word) (length word + 1) else front.Fault BadByte 0

abbrev pub front_by : Class → List ℕ → Front
front_by class.Blank bytes = front.Blank 1
front_by class.Comment bytes = front.Blank (position_or_len is_line_feed (drop 1 bytes) + 1)
front_by class.Open bytes = front.Token Open 1
front_by class.Close bytes = front.Token Close 1
front_by class.Quote bytes = string_front (drop 1 bytes)
front_by class.Bar bytes = quoted_front (drop 1 bytes)
front_by class.Digit bytes = number_front (word_of bytes)
front_by class.Hash bytes = literal_front (drop 1 bytes)
front_by class.Colon bytes = keyword_front (word_of (drop 1 bytes))
front_by class.Symbol bytes = atom (Symbol (word_of bytes)) (length (word_of bytes))
front_by class.Other bytes = front.Fault BadByte 0

-- What stands at the front of a text that isn't empty: white space or a comment, a token, or a fault, with the
-- number of bytes that it takes or that stand before the fault (SMT-LIB 2.6, section 3.1).
unfoldable pub front_of : List ℕ → Front
front_of bytes = front_by (class_of (slice_index bytes 0)) bytes

-- The number of bytes that the front takes, up to and with the first faulty one.
abbrev pub size_of : Front → ℕ
size_of (front.Blank len) = len
size_of (front.Token token len) = len
size_of (front.Fault kind before) = before + 1
