use Rattle.std.specs.Prelude.{ℕ, Bool, not, ◌&&◌, ◌||◌, ◌==◌, List, nat_le, codes, if◌then◌else◌}
use Rattle.std.specs.List.{list_any, take_while}
use Rattle.std.specs.Char.{is_ascii_digit, is_ascii_alphanumeric}
use Rattle.sexpr_text.specs.declared.class.Class.{Class}
use Rattle.sexpr_text.specs.declared.class.Class.TheVariants.{Blank, Comment, Open, Close, Quote, Bar, Digit, Hash, Colon, Symbol, Other}

-- White space: tab, line feed, carriage return and blank (SMT-LIB 2.6, section 3.1).
abbrev pub is_blank : ℕ → Bool
is_blank b = b == 9 || b == 10 || b == 13 || b == 32

abbrev pub is_line_feed : ℕ → Bool
is_line_feed b = b == 10

abbrev pub is_quote : ℕ → Bool
is_quote b = b == 34

abbrev pub is_bar : ℕ → Bool
is_bar b = b == 124

-- The signs that a symbol may have beside letters and digits (SMT-LIB 2.6, section 3.1).
abbrev pub symbol_signs : List ℕ
symbol_signs = codes "~!@$%^&*_-+=<>.?/"

unfoldable pub is_symbol_byte : ℕ → Bool
is_symbol_byte b = is_ascii_alphanumeric b || list_any (λ sign. sign == b) symbol_signs

-- What the content of a string may have: printable bytes, white space, and bytes from 128, which pass as they
-- are (SMT-LIB 2.6, section 3.1).
unfoldable pub is_content : ℕ → Bool
is_content b = is_blank b || (nat_le 32 b && nat_le b 126) || nat_le 128 b

-- The same of a quoted symbol, which has no bar and no backslash (SMT-LIB 2.6, section 3.1).
unfoldable pub is_quoted_content : ℕ → Bool
is_quoted_content b = is_content b && (not (b == 92) && not (b == 124))

-- What begins with the byte.
unfoldable pub class_of : ℕ → Class
class_of b =
    if is_blank b then Blank
    else (if b == 59 then Comment
    else (if b == 40 then Open
    else (if b == 41 then Close
    else (if b == 34 then Quote
    else (if b == 124 then Bar
    else (if is_ascii_digit b then Digit
    else (if b == 35 then Hash
    else (if b == 58 then Colon
    else (if is_symbol_byte b then Symbol
    else Other)))))))))

-- The longest run of symbol bytes at the front.
abbrev pub word_of : List ℕ → List ℕ
word_of bytes = take_while is_symbol_byte bytes
