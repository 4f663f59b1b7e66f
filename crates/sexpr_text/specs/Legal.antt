use Rattle.std.specs.Prelude.{Bool, ◌&&◌, length, nat_lt}
use Rattle.std.specs.List.{list_all}
use Rattle.std.specs.Char.{is_ascii_hexdigit}
use Rattle.sexpr_text.specs.Bytes.{is_content, is_quoted_content, is_symbol_byte}
use Rattle.sexpr_text.specs.Front.{is_numeral, is_decimal, is_binary_digit}
use Rattle.sexpr_text.specs.declared.tree.Sexpr.{Sexpr}
use Rattle.sexpr_text.specs.declared.tree.Sexpr.TheOpen.{Sexpr-F}
use Rattle.sexpr_text.specs.declared.tree.Sexpr.TheFolds.{fold-Sexpr}

-- Whether each atom of a tree has a text that its kind can have (SMT-LIB 2.6, section 3.1). Below, the parts of a
-- list are given by whether they do.
abbrev pub is_legal_layer : Sexpr-F Bool → Bool
is_legal_layer (Sexpr-F.Numeral text) = is_numeral text
is_legal_layer (Sexpr-F.Decimal text) = is_decimal text
is_legal_layer (Sexpr-F.Hex text) = nat_lt 0 (length text) && list_all is_ascii_hexdigit text
is_legal_layer (Sexpr-F.Binary text) = nat_lt 0 (length text) && list_all is_binary_digit text
is_legal_layer (Sexpr-F.Str text) = list_all is_content text
is_legal_layer (Sexpr-F.Symbol text) = list_all is_quoted_content text
is_legal_layer (Sexpr-F.Keyword text) = nat_lt 0 (length text) && list_all is_symbol_byte text
is_legal_layer (Sexpr-F.List parts) = list_all (λ part. part) parts

abbrev pub is_legal : Sexpr → Bool
is_legal tree = fold-Sexpr Bool is_legal_layer tree
