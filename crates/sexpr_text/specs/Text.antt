use Rattle.std.specs.Prelude.{ℕ, ◌+◌, Bool, not, ◌&&◌, List, [], ◌∷◌, ◌++◌, length, nat_lt, slice_index, codes, if◌then◌else◌}
use Rattle.std.specs.List.{list_all, flat_map, join_by}
use Rattle.std.specs.Char.{is_ascii_digit}
use Rattle.sexpr_text.specs.Bytes.{is_quote, is_symbol_byte}
use Rattle.sexpr_text.specs.declared.tree.Form.{Form}
use Rattle.sexpr_text.specs.declared.tree.Sexpr.{Sexpr}
use Rattle.sexpr_text.specs.declared.tree.Sexpr.TheOpen.{Sexpr-F}
use Rattle.sexpr_text.specs.declared.tree.Sexpr.TheFolds.{fold-Sexpr}

-- Whether a symbol needs no bars (SMT-LIB 2.6, section 3.1: simple symbol; reserved words count as simple here).
unfoldable pub is_simple : List ℕ → Bool
is_simple text = nat_lt 0 (length text) && (list_all is_symbol_byte text && not (is_ascii_digit (slice_index text 0)))

-- A string's text with two quotes for each one.
abbrev pub doubled : List ℕ → List ℕ
doubled text = flat_map (λ b. if is_quote b then b ∷ b ∷ [] else b ∷ []) text

abbrev pub symbol_text : List ℕ → List ℕ
symbol_text text = if is_simple text then text else codes "|" ++ (text ++ codes "|")

-- The one text of a tree (this project's own choice among those of SMT-LIB 2.6, section 3): bars only where they
-- are needed, one blank between two parts of a list, and none at its brackets. Below, the parts of a list are given
-- by their texts.
abbrev pub text_layer : Sexpr-F (List ℕ) → List ℕ
text_layer (Sexpr-F.Numeral text) = text
text_layer (Sexpr-F.Decimal text) = text
text_layer (Sexpr-F.Hex text) = codes "#x" ++ text
text_layer (Sexpr-F.Binary text) = codes "#b" ++ text
text_layer (Sexpr-F.Str text) = codes "\"" ++ (doubled text ++ codes "\"")
text_layer (Sexpr-F.Symbol text) = symbol_text text
text_layer (Sexpr-F.Keyword text) = codes ":" ++ text
text_layer (Sexpr-F.List parts) = codes "(" ++ (join_by (λ part. part) (codes " ") parts ++ codes ")")

abbrev pub text_of : Sexpr → List ℕ
text_of tree = fold-Sexpr (List ℕ) text_layer tree

-- The texts of trees, with one blank between two.
abbrev pub texts_of : List Sexpr → List ℕ
texts_of trees = join_by text_of (codes " ") trees

-- A text of trees, each with a line feed behind it.
abbrev pub lines_of : List Sexpr → List ℕ
lines_of trees = flat_map (λ tree. text_of tree ++ codes "\n") trees

-- The forms that they are, where the text begins at a place.
abbrev pub forms_at : ℕ → List Sexpr → List Form
forms_at at [] = []
forms_at at (tree ∷ trees) =
    let end = at + length (text_of tree) in
    record { tree = tree; from = at; to = end } ∷ forms_at (end + 1) trees
