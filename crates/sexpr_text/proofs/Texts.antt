-- The text of a tree, by its kind.
use Rattle.std.proofs.Common.{◌≡◌, ℕ, List, [], ◌∷◌, ◌++◌, map, codes, refl, sym, ap, ◌∙◌}
use Rattle.std.specs.List.{flat_map, join_by}
use Rattle.sexpr_text.specs.Text.{text_of, texts_of, text_layer, doubled, symbol_text}
use Rattle.sexpr_text.specs.declared.tree.Sexpr.{Sexpr}
use Rattle.sexpr_text.specs.declared.tree.Sexpr.TheVariants as sexpr
use Rattle.sexpr_text.specs.declared.tree.Sexpr.TheVariants.{rolls-Numeral, rolls-Decimal, rolls-Hex, rolls-Binary, rolls-Str, rolls-Symbol, rolls-Keyword, rolls-List}
use Rattle.sexpr_text.specs.declared.tree.Sexpr.TheFolds.{fold-roll-Sexpr}
use Rattle.sexpr_text.specs.declared.tree.Sexpr.TheOpen.{Sexpr-F}

pub numeral_text : (text : List ℕ) → text_of (sexpr.Numeral text) ≡ text
numeral_text text = ap text_of (sym (rolls-Numeral text)) ∙ fold-roll-Sexpr (List ℕ) text_layer (Sexpr-F.Numeral text)

pub decimal_text : (text : List ℕ) → text_of (sexpr.Decimal text) ≡ text
decimal_text text = ap text_of (sym (rolls-Decimal text)) ∙ fold-roll-Sexpr (List ℕ) text_layer (Sexpr-F.Decimal text)

pub hex_text : (text : List ℕ) → text_of (sexpr.Hex text) ≡ codes "#x" ++ text
hex_text text = ap text_of (sym (rolls-Hex text)) ∙ fold-roll-Sexpr (List ℕ) text_layer (Sexpr-F.Hex text)

pub binary_text : (text : List ℕ) → text_of (sexpr.Binary text) ≡ codes "#b" ++ text
binary_text text = ap text_of (sym (rolls-Binary text)) ∙ fold-roll-Sexpr (List ℕ) text_layer (Sexpr-F.Binary text)

pub str_text : (text : List ℕ) → text_of (sexpr.Str text) ≡ codes "\"" ++ (doubled text ++ codes "\"")
str_text text = ap text_of (sym (rolls-Str text)) ∙ fold-roll-Sexpr (List ℕ) text_layer (Sexpr-F.Str text)

pub symbol_is_text : (text : List ℕ) → text_of (sexpr.Symbol text) ≡ symbol_text text
symbol_is_text text = ap text_of (sym (rolls-Symbol text)) ∙ fold-roll-Sexpr (List ℕ) text_layer (Sexpr-F.Symbol text)

pub keyword_text : (text : List ℕ) → text_of (sexpr.Keyword text) ≡ codes ":" ++ text
keyword_text text = ap text_of (sym (rolls-Keyword text)) ∙ fold-roll-Sexpr (List ℕ) text_layer (Sexpr-F.Keyword text)

each_more : (parts : List Sexpr) → flat_map (λ part. codes " " ++ part) (map text_of parts) ≡ flat_map (λ part. codes " " ++ text_of part) parts
each_more [] = refl
each_more (part ∷ parts) = ap (λ more. (codes " " ++ text_of part) ++ more) (each_more parts)

joined : (parts : List Sexpr) → join_by (λ part. part) (codes " ") (map text_of parts) ≡ texts_of parts
joined [] = refl
joined (part ∷ parts) = ap (λ more. text_of part ++ more) (each_more parts)

pub list_text : (parts : List Sexpr) → text_of (sexpr.List parts) ≡ codes "(" ++ (texts_of parts ++ codes ")")
list_text parts = ap text_of (sym (rolls-List parts)) ∙ (fold-roll-Sexpr (List ℕ) text_layer (Sexpr-F.List parts) ∙ ap (λ text. codes "(" ++ (text ++ codes ")")) (joined parts))
