-- Induction over trees, and the tokens of a tree.
use Rattle.std.proofs.Common.{◌≡◌, ℕ, List, [], ◌∷◌, ◌++◌, map, refl, sym, ap, ◌∙◌, subst}
use Rattle.std.specs.List.{flat_map, AllByRecursion}
use Rattle.sexpr_text.specs.Forms.{spelled, spelled_layer}
use Rattle.sexpr_text.specs.declared.tree.Sexpr.{Sexpr}
use Rattle.sexpr_text.specs.declared.tree.Sexpr.TheVariants as sexpr
use Rattle.sexpr_text.specs.declared.tree.Sexpr.TheVariants.{rolls-Numeral, rolls-Decimal, rolls-Hex, rolls-Binary, rolls-Str, rolls-Symbol, rolls-Keyword, rolls-List}
use Rattle.sexpr_text.specs.declared.tree.Sexpr.TheViews.{roll-Sexpr}
use Rattle.sexpr_text.specs.declared.tree.Sexpr.TheFolds.{fold-roll-Sexpr, ind-Sexpr, map-Sexpr}
use Rattle.sexpr_text.specs.declared.tree.Sexpr.TheOpen.{Sexpr-F}
use Rattle.sexpr_text.specs.declared.token.Token.{Token}
use Rattle.sexpr_text.specs.declared.token.Token.TheVariants.{Open, Close, Atom}

-- the cases of an induction over trees
pub record Cases (P : Sexpr → Type 0) : Type 0 where
  pub numeral : (text : List ℕ) → P (sexpr.Numeral text)
  pub decimal : (text : List ℕ) → P (sexpr.Decimal text)
  pub hex : (text : List ℕ) → P (sexpr.Hex text)
  pub binary : (text : List ℕ) → P (sexpr.Binary text)
  pub str : (text : List ℕ) → P (sexpr.Str text)
  pub symbol : (text : List ℕ) → P (sexpr.Symbol text)
  pub keyword : (text : List ℕ) → P (sexpr.Keyword text)
  pub list : (parts : List Sexpr) → AllByRecursion P parts → P (sexpr.List parts)

each_of : (P : Sexpr → Type 0) (parts : List ((tree : Sexpr) × P tree)) → AllByRecursion P (map (λ part. part.0) parts)
each_of P [] = tt
each_of P (part ∷ parts) = (part.1, each_of P parts)

pub by_cases : (P : Sexpr → Type 0) → Cases P → (tree : Sexpr) → P tree
by_cases P cases = ind-Sexpr P (λ x y is. subst (λ layer. P (roll-Sexpr layer)) is (elim y as (λ layer. P (roll-Sexpr (map-Sexpr ((tree : Sexpr) × P tree) Sexpr (λ e. e.0) layer))) [
  | Sexpr-F.Numeral text ↦ subst P (sym (rolls-Numeral text)) (cases.numeral text)
  | Sexpr-F.Decimal text ↦ subst P (sym (rolls-Decimal text)) (cases.decimal text)
  | Sexpr-F.Hex text ↦ subst P (sym (rolls-Hex text)) (cases.hex text)
  | Sexpr-F.Binary text ↦ subst P (sym (rolls-Binary text)) (cases.binary text)
  | Sexpr-F.Str text ↦ subst P (sym (rolls-Str text)) (cases.str text)
  | Sexpr-F.Symbol text ↦ subst P (sym (rolls-Symbol text)) (cases.symbol text)
  | Sexpr-F.Keyword text ↦ subst P (sym (rolls-Keyword text)) (cases.keyword text)
  | Sexpr-F.List parts ↦ subst P (sym (rolls-List (map (λ part. part.0) parts))) (cases.list (map (λ part. part.0) parts) (each_of P parts))
]))

-- a tree that is one token
abbrev pub IsAtom : Sexpr → Type 0
IsAtom tree = spelled tree ≡ Atom tree ∷ []

pub numeral_is_atom : (text : List ℕ) → IsAtom (sexpr.Numeral text)
numeral_is_atom text = ap spelled (sym (rolls-Numeral text)) ∙ fold-roll-Sexpr (List Token) spelled_layer (Sexpr-F.Numeral text)

pub decimal_is_atom : (text : List ℕ) → IsAtom (sexpr.Decimal text)
decimal_is_atom text = ap spelled (sym (rolls-Decimal text)) ∙ fold-roll-Sexpr (List Token) spelled_layer (Sexpr-F.Decimal text)

pub hex_is_atom : (text : List ℕ) → IsAtom (sexpr.Hex text)
hex_is_atom text = ap spelled (sym (rolls-Hex text)) ∙ fold-roll-Sexpr (List Token) spelled_layer (Sexpr-F.Hex text)

pub binary_is_atom : (text : List ℕ) → IsAtom (sexpr.Binary text)
binary_is_atom text = ap spelled (sym (rolls-Binary text)) ∙ fold-roll-Sexpr (List Token) spelled_layer (Sexpr-F.Binary text)

pub str_is_atom : (text : List ℕ) → IsAtom (sexpr.Str text)
str_is_atom text = ap spelled (sym (rolls-Str text)) ∙ fold-roll-Sexpr (List Token) spelled_layer (Sexpr-F.Str text)

pub symbol_is_atom : (text : List ℕ) → IsAtom (sexpr.Symbol text)
symbol_is_atom text = ap spelled (sym (rolls-Symbol text)) ∙ fold-roll-Sexpr (List Token) spelled_layer (Sexpr-F.Symbol text)

pub keyword_is_atom : (text : List ℕ) → IsAtom (sexpr.Keyword text)
keyword_is_atom text = ap spelled (sym (rolls-Keyword text)) ∙ fold-roll-Sexpr (List Token) spelled_layer (Sexpr-F.Keyword text)

each_part : (parts : List Sexpr) → flat_map (λ part. part) (map spelled parts) ≡ flat_map spelled parts
each_part [] = refl
each_part (part ∷ parts) = ap (λ more. spelled part ++ more) (each_part parts)

pub spelled-List : (parts : List Sexpr) → spelled (sexpr.List parts) ≡ Open ∷ (flat_map spelled parts ++ Close ∷ [])
spelled-List parts = ap spelled (sym (rolls-List parts)) ∙ (fold-roll-Sexpr (List Token) spelled_layer (Sexpr-F.List parts) ∙ ap (λ tokens. Open ∷ (tokens ++ Close ∷ [])) (each_part parts))
