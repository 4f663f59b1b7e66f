use Rattle.std.specs.Prelude.{◌≡◌, ℕ, List, [], ◌∷◌, ◌++◌, map, None, Some, Result, Ok, Err}
use Rattle.std.specs.List.{flat_map}
use Rattle.mbqi_values.specs.declared.fault.ReadError.{ReadError}
use Rattle.mbqi_values.specs.declared.fault.ReadError.TheVariants.{Refused, Memory}
use Rattle.mbqi_values.specs.declared.fault.Refusal.{Refusal}
use Rattle.sexpr_text.specs.Lexis.{Placed, lexed, tokens_of, first_fault}
use Rattle.sexpr_text.specs.declared.tree.Form.{Form}
use Rattle.sexpr_text.specs.declared.tree.Sexpr.{Sexpr}
use Rattle.sexpr_text.specs.declared.tree.Sexpr.TheVariants.{Numeral, Decimal, Hex, Binary, Str, Symbol, Keyword}
use Rattle.sexpr_text.specs.declared.tree.Sexpr.TheOpen.{Sexpr-F}
use Rattle.sexpr_text.specs.declared.tree.Sexpr.TheFolds.{fold-Sexpr}
use Rattle.sexpr_text.specs.declared.token.Token.{Token}
use Rattle.sexpr_text.specs.declared.token.Token.TheVariants.{Open, Close, Atom}

-- The tokens that spell a tree (SMT-LIB 2.6, section 3.2): an atom is one, and a list is an open bracket, the
-- tokens of its parts, and a closing bracket. Below, the parts of a list are given by their tokens.
abbrev pub spelled_layer : Sexpr-F (List Token) → List Token
spelled_layer (Sexpr-F.Numeral text) = Atom (Numeral text) ∷ []
spelled_layer (Sexpr-F.Decimal text) = Atom (Decimal text) ∷ []
spelled_layer (Sexpr-F.Hex text) = Atom (Hex text) ∷ []
spelled_layer (Sexpr-F.Binary text) = Atom (Binary text) ∷ []
spelled_layer (Sexpr-F.Str text) = Atom (Str text) ∷ []
spelled_layer (Sexpr-F.Symbol text) = Atom (Symbol text) ∷ []
spelled_layer (Sexpr-F.Keyword text) = Atom (Keyword text) ∷ []
spelled_layer (Sexpr-F.List parts) = Open ∷ (flat_map (λ part. part) parts ++ Close ∷ [])

abbrev pub spelled : Sexpr → List Token
spelled tree = fold-Sexpr (List Token) spelled_layer tree

-- The tokens begin at a place.
abbrev pub BeginAt : List Placed → ℕ → Type 0
BeginAt [] from = ⊥
BeginAt (first ∷ more) from = first.from ≡ from

-- The tokens end at a place.
abbrev pub EndAt : List Placed → ℕ → Type 0
EndAt [] to = ⊥
EndAt (last ∷ []) to = last.to ≡ to
EndAt (first ∷ next ∷ more) to = EndAt (next ∷ more) to

-- The tokens are one form's.
pub record SpellForm (tokens : List Placed) (form : Form) : Type 0 where
  pub tree : map (λ placed. placed.token) tokens ≡ spelled form.tree
  pub from : BeginAt tokens form.from
  pub to : EndAt tokens form.to

-- The tokens are those of the forms, one form behind the other.
abbrev pub SpellForms : List Placed → List Form → Type 0
SpellForms tokens [] = tokens ≡ []
SpellForms tokens (form ∷ forms) =
    (own rest : List Placed) × (tokens ≡ own ++ rest) × SpellForm own form × SpellForms rest forms

-- The bytes are a text of these forms: it has no fault, and its tokens are theirs.
pub record HaveForms (bytes : List ℕ) (forms : List Form) : Type 0 where
  pub faultless : first_fault bytes ≡ None
  pub spelled : SpellForms (tokens_of (lexed bytes)) forms

-- The bytes are refused at their first fault.
abbrev pub IsRefused : List ℕ → Refusal → Type 0
IsRefused bytes refusal = first_fault bytes ≡ Some refusal

-- A fact of the refusal, where the result is one.
abbrev pub IfRefused : {A : Type 0} → Result A ReadError → (Refusal → Type 0) → Type 0
IfRefused (Ok value) P = Unit {0}
IfRefused (Err (Refused refusal)) P = P refusal
IfRefused (Err Memory) P = Unit {0}
