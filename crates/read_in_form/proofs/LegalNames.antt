-- Each atom of a tree that was read has a text of its kind, so the text of a symbol is one that a symbol may have.
use Rattle.std.proofs.Common.{◌≡◌, ℕ, Bool, true, ◌&&◌, List, [], ◌∷◌, ◌++◌, map, refl, sym, ap, ◌∙◌, subst}
use Rattle.std.specs.List.{AllByRecursion, flat_map, list_all}
use Rattle.std.proofs.lemmas.Bool.{and_parts}
use Rattle.sexpr_text.specs.Bytes.{is_quoted_content}
use Rattle.sexpr_text.specs.Forms.{HaveForms, SpellForms, spelled}
use Rattle.sexpr_text.specs.Legal.{is_legal}
use Rattle.sexpr_text.specs.Lexis.{Broken, Ended, Lexed, Next, Placed, lexed, tokens_of}
use Rattle.sexpr_text.specs.declared.token.Token.{Token}
use Rattle.sexpr_text.specs.declared.token.Token.TheVariants.{Atom, Close, Open}
use Rattle.sexpr_text.specs.declared.tree.Form.{Form}
use Rattle.sexpr_text.specs.declared.tree.Sexpr.{Sexpr}
use Rattle.sexpr_text.specs.declared.tree.Sexpr.TheVariants as tree
use Rattle.sexpr_text.proofs.Legality.{HaveLegalAtoms, IsLegalAtom, legal-Symbol, lexed_gives}
use Rattle.sexpr_text.proofs.ReadBack.{legal-List}
use Rattle.sexpr_text.proofs.Spelling.{IsAtom, binary_is_atom, by_cases, decimal_is_atom, hex_is_atom, keyword_is_atom, numeral_is_atom, spelled-List, str_is_atom, symbol_is_atom}
use Rattle.smtlib_terms.specs.Reading.{text_of, trees_in}
use Rattle.smtlib_terms.proofs.TermTrees.{trees_in-Binary, trees_in-Decimal, trees_in-Hex, trees_in-Keyword, trees_in-List, trees_in-Numeral, trees_in-Str, trees_in-Symbol}

-- Each atom of the tree has a text of its kind.
abbrev pub AreLegal : Sexpr → Type 0
AreLegal t = is_legal t ≡ true

abbrev pub IsLegalForm : Form → Type 0
IsLegalForm form = AreLegal form.tree

-- The tokens of a text.
abbrev IsLegalToken : Token → Type 0
IsLegalToken Open = Unit {0}
IsLegalToken Close = Unit {0}
IsLegalToken (Atom t) = AreLegal t

legal_token : (token : Token) → ((t : Sexpr) → token ≡ Atom t → IsLegalAtom t) → IsLegalToken token
legal_token Open legal = tt
legal_token Close legal = tt
legal_token (Atom t) legal = (legal t refl).legal

abbrev IsLegalPlaced : Placed → Type 0
IsLegalPlaced placed = IsLegalToken placed.token

tokens_legal : (lx : Lexed) → HaveLegalAtoms lx → AllByRecursion IsLegalPlaced (tokens_of lx)
tokens_legal Ended legal = tt
tokens_legal (Broken refusal) legal = tt
tokens_legal (Next placed rest) legal = (legal_token placed.token legal.0, tokens_legal rest legal.1)

-- What all items of two lists in a row have.
all_split : {X : Type 0} (P : X → Type 0) (xs ys : List X) → AllByRecursion P (xs ++ ys) → AllByRecursion P xs × AllByRecursion P ys
all_split P [] ys all = (tt, all)
all_split P (x ∷ xs) ys all = let more = all_split P xs ys all.1 in ((all.0, more.0), more.1)

own_tokens : (placed : List Placed) → AllByRecursion IsLegalPlaced placed → AllByRecursion IsLegalToken (map (λ (p : Placed). p.token) placed)
own_tokens [] all = tt
own_tokens (p ∷ placed) all = (all.0, own_tokens placed all.1)

-- A tree whose tokens are legal.
abbrev IsLegalSpelled : Sexpr → Type 0
IsLegalSpelled t = AllByRecursion IsLegalToken (spelled t) → AreLegal t

atom_legal : (t : Sexpr) → IsAtom t → IsLegalSpelled t
atom_legal t atom all = (subst (AllByRecursion IsLegalToken) atom all).0

parts_legal : (parts : List Sexpr) → AllByRecursion IsLegalSpelled parts → AllByRecursion IsLegalToken (flat_map spelled parts) → list_all is_legal parts ≡ true
parts_legal [] each all = refl
parts_legal (part ∷ parts) each all =
    let two = all_split IsLegalToken (spelled part) (flat_map spelled parts) all in
    ap (λ (b : Bool). b && list_all is_legal parts) (each.0 two.0) ∙ parts_legal parts each.1 two.1

list_legal : (parts : List Sexpr) → AllByRecursion IsLegalSpelled parts → IsLegalSpelled (tree.List parts)
list_legal parts each all =
    let inside = subst (AllByRecursion IsLegalToken) (spelled-List parts) all in
    legal-List parts ∙ parts_legal parts each (all_split IsLegalToken (flat_map spelled parts) (Close ∷ []) inside.1).0

tree_legal : (t : Sexpr) → IsLegalSpelled t
tree_legal = by_cases IsLegalSpelled (record {
  numeral = λ text. atom_legal _ (numeral_is_atom text);
  decimal = λ text. atom_legal _ (decimal_is_atom text);
  hex = λ text. atom_legal _ (hex_is_atom text);
  binary = λ text. atom_legal _ (binary_is_atom text);
  str = λ text. atom_legal _ (str_is_atom text);
  symbol = λ text. atom_legal _ (symbol_is_atom text);
  keyword = λ text. atom_legal _ (keyword_is_atom text);
  list = list_legal;
})

-- The forms of a text.
spelled_legal : (placed : List Placed) (forms : List Form) → AllByRecursion IsLegalPlaced placed → SpellForms placed forms → AllByRecursion IsLegalForm forms
spelled_legal placed [] all spells = tt
spelled_legal placed (form ∷ forms) all spells =
    let two = all_split IsLegalPlaced spells.0 spells.1 (subst (AllByRecursion IsLegalPlaced) spells.2 all) in
    (tree_legal form.tree (subst (AllByRecursion IsLegalToken) spells.3.tree (own_tokens spells.0 two.0)), spelled_legal spells.1 forms two.1 spells.4)

pub forms_legal : (bytes : List ℕ) (forms : List Form) → HaveForms bytes forms → AllByRecursion IsLegalForm forms
forms_legal bytes forms have = spelled_legal (tokens_of (lexed bytes)) forms (tokens_legal (lexed bytes) (lexed_gives 0 0 bytes)) have.spelled

-- The trees in a tree.
abbrev HasLegalTrees : Sexpr → Type 0
HasLegalTrees t = AreLegal t → AllByRecursion AreLegal (trees_in t)

no_trees : (t : Sexpr) → trees_in t ≡ [] → HasLegalTrees t
no_trees t none legal = subst (AllByRecursion AreLegal) (sym none) tt

each_legal : (ts : List Sexpr) → list_all is_legal ts ≡ true → AllByRecursion AreLegal ts
each_legal [] all = tt
each_legal (t ∷ ts) all = let parts = and_parts (is_legal t) (list_all is_legal ts) all in (parts.0, each_legal ts parts.1)

pub trees_legal : (t : Sexpr) → AreLegal t → AllByRecursion AreLegal (trees_in t)
trees_legal = by_cases HasLegalTrees (record {
  numeral = λ text. no_trees _ (trees_in-Numeral text);
  decimal = λ text. no_trees _ (trees_in-Decimal text);
  hex = λ text. no_trees _ (trees_in-Hex text);
  binary = λ text. no_trees _ (trees_in-Binary text);
  str = λ text. no_trees _ (trees_in-Str text);
  symbol = λ text. no_trees _ (trees_in-Symbol text);
  keyword = λ text. no_trees _ (trees_in-Keyword text);
  list = λ ts _ legal. subst (AllByRecursion AreLegal) (sym (trees_in-List ts)) (each_legal ts (sym (legal-List ts) ∙ legal));
})

-- The text of a symbol.
abbrev HasLegalText : Sexpr → Type 0
HasLegalText t = AreLegal t → list_all is_quoted_content (text_of t) ≡ true

pub text_legal : (t : Sexpr) → AreLegal t → list_all is_quoted_content (text_of t) ≡ true
text_legal = by_cases HasLegalText (record {
  numeral = λ text _. refl;
  decimal = λ text _. refl;
  hex = λ text _. refl;
  binary = λ text _. refl;
  str = λ text _. refl;
  symbol = λ text legal. sym (legal-Symbol text) ∙ legal;
  keyword = λ text _. refl;
  list = λ ts _ _. refl;
})
