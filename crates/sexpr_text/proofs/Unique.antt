-- Tokens spell at most one list of forms.
use Rattle.std.proofs.Common.{◌≡◌, ℕ, suc, List, [], ◌∷◌, ◌++◌, map, length, take, drop, refl, sym, ap, ◌∙◌, subst, append_assoc, ◌⊎◌, inl, inr}
use Rattle.std.specs.List.{flat_map, AllByRecursion}
use Rattle.std.proofs.Math.Seq.{take-append_seam, drop-append_seam}
use Rattle.sexpr_text.specs.Lexis.{Placed}
use Rattle.sexpr_text.specs.Forms.{spelled, BeginAt, EndAt, SpellForm, SpellForms}
use Rattle.sexpr_text.specs.declared.tree.Form.{Form}
use Rattle.sexpr_text.specs.declared.tree.Sexpr.{Sexpr}
use Rattle.sexpr_text.specs.declared.tree.Sexpr.TheVariants as sexpr
use Rattle.sexpr_text.specs.declared.token.Token.{Token}
use Rattle.sexpr_text.specs.declared.token.Token.TheVariants.{Open, Close, Atom}
use Rattle.sexpr_text.proofs.Soundness.{token_of, map-append}
use Rattle.sexpr_text.proofs.Spelling.{by_cases, IsAtom, spelled-List, numeral_is_atom, decimal_is_atom, hex_is_atom, binary_is_atom, str_is_atom, symbol_is_atom, keyword_is_atom}

-- a tree is one token or a list
abbrev pub View : Sexpr → Type 0
View tree = IsAtom tree ⊎ ((parts : List Sexpr) × (tree ≡ sexpr.List parts))

pub view : (tree : Sexpr) → View tree
view = by_cases View (record {
  numeral = λ text. inl (numeral_is_atom text);
  decimal = λ text. inl (decimal_is_atom text);
  hex = λ text. inl (hex_is_atom text);
  binary = λ text. inl (binary_is_atom text);
  str = λ text. inl (str_is_atom text);
  symbol = λ text. inl (symbol_is_atom text);
  keyword = λ text. inl (keyword_is_atom text);
  list = λ parts _. inr (parts, refl);
})

-- no tree's tokens begin another's
abbrev pub IsOne : Sexpr → Type 0
IsOne a = (b : Sexpr) (x y : List Token) → spelled a ++ x ≡ spelled b ++ y → (a ≡ b) × (x ≡ y)

list_before : (parts : List Sexpr) (x : List Token) → spelled (sexpr.List parts) ++ x ≡ Open ∷ (flat_map spelled parts ++ Close ∷ x)
list_before parts x = ap (λ ts. ts ++ x) (spelled-List parts) ∙ ap (λ ts. Open ∷ ts) (append_assoc (flat_map spelled parts) (Close ∷ []) x)

atom_one : (a : Sexpr) → IsAtom a → IsOne a
atom_one a atom b x y is = elim (view b) [
  | inl other ↦
      let e : Atom a ∷ x ≡ Atom b ∷ y = ap (λ ts. ts ++ x) (sym atom) ∙ is ∙ ap (λ ts. ts ++ y) other in (cc, cc)
  | inr list ↦
      let e : Atom a ∷ x ≡ Open ∷ (flat_map spelled list.0 ++ Close ∷ y) = ap (λ ts. ts ++ x) (sym atom) ∙ is ∙ ap (λ tree. spelled tree ++ y) list.1 ∙ list_before list.0 y in cc
]

-- a tree's tokens don't begin with a closing bracket
no_close : (tree : Sexpr) (x y : List Token) → Close ∷ x ≡ spelled tree ++ y → ⊥
no_close tree x y is = elim (view tree) [
  | inl atom ↦ let e : Close ∷ x ≡ Atom tree ∷ y = is ∙ ap (λ ts. ts ++ y) atom in cc
  | inr list ↦ let e : Close ∷ x ≡ Open ∷ (flat_map spelled list.0 ++ Close ∷ y) = is ∙ ap (λ t. spelled t ++ y) list.1 ∙ list_before list.0 y in cc
]

parts_one : (ps : List Sexpr) → AllByRecursion IsOne ps → (qs : List Sexpr) (x y : List Token) → flat_map spelled ps ++ Close ∷ x ≡ flat_map spelled qs ++ Close ∷ y → (ps ≡ qs) × (x ≡ y)
parts_one [] ones [] x y is = (refl, cc)
parts_one [] ones (q ∷ qs) x y is = absurd (no_close q x (flat_map spelled qs ++ Close ∷ y) (is ∙ append_assoc (spelled q) (flat_map spelled qs) (Close ∷ y)))
parts_one (p ∷ ps) ones [] x y is = absurd (no_close p y (flat_map spelled ps ++ Close ∷ x) (sym is ∙ append_assoc (spelled p) (flat_map spelled ps) (Close ∷ x)))
parts_one (p ∷ ps) ones (q ∷ qs) x y is =
    let first = ones.0 q (flat_map spelled ps ++ Close ∷ x) (flat_map spelled qs ++ Close ∷ y) (sym (append_assoc (spelled p) (flat_map spelled ps) (Close ∷ x)) ∙ is ∙ append_assoc (spelled q) (flat_map spelled qs) (Close ∷ y)) in
    let more = parts_one ps ones.1 qs x y first.1 in
    (ap (λ t. t ∷ ps) first.0 ∙ ap (λ ts. q ∷ ts) more.0, more.1)

list_one : (parts : List Sexpr) → AllByRecursion IsOne parts → IsOne (sexpr.List parts)
list_one parts ones b x y is = elim (view b) [
  | inl atom ↦ let e : Open ∷ (flat_map spelled parts ++ Close ∷ x) ≡ Atom b ∷ y = sym (list_before parts x) ∙ is ∙ ap (λ ts. ts ++ y) atom in cc
  | inr list ↦
      let e : Open ∷ (flat_map spelled parts ++ Close ∷ x) ≡ Open ∷ (flat_map spelled list.0 ++ Close ∷ y) = sym (list_before parts x) ∙ is ∙ ap (λ t. spelled t ++ y) list.1 ∙ list_before list.0 y in
      let f : flat_map spelled parts ++ Close ∷ x ≡ flat_map spelled list.0 ++ Close ∷ y = cc in
      let one = parts_one parts ones list.0 x y f in
      (ap sexpr.List one.0 ∙ sym list.1, one.1)
]

pub one_tree : (a : Sexpr) → IsOne a
one_tree = by_cases IsOne (record {
  numeral = λ text. atom_one _ (numeral_is_atom text);
  decimal = λ text. atom_one _ (decimal_is_atom text);
  hex = λ text. atom_one _ (hex_is_atom text);
  binary = λ text. atom_one _ (binary_is_atom text);
  str = λ text. atom_one _ (str_is_atom text);
  symbol = λ text. atom_one _ (symbol_is_atom text);
  keyword = λ text. atom_one _ (keyword_is_atom text);
  list = list_one;
})

one_begin : (own : List Placed) (m n : ℕ) → BeginAt own m → BeginAt own n → m ≡ n
one_begin [] m n a b = absurd a
one_begin (p ∷ own) m n a b = sym a ∙ b

one_end : (own : List Placed) (m n : ℕ) → EndAt own m → EndAt own n → m ≡ n
one_end [] m n a b = absurd a
one_end (p ∷ []) m n a b = sym a ∙ b
one_end (p ∷ q ∷ own) m n a b = one_end (q ∷ own) m n a b

no_form : (own rest : List Placed) (form : Form) → SpellForm own form → [] ≡ own ++ rest → ⊥
no_form [] rest form spells is = spells.from
no_form (p ∷ own) rest form spells is = cc

length-map : (own : List Placed) → length (map token_of own) ≡ length own
length-map [] = refl
length-map (p ∷ own) = ap suc (length-map own)

-- two forms at the front of the same tokens have the same of them
same_own : (own rest other more : List Placed) → own ++ rest ≡ other ++ more → length own ≡ length other → (own ≡ other) × (rest ≡ more)
same_own own rest other more is len = (
  sym (take-append_seam own rest) ∙ ap (λ n. take n (own ++ rest)) len ∙ ap (take (length other)) is ∙ take-append_seam other more,
  sym (drop-append_seam own rest) ∙ ap (λ n. drop n (own ++ rest)) len ∙ ap (drop (length other)) is ∙ drop-append_seam other more,
)

same_form : (f g : Form) → f.tree ≡ g.tree → f.from ≡ g.from → f.to ≡ g.to → f ≡ g
same_form f g tree from to =
    let one : f ≡ record { tree = g.tree; from = f.from; to = f.to } = ap (λ t. record { tree = t; from = f.from; to = f.to }) tree in
    let two : record { tree = g.tree; from = f.from; to = f.to } ≡ record { tree = g.tree; from = g.from; to = f.to } = ap (λ n. record { tree = g.tree; from = n; to = f.to }) from in
    one ∙ two ∙ ap (λ n. record { tree = g.tree; from = g.from; to = n }) to

pub one_spelling : (tokens : List Placed) (fs gs : List Form) → SpellForms tokens fs → SpellForms tokens gs → fs ≡ gs
one_spelling tokens [] [] a b = refl
one_spelling tokens [] (g ∷ gs) a b = absurd (no_form b.0 b.1 g b.3 (sym a ∙ b.2))
one_spelling tokens (f ∷ fs) [] a b = absurd (no_form a.0 a.1 f a.3 (sym b ∙ a.2))
one_spelling tokens (f ∷ fs) (g ∷ gs) a b =
    let both_ways : a.0 ++ a.1 ≡ b.0 ++ b.1 = sym a.2 ∙ b.2 in
    let spelled_same : spelled f.tree ++ map token_of a.1 ≡ spelled g.tree ++ map token_of b.1 =
    ap (λ ts. ts ++ map token_of a.1) (sym a.3.tree) ∙ sym (map-append a.0 a.1) ∙ ap (map token_of) both_ways ∙ map-append b.0 b.1 ∙ ap (λ ts. ts ++ map token_of b.1) b.3.tree in
    let trees : f.tree ≡ g.tree = (one_tree f.tree g.tree (map token_of a.1) (map token_of b.1) spelled_same).0 in
    let lens : length a.0 ≡ length b.0 = sym (length-map a.0) ∙ ap length (a.3.tree ∙ ap spelled trees ∙ sym b.3.tree) ∙ length-map b.0 in
    let owns = same_own a.0 a.1 b.0 b.1 both_ways lens in
    let froms : f.from ≡ g.from = one_begin b.0 f.from g.from (subst (λ own. BeginAt own f.from) owns.0 a.3.from) b.3.from in
    let tos : f.to ≡ g.to = one_end b.0 f.to g.to (subst (λ own. EndAt own f.to) owns.0 a.3.to) b.3.to in
    ap (λ form. form ∷ fs) (same_form f g trees froms tos)
    ∙ ap (λ forms. g ∷ forms) (one_spelling b.1 fs gs (subst (λ rest. SpellForms rest fs) owns.1 a.4) b.4)
