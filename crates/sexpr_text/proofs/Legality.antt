-- Each token that stands at the front of a text is a bracket or an atom with a text of its kind.
use Rattle.std.proofs.Common.{◌≡◌, ℕ, zero, suc, ◌+◌, ◌<◌, Bool, true, false, cond, not, ◌&&◌, List, [], ◌∷◌, length, take, drop, get_or, eqb, ltb, Option, None, Some, refl, sym, ap, ◌∙◌, subst, arith, one-add, ◌⊎◌, inl, inr, ◌-◌}
use Rattle.std.specs.List.{list_all, position, prefix_len, before_first}
use Rattle.std.specs.Char.{is_ascii_hexdigit}
use Rattle.std.proofs.lemmas.Bool.{and_parts}
use Rattle.std.proofs.lemmas.Bool.Decides.{nat_tests}
use Rattle.mbqi_values.specs.declared.fault.FaultKind.{FaultKind}
use Rattle.mbqi_values.specs.declared.fault.FaultKind.TheVariants.{BadByte, BadNumeral}
use Rattle.sexpr_text.specs.Bytes.{class_of, is_symbol_byte, is_content, is_quoted_content, is_quote, is_bar, word_of}
use Rattle.sexpr_text.specs.Front.{front_of, front_by, number_front, literal_front, radix_front, keyword_front, string_front, quoted_front, enclosed_by, is_numeral, is_decimal, is_binary_digit, undoubled, content_len, atom}
use Rattle.sexpr_text.specs.Legal.{is_legal, is_legal_layer}
use Rattle.sexpr_text.specs.Lexis.{Lexed, Ended, Broken, Next, lexed_after, lexed_from}
use Rattle.sexpr_text.specs.declared.class.Class.{Class}
use Rattle.sexpr_text.specs.declared.class.Class.TheVariants as class
use Rattle.sexpr_text.specs.declared.tree.Sexpr.{Sexpr}
use Rattle.sexpr_text.specs.declared.tree.Sexpr.TheVariants as sexpr
use Rattle.sexpr_text.specs.declared.tree.Sexpr.TheVariants.{rolls-Numeral, rolls-Decimal, rolls-Hex, rolls-Binary, rolls-Str, rolls-Symbol, rolls-Keyword}
use Rattle.sexpr_text.specs.declared.tree.Sexpr.TheFolds.{fold-roll-Sexpr}
use Rattle.sexpr_text.specs.declared.tree.Sexpr.TheOpen.{Sexpr-F}
use Rattle.sexpr_text.specs.declared.token.Token.TheVariants.{Open, Close, Atom}
use Rattle.sexpr_text.specs.declared.token.Front.{Front}
use Rattle.sexpr_text.specs.declared.token.Front.TheVariants as front
use Rattle.sexpr_text.proofs.Spelling.{IsAtom, numeral_is_atom, decimal_is_atom, hex_is_atom, binary_is_atom, str_is_atom, symbol_is_atom, keyword_is_atom}

pub legal-Numeral : (text : List ℕ) → is_legal (sexpr.Numeral text) ≡ is_numeral text
legal-Numeral text = ap is_legal (sym (rolls-Numeral text)) ∙ fold-roll-Sexpr Bool is_legal_layer (Sexpr-F.Numeral text)

pub legal-Decimal : (text : List ℕ) → is_legal (sexpr.Decimal text) ≡ is_decimal text
legal-Decimal text = ap is_legal (sym (rolls-Decimal text)) ∙ fold-roll-Sexpr Bool is_legal_layer (Sexpr-F.Decimal text)

pub legal-Hex : (text : List ℕ) → is_legal (sexpr.Hex text) ≡ (ltb 0 (length text) && list_all is_ascii_hexdigit text)
legal-Hex text = ap is_legal (sym (rolls-Hex text)) ∙ fold-roll-Sexpr Bool is_legal_layer (Sexpr-F.Hex text)

pub legal-Binary : (text : List ℕ) → is_legal (sexpr.Binary text) ≡ (ltb 0 (length text) && list_all is_binary_digit text)
legal-Binary text = ap is_legal (sym (rolls-Binary text)) ∙ fold-roll-Sexpr Bool is_legal_layer (Sexpr-F.Binary text)

pub legal-Str : (text : List ℕ) → is_legal (sexpr.Str text) ≡ list_all is_content text
legal-Str text = ap is_legal (sym (rolls-Str text)) ∙ fold-roll-Sexpr Bool is_legal_layer (Sexpr-F.Str text)

pub legal-Symbol : (text : List ℕ) → is_legal (sexpr.Symbol text) ≡ list_all is_quoted_content text
legal-Symbol text = ap is_legal (sym (rolls-Symbol text)) ∙ fold-roll-Sexpr Bool is_legal_layer (Sexpr-F.Symbol text)

pub legal-Keyword : (text : List ℕ) → is_legal (sexpr.Keyword text) ≡ (ltb 0 (length text) && list_all is_symbol_byte text)
legal-Keyword text = ap is_legal (sym (rolls-Keyword text)) ∙ fold-roll-Sexpr Bool is_legal_layer (Sexpr-F.Keyword text)

-- a tree that is one token, with a text of its kind
pub record IsLegalAtom (tree : Sexpr) : Type 0 where
  pub atom : IsAtom tree
  pub legal : is_legal tree ≡ true

abbrev pub GivesAtom : Front → Type 0
GivesAtom (front.Blank len) = Unit {0}
GivesAtom (front.Token Open len) = Unit {0}
GivesAtom (front.Token Close len) = Unit {0}
GivesAtom (front.Token (Atom tree) len) = IsLegalAtom tree
GivesAtom (front.Fault kind before) = Unit {0}

pub symbol_is_quoted : (b : ℕ) → is_symbol_byte b ≡ true → is_quoted_content b ≡ true
unfolding is_symbol_byte is_quoted_content is_content
symbol_is_quoted b is = grind (arith, nat_tests)

pub all_more : (p q : ℕ → Bool) → ((b : ℕ) → p b ≡ true → q b ≡ true) → (bs : List ℕ) → list_all p bs ≡ true → list_all q bs ≡ true
all_more p q more [] all = refl
all_more p q more (b ∷ bs) all =
    let parts = and_parts (p b) (list_all p bs) all in rw (more b parts.0) (all_more p q more bs parts.1)

pub all_of_word : (p : ℕ → Bool) (bs : List ℕ) → list_all p (take (prefix_len p bs) bs) ≡ true
all_of_word p [] = refl
all_of_word p (b ∷ bs) =
    elim (p b) as (λ t. p b ≡ t → list_all p (take (cond t (1 + prefix_len p bs) 0) (b ∷ bs)) ≡ true) [
      | true ↦ λ here. rw (one-add (prefix_len p bs)) (rw here (all_of_word p bs))
      | false ↦ λ _. refl
    ] refl

all_or_stray : (p : ℕ → Bool) (bs : List ℕ) → (list_all p bs ≡ true) ⊎ (prefix_len (λ b. not (not (p b))) bs < length bs)
all_or_stray p [] = inl refl
all_or_stray p (b ∷ bs) =
    elim (p b) as (λ t. ((t && list_all p bs) ≡ true) ⊎ (cond (not (not t)) (1 + prefix_len (λ c. not (not (p c))) bs) 0 < length (b ∷ bs))) [
      | true ↦ elim (all_or_stray p bs) [ inl all ↦ inl all | inr stray ↦ inr (omega arith) ]
      | false ↦ inr (omega arith)
    ]

no_stray : (p : ℕ → Bool) (bs : List ℕ) → position (λ b. not (p b)) bs ≡ None → list_all p bs ≡ true
no_stray p bs none = elim (all_or_stray p bs) [ inl all ↦ all | inr stray ↦ let is : ltb (prefix_len (λ b. not (not (p b))) bs) (length bs) ≡ true = grind (arith, nat_tests) in cc ]

undoubled_all : (p : ℕ → Bool) (bs : List ℕ) → list_all p bs ≡ true → list_all p (undoubled bs) ≡ true
unfolding undoubled
undoubled_all p [] all = refl
undoubled_all p (b ∷ []) all = all
undoubled_all p (b ∷ c ∷ bs) all =
    let parts = and_parts (p b) (list_all p (c ∷ bs)) all in
    elim (is_quote b) as (λ t. list_all p (cond t (b ∷ undoubled bs) (b ∷ undoubled (c ∷ bs))) ≡ true) [
      | true ↦ rw parts.0 (undoubled_all p bs (and_parts (p c) (list_all p bs) parts.1).1)
      | false ↦ rw parts.0 (undoubled_all p (c ∷ bs) parts.1)
    ]

enclosed_gives : (stray : Option ℕ) (closed : Bool) (kind : FaultKind) (tree : Sexpr) (len : ℕ) → (stray ≡ None → IsLegalAtom tree) → GivesAtom (enclosed_by stray closed kind tree len)
enclosed_gives None true kind tree len legal = legal refl
enclosed_gives None false kind tree len legal = tt
enclosed_gives (Some at) closed kind tree len legal = tt

string_gives : (rest : List ℕ) → GivesAtom (string_front rest)
unfolding string_front
string_gives rest =
    let content = take (content_len rest) rest in
    enclosed_gives _ _ _ _ _ (λ none. record { atom = str_is_atom (undoubled content); legal = legal-Str (undoubled content) ∙ undoubled_all is_content content (no_stray is_content content none) })

quoted_gives : (rest : List ℕ) → GivesAtom (quoted_front rest)
unfolding quoted_front
quoted_gives rest =
    let content = before_first is_bar rest in
    enclosed_gives _ _ _ _ _ (λ none. record { atom = symbol_is_atom content; legal = legal-Symbol content ∙ no_stray is_quoted_content content none })

number_gives : (word : List ℕ) → GivesAtom (number_front word)
unfolding number_front
number_gives word =
    elim (is_numeral word) as (λ t. is_numeral word ≡ t → GivesAtom (cond t (atom (sexpr.Numeral word) (length word)) (cond (is_decimal word) (atom (sexpr.Decimal word) (length word)) (front.Fault BadNumeral 0)))) [
      | true ↦ λ is. record { atom = numeral_is_atom word; legal = legal-Numeral word ∙ is }
      | false ↦ λ _. elim (is_decimal word) as (λ t. is_decimal word ≡ t → GivesAtom (cond t (atom (sexpr.Decimal word) (length word)) (front.Fault BadNumeral 0))) [
        | true ↦ λ is. record { atom = decimal_is_atom word; legal = legal-Decimal word ∙ is }
        | false ↦ λ _. tt
      ] refl
    ] refl

-- a word that begins with a digit has a byte
some_digit : (p : ℕ → Bool) (word : List ℕ) → p 0 ≡ false → p (get_or word 0 0) ≡ true → ltb 0 (length word) ≡ true
some_digit p [] none here = cc
some_digit p (b ∷ bs) none here = grind (arith, nat_tests)

radix_gives : (is_digit : ℕ → Bool) (tree : Sexpr) (word : List ℕ) → is_digit 0 ≡ false → (ltb 0 (length word) ≡ true → list_all is_digit word ≡ true → IsLegalAtom tree) → GivesAtom (radix_front is_digit tree word)
unfolding radix_front
radix_gives is_digit tree word none legal =
    elim (is_digit (get_or word 0 0)) as (λ t. is_digit (get_or word 0 0) ≡ t → GivesAtom (cond t (cond (list_all is_digit word) (atom tree (length word + 2)) (front.Fault BadNumeral 0)) (front.Fault BadByte 0))) [
      | true ↦ λ here. elim (list_all is_digit word) as (λ t. list_all is_digit word ≡ t → GivesAtom (cond t (atom tree (length word + 2)) (front.Fault BadNumeral 0))) [
        | true ↦ λ all. legal (some_digit is_digit word none here) all
        | false ↦ λ _. tt
      ] refl
      | false ↦ λ _. tt
    ] refl

hex_gives : (word : List ℕ) → GivesAtom (radix_front is_ascii_hexdigit (sexpr.Hex word) word)
hex_gives word = radix_gives is_ascii_hexdigit (sexpr.Hex word) word refl (λ some all. record { atom = hex_is_atom word; legal = legal-Hex word ∙ rw (some, all) refl })

binary_gives : (word : List ℕ) → GivesAtom (radix_front is_binary_digit (sexpr.Binary word) word)
binary_gives word = radix_gives is_binary_digit (sexpr.Binary word) word refl (λ some all. record { atom = binary_is_atom word; legal = legal-Binary word ∙ rw (some, all) refl })

literal_gives : (rest : List ℕ) → GivesAtom (literal_front rest)
unfolding literal_front
literal_gives rest =
    let word = word_of (drop 1 rest) in
    elim (eqb (get_or rest 0 0) 120) as (λ t. GivesAtom (cond t (radix_front is_ascii_hexdigit (sexpr.Hex word) word) (cond (eqb (get_or rest 0 0) 98) (radix_front is_binary_digit (sexpr.Binary word) word) (front.Fault BadByte 0)))) [
      | true ↦ hex_gives word
      | false ↦ elim (eqb (get_or rest 0 0) 98) as (λ t. GivesAtom (cond t (radix_front is_binary_digit (sexpr.Binary word) word) (front.Fault BadByte 0))) [ true ↦ binary_gives word | false ↦ tt ]
    ]

keyword_gives : (bytes : List ℕ) → GivesAtom (keyword_front (word_of bytes))
unfolding keyword_front
keyword_gives bytes =
    let word = word_of bytes in
    elim (ltb 0 (length word)) as (λ t. ltb 0 (length word) ≡ t → GivesAtom (cond t (atom (sexpr.Keyword word) (length word + 1)) (front.Fault BadByte 0))) [
      | true ↦ λ some. record { atom = keyword_is_atom word; legal = legal-Keyword word ∙ rw (some, all_of_word is_symbol_byte bytes) refl }
      | false ↦ λ _. tt
    ] refl

word_gives : (bytes : List ℕ) → IsLegalAtom (sexpr.Symbol (word_of bytes))
word_gives bytes = record { atom = symbol_is_atom (word_of bytes); legal = legal-Symbol (word_of bytes) ∙ all_more is_symbol_byte is_quoted_content symbol_is_quoted (word_of bytes) (all_of_word is_symbol_byte bytes) }

by_class : (k : Class) (bytes : List ℕ) → GivesAtom (front_by k bytes)
by_class class.Blank bytes = tt
by_class class.Comment bytes = tt
by_class class.Open bytes = tt
by_class class.Close bytes = tt
by_class class.Quote bytes = string_gives (drop 1 bytes)
by_class class.Bar bytes = quoted_gives (drop 1 bytes)
by_class class.Digit bytes = number_gives (word_of bytes)
by_class class.Hash bytes = literal_gives (drop 1 bytes)
by_class class.Colon bytes = keyword_gives (drop 1 bytes)
by_class class.Symbol bytes = word_gives bytes
by_class class.Other bytes = tt

-- the tokens of a text are brackets and legal atoms
abbrev pub HaveLegalAtoms : Lexed → Type 0
HaveLegalAtoms Ended = Unit {0}
HaveLegalAtoms (Broken refusal) = Unit {0}
HaveLegalAtoms (Next placed rest) = ((tree : Sexpr) → placed.token ≡ Atom tree → IsLegalAtom tree) × HaveLegalAtoms rest

after_gives : (at : ℕ) (f : Front) (rest : ℕ → Lexed) → GivesAtom f → ((len : ℕ) → HaveLegalAtoms (rest len)) → HaveLegalAtoms (lexed_after at f rest)
after_gives at (front.Blank len) rest gives more = more len
after_gives at (front.Token Open len) rest gives more = (λ tree is. cc, more len)
after_gives at (front.Token Close len) rest gives more = (λ tree is. cc, more len)
after_gives at (front.Token (Atom tree) len) rest gives more = (λ other is. let same : tree ≡ other = cc in subst IsLegalAtom same gives, more len)
after_gives at (front.Fault kind before) rest gives more = tt

pub lexed_gives : (skip at : ℕ) (bytes : List ℕ) → HaveLegalAtoms (lexed_from skip at bytes)
unfolding lexed_from front_of
lexed_gives skip at [] = tt
lexed_gives (suc skip) at (b ∷ bs) = lexed_gives skip (at + 1) bs
lexed_gives zero at (b ∷ bs) = after_gives at (front_of (b ∷ bs)) _ (by_class (class_of b) (b ∷ bs)) (λ len. lexed_gives (len - 1) (at + 1) bs)
