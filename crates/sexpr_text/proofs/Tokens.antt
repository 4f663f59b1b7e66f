-- The tokens of a text, in any place: what a byte or an atom adds, and where none is a fault.
use Rattle.std.proofs.Common.{◌≡◌, ℕ, ◌+◌, ◌-◌, ◌<◌, ◌≤◌, false, cond, eqb, max, List, [], ◌∷◌, ◌++◌, map, length, drop, None, Some, refl, sym, ap, ◌∙◌, subst, arith, ◌⊎◌}
use Rattle.std.proofs.lemmas.Bool.Decides.{nat_tests}
use Rattle.mbqi_values.specs.declared.fault.FaultKind.TheVariants.{Unopened, TooDeep}
use Rattle.sexpr_text.specs.Bytes.{class_of, is_symbol_byte}
use Rattle.sexpr_text.specs.Front.{front_of}
use Rattle.sexpr_text.specs.Lexis.{Placed, Lexed, Ended, Next, lexed, lexed_after, lexed_from, tokens_of, fault_from, open_limit}
use Rattle.sexpr_text.specs.Forms.{SpellForms, HaveForms}
use Rattle.sexpr_text.specs.declared.tree.Form.{Form}
use Rattle.sexpr_text.specs.declared.tree.Sexpr.{Sexpr}
use Rattle.sexpr_text.specs.declared.token.Token.{Token}
use Rattle.sexpr_text.specs.declared.token.Token.TheVariants.{Open, Close, Atom}
use Rattle.sexpr_text.specs.declared.token.Front.TheVariants as front
use Rattle.sexpr_text.proofs.Fronts.{IsDelimited}
use Rattle.sexpr_text.proofs.Soundness.{token_of}
use Rattle.sexpr_text.proofs.Turns.{behind_first}

-- tokens before others
abbrev pub before : List Placed → Lexed → Lexed
before [] rest = rest
before (placed ∷ more) rest = Next placed (before more rest)

pub before-append : (xs ys : List Placed) (rest : Lexed) → before (xs ++ ys) rest ≡ before xs (before ys rest)
before-append [] ys rest = refl
before-append (x ∷ xs) ys rest = ap (Next x) (before-append xs ys rest)

pub tokens-before : (own : List Placed) → tokens_of (before own Ended) ≡ own
tokens-before [] = refl
tokens-before (placed ∷ own) = ap (λ more. placed ∷ more) (tokens-before own)

-- no token of these is a fault, in a place where `depth` more brackets may be open
abbrev pub AreFaultless : List Placed → ℕ → Type 0
AreFaultless own depth = (rest : Lexed) (d o : ℕ) → d + depth ≤ open_limit → (p : ℕ) × (fault_from d o (before own rest) ≡ fault_from d p rest)

-- the text at a place, before the rest, has these tokens
pub record TextHas (text : List ℕ) (tokens : List Token) (depth at : ℕ) (rest : List ℕ) : Type 0 where
  pub own : List Placed
  pub lexes : lexed_from 0 at (text ++ rest) ≡ before own (lexed_from 0 (at + length text) rest)
  pub tokens_are : map token_of own ≡ tokens
  pub faultless : AreFaultless own depth

-- a text that is one atom at its front
pub atom_tokens : (at : ℕ) (token : Token) (len : ℕ) (bytes : List ℕ) → 0 < len → 0 < length bytes → front_of bytes ≡ front.Token token len →
    lexed_from 0 at bytes ≡ Next (record { token = token; from = at; to = at + len }) (lexed_from 0 (at + len) (drop len bytes))
unfolding lexed_from
atom_tokens at token len [] some any is = absurd (omega arith)
atom_tokens at token len (b ∷ bs) some any is =
    ap (λ f. lexed_after at f (λ n. lexed_from (n - 1) (at + 1) bs)) is ∙ ap (Next (record { token = token; from = at; to = at + len })) (behind_first len at b bs some)

pub atom_faultless : (tree : Sexpr) (from to : ℕ) → AreFaultless (record { token = Atom tree; from = from; to = to } ∷ []) 0
unfolding fault_from
atom_faultless tree from to rest d o within = (o, refl)

-- one byte that is a token or white space
pub blank_first : (at : ℕ) (bytes : List ℕ) → lexed_from 0 at (32 ∷ bytes) ≡ lexed_from 0 (at + 1) bytes
unfolding lexed_from front_of class_of
blank_first at bytes = refl

pub line_first : (at : ℕ) (bytes : List ℕ) → lexed_from 0 at (10 ∷ bytes) ≡ lexed_from 0 (at + 1) bytes
unfolding lexed_from front_of class_of
line_first at bytes = refl

pub open_first : (at : ℕ) (bytes : List ℕ) → lexed_from 0 at (40 ∷ bytes) ≡ Next (record { token = Open; from = at; to = at + 1 }) (lexed_from 0 (at + 1) bytes)
unfolding lexed_from front_of class_of
open_first at bytes = refl

pub close_first : (at : ℕ) (bytes : List ℕ) → lexed_from 0 at (41 ∷ bytes) ≡ Next (record { token = Close; from = at; to = at + 1 }) (lexed_from 0 (at + 1) bytes)
unfolding lexed_from front_of class_of
close_first at bytes = refl

-- no byte
pub lexed-end : (at : ℕ) → lexed_from 0 at [] ≡ Ended
unfolding lexed_from
lexed-end at = refl

-- bytes that end an atom
pub delimits : (b : ℕ) (bytes : List ℕ) → (b ≡ 32) ⊎ (b ≡ 41) → IsDelimited (b ∷ bytes)
unfolding is_symbol_byte
delimits b bytes is = record { no_symbol = grind (arith, nat_tests); no_quote = grind (arith, nat_tests) }

pub at_line_end : (bytes : List ℕ) → IsDelimited (10 ∷ bytes)
unfolding is_symbol_byte
at_line_end bytes = record { no_symbol = refl; no_quote = refl }

-- tokens behind tokens
pub both_faultless : (xs ys : List Placed) (m n : ℕ) → AreFaultless xs m → AreFaultless ys n → AreFaultless (xs ++ ys) (max m n)
both_faultless xs ys m n first second rest d o within =
    let one = first (before ys rest) d o (omega arith) in
    let two = second rest d one.0 (omega arith) in
    (two.0, ap (fault_from d o) (before-append xs ys rest) ∙ one.1 ∙ two.1)

-- a list of tokens between brackets
below_limit : (d depth : ℕ) → d + (1 + depth) ≤ open_limit → eqb d open_limit ≡ false
below_limit d depth within = grind (arith, nat_tests)

some_open : (d : ℕ) → eqb (d + 1) 0 ≡ false
some_open d = grind (arith, nat_tests)

pub list_faultless : (inner : List Placed) (depth a b c e : ℕ) → AreFaultless inner depth →
    AreFaultless (record { token = Open; from = a; to = b } ∷ (inner ++ record { token = Close; from = c; to = e } ∷ [])) (1 + depth)
unfolding fault_from
list_faultless inner depth a b c e parts rest d o within =
    let close : Placed = record { token = Close; from = c; to = e } in
    let o' = cond (eqb d 0) a o in
    let one = parts (Next close rest) (d + 1) o' (omega arith) in (
      one.0,
      ap (λ t. cond t (Some (record { at = a; kind = TooDeep })) (fault_from (d + 1) o' (before (inner ++ close ∷ []) rest))) (below_limit d depth within)
          ∙ ap (fault_from (d + 1) o') (before-append inner (close ∷ []) rest) ∙ one.1
          ∙ ap (λ t. cond t (Some (record { at = c; kind = Unopened })) (fault_from (d + 1 - 1) one.0 rest)) (some_open d)
          ∙ ap (λ n. fault_from n one.0 rest) (omega arith),
    )

-- fewer open brackets
pub within_limit : (own : List Placed) (depth : ℕ) → depth ≤ open_limit → AreFaultless own depth → AreFaultless own open_limit
within_limit own depth small faultless rest d o within = faultless rest d o (omega arith)

none_open : (o : ℕ) → fault_from 0 o Ended ≡ None
unfolding fault_from
none_open o = refl

-- a text is read as the forms whose tokens it has
pub have_forms : (bytes : List ℕ) (own : List Placed) (depth : ℕ) (forms : List Form) → lexed bytes ≡ before own Ended → AreFaultless own depth → depth ≤ open_limit → SpellForms own forms → HaveForms bytes forms
have_forms bytes own depth forms is faultless within spelled = record {
  faultless = ap (fault_from 0 0) is ∙ (faultless Ended 0 0 (omega arith)).1 ∙ none_open _;
  spelled = subst (λ tokens. SpellForms tokens forms) (sym (ap tokens_of is ∙ tokens-before own)) spelled;
}
