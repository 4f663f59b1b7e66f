use Rattle.std.specs.Prelude.{ℕ, zero, suc, ◌+◌, ◌-◌, ◌==◌, List, [], ◌∷◌, Option, None, Some, if◌then◌else◌}
use Rattle.mbqi_values.specs.declared.fault.FaultKind.TheVariants.{Unopened, Unclosed, TooDeep}
use Rattle.mbqi_values.specs.declared.fault.Refusal.{Refusal}
use Rattle.sexpr_text.specs.Front.{front_of}
use Rattle.sexpr_text.specs.declared.token.Token.{Token}
use Rattle.sexpr_text.specs.declared.token.Token.TheVariants.{Open, Close, Atom}
use Rattle.sexpr_text.specs.declared.token.Front.{Front}
use Rattle.sexpr_text.specs.declared.token.Front.TheVariants as front

-- A token with the place of its first byte and the place behind its last one.
pub record Placed : Type 0 where
  pub token : Token
  pub from : ℕ
  pub to : ℕ

-- The tokens of a text up to its end, or up to the first byte that is no part of a token or white space.
pub data Lexed : Type 0 where
  Ended : Lexed
  Broken : Refusal → Lexed
  Next : Placed → Lexed → Lexed

abbrev pub lexed_after : ℕ → Front → (ℕ → Lexed) → Lexed
lexed_after at (front.Blank len) rest = rest len
lexed_after at (front.Token token len) rest = Next (record { token = token; from = at; to = at + len }) (rest len)
lexed_after at (front.Fault kind before) rest = Broken (record { at = at + before; kind = kind })

-- The tokens of the bytes, of which the first stands at place `at`, behind the next `skip` bytes.
unfoldable pub lexed_from : ℕ → ℕ → List ℕ → Lexed
lexed_from skip at [] = Ended
lexed_from (suc skip) at (b ∷ bs) = lexed_from skip (at + 1) bs
lexed_from zero at (b ∷ bs) = lexed_after at (front_of (b ∷ bs)) (λ len. lexed_from (len - 1) (at + 1) bs)

abbrev pub lexed : List ℕ → Lexed
lexed bytes = lexed_from 0 0 bytes

abbrev pub tokens_of : Lexed → List Placed
tokens_of Ended = []
tokens_of (Broken refusal) = []
tokens_of (Next placed rest) = placed ∷ tokens_of rest

-- How many brackets may be open at one place (this project's own limit).
abbrev pub open_limit : ℕ
open_limit = 1000

-- The first fault from a token on, where `rest` gives that of the tokens behind it.
abbrev pub fault_at : ℕ → ℕ → ℕ → Token → (ℕ → ℕ → Option Refusal) → Option Refusal
fault_at depth outermost at Open rest =
    if depth == open_limit then Some (record { at = at; kind = TooDeep })
    else rest (depth + 1) (if depth == 0 then at else outermost)
fault_at depth outermost at Close rest =
    if depth == 0 then Some (record { at = at; kind = Unopened }) else rest (depth - 1) outermost
fault_at depth outermost at (Atom tree) rest = rest depth outermost

-- The first fault in reading order (this project's own kinds), where `depth` brackets are open before the
-- tokens, and the outermost of them stands at `outermost`.
unfoldable pub fault_from : ℕ → ℕ → Lexed → Option Refusal
fault_from depth outermost Ended = if depth == 0 then None else Some (record { at = outermost; kind = Unclosed })
fault_from depth outermost (Broken refusal) = Some refusal
fault_from depth outermost (Next placed rest) =
    fault_at depth outermost placed.from placed.token (λ d o. fault_from d o rest)

-- The first fault of a text, if it has one.
abbrev pub first_fault : List ℕ → Option Refusal
first_fault bytes = fault_from 0 0 (lexed bytes)
