-- The tokens from a place on: what stands at the front there, and the tokens behind it.
use Rattle.std.proofs.Common.{◌≡◌, ℕ, zero, suc, ◌+◌, ◌-◌, ◌<◌, ◌≤◌, List, [], ◌∷◌, length, drop, refl, sym, ap, ◌∙◌, arith, drop-drop, drop-cons, Err}
use Rattle.std.proofs.lemmas.List.{drop_all}
use Rattle.mbqi_values.specs.declared.fault.FaultKind.{FaultKind}
use Rattle.mbqi_values.specs.declared.fault.Refusal.{Refusal}
use Rattle.sexpr_text.specs.Front.{front_of}
use Rattle.sexpr_text.specs.Lexis.{Placed, Lexed, Broken, Next, lexed_after, lexed_from}
use Rattle.sexpr_text.specs.Reading.{read_from, step_by, then_read, finished_in}
use Rattle.sexpr_text.specs.declared.reader.Reader.{Reader}
use Rattle.sexpr_text.specs.declared.token.Token.{Token}
use Rattle.sexpr_text.specs.declared.token.Front.{Front}
use Rattle.sexpr_text.specs.declared.token.Front.TheVariants as front

pub skipped : (skip at : ℕ) (bs : List ℕ) → lexed_from skip at bs ≡ lexed_from 0 (at + skip) (drop skip bs)
unfolding lexed_from
skipped zero at [] = refl
skipped (suc skip) at [] = refl
skipped zero at (b ∷ bs) = ap (λ n. lexed_from 0 n (b ∷ bs)) (omega arith)
skipped (suc skip) at (b ∷ bs) = skipped skip (at + 1) bs ∙ ap (λ n. lexed_from 0 n (drop skip bs)) (omega arith)

-- the bytes behind the first `len` of a text that has a first one
pub behind_first : (len at : ℕ) (b : ℕ) (bs : List ℕ) → 0 < len → lexed_from (len - 1) (at + 1) bs ≡ lexed_from 0 (at + len) (drop len (b ∷ bs))
behind_first zero at b bs some = absurd (omega arith)
behind_first (suc len) at b bs some = ap (λ n. lexed_from n (at + 1) bs) (omega arith) ∙ skipped len (at + 1) bs ∙ ap (λ n. lexed_from 0 n (drop len bs)) (omega arith)

-- the same from a place on
behind : (len at : ℕ) (b : ℕ) (bs bytes : List ℕ) → drop at bytes ≡ b ∷ bs → 0 < len → lexed_from (len - 1) (at + 1) bs ≡ lexed_from 0 (at + len) (drop (at + len) bytes)
behind len at b bs bytes is some = behind_first len at b bs some ∙ ap (λ text. lexed_from 0 (at + len) (drop len text)) (sym is) ∙ ap (lexed_from 0 (at + len)) (drop-drop len at bytes)

at_front : (at : ℕ) (b : ℕ) (bs bytes : List ℕ) (f : Front) → drop at bytes ≡ b ∷ bs → f ≡ front_of (drop at bytes) → lexed_from 0 at (drop at bytes) ≡ lexed_after at f (λ len. lexed_from (len - 1) (at + 1) bs)
unfolding lexed_from
at_front at b bs bytes f is front = ap (lexed_from 0 at) is ∙ ap (λ text. lexed_after at (front_of text) (λ len. lexed_from (len - 1) (at + 1) bs)) (sym is) ∙ ap (λ g. lexed_after at g (λ len. lexed_from (len - 1) (at + 1) bs)) (sym front)

pub after_blank : (at len : ℕ) (bytes : List ℕ) → at < length bytes → front.Blank len ≡ front_of (drop at bytes) → 0 < len → lexed_from 0 at (drop at bytes) ≡ lexed_from 0 (at + len) (drop (at + len) bytes)
after_blank at len bytes lt front some =
    let is = drop-cons bytes at 0 lt in
    at_front at _ _ bytes _ is front ∙ behind len at _ _ bytes is some

pub after_token : (at len : ℕ) (token : Token) (bytes : List ℕ) → at < length bytes → front.Token token len ≡ front_of (drop at bytes) → 0 < len → lexed_from 0 at (drop at bytes) ≡ Next (record { token = token; from = at; to = at + len }) (lexed_from 0 (at + len) (drop (at + len) bytes))
after_token at len token bytes lt front some =
    let is = drop-cons bytes at 0 lt in
    at_front at _ _ bytes _ is front ∙ ap (Next (record { token = token; from = at; to = at + len })) (behind len at _ _ bytes is some)

pub after_fault : (at before : ℕ) (kind : FaultKind) (bytes : List ℕ) → at < length bytes → front.Fault kind before ≡ front_of (drop at bytes) → lexed_from 0 at (drop at bytes) ≡ Broken (record { at = at + before; kind = kind })
after_fault at before kind bytes lt front = at_front at _ _ bytes _ (drop-cons bytes at 0 lt) front

pub read_next : (reader : Reader) (placed : Placed) (rest : Lexed) → read_from reader (Next placed rest) ≡ then_read (step_by reader placed.token placed.from placed.to) (λ next. read_from next rest)
unfolding read_from
read_next reader placed rest = refl

pub read_broken : (reader : Reader) (refusal : Refusal) → read_from reader (Broken refusal) ≡ Err refusal
unfolding read_from
read_broken reader refusal = refl

pub read_end : (reader : Reader) (at : ℕ) (bytes : List ℕ) → length bytes ≤ at → read_from reader (lexed_from 0 at (drop at bytes)) ≡ finished_in reader.forms reader.outermost reader.rows
unfolding read_from lexed_from
read_end reader at bytes past = rw (drop_all at bytes past) refl
