-- What `memchr` finds, in the words of std's lists, and the content of a string from one quote to the next.
use Rattle.std.proofs.Common.{◌≡◌, ℕ, suc, ◌+◌, ◌<◌, Bool, true, false, cond, not, List, [], ◌∷◌, length, drop, take, get_or, Option, None, Some, unwrap_or, refl, sym, ap, ◌∙◌, arith, add-one, one-add, drop-cons, get_or-drop}
use Rattle.std.specs.List.{position_or_len}
use Rattle.std.proofs.lemmas.List.Sums.{position_or_len_is}
use Rattle.std.proofs.lemmas.List.Folds.{length-prefix_len}
use Rattle.std.proofs.lemmas.List.{drop_all, drop-drop}
use Rattle.memchr.specs.Find.{IsFirstByte, is_byte}
use Rattle.sexpr_text.specs.Bytes.{is_quote, is_symbol_byte, word_of}
use Rattle.sexpr_text.specs.Front.{content_len, undoubled}

false_when : (b : Bool) → (b ≡ true → ⊥) → b ≡ false
false_when true absent = absurd (absent refl)
false_when false absent = refl

-- the first byte that is a, or the end
pub first_byte : (a : ℕ) (bytes : List ℕ) (r : Option ℕ) → IsFirstByte (is_byte a) bytes r → unwrap_or r (length bytes) ≡ position_or_len (is_byte a) bytes
first_byte a bytes None none = sym (position_or_len_is (is_byte a) bytes (length bytes) 0 (omega arith) (λ k lt. false_when _ (none k (omega arith) lt)) (λ lt. absurd (omega arith)))
first_byte a bytes (Some at) found =
    sym (position_or_len_is (is_byte a) bytes at 0 (omega (arith, found.0.high)) (λ k lt. false_when _ (found.0.before k (omega arith) lt)) (λ _. found.1))

pub whole_word : (bytes : List ℕ) → take (length (word_of bytes)) bytes ≡ word_of bytes
whole_word bytes = ap (λ n. take n bytes) (length-prefix_len is_symbol_byte bytes)

pub some_word : (bytes : List ℕ) → is_symbol_byte (get_or bytes 0 0) ≡ true → 0 < length bytes → 0 < length (word_of bytes)
some_word [] begins some = absurd (omega arith)
some_word (b ∷ bs) begins some = rw (length-prefix_len is_symbol_byte (b ∷ bs)) (rw begins (omega arith))

-- what a string's content has behind a quote
abbrev pub behind_quote : List ℕ → ℕ
behind_quote bs = cond (is_quote (get_or bs 0 0)) (2 + content_len (drop 1 bs)) 0

pub other_first : (b : ℕ) (bs : List ℕ) → is_quote b ≡ false → content_len (b ∷ bs) ≡ 1 + content_len bs
unfolding content_len
other_first b [] other = rw other refl
other_first b (c ∷ bs) other = rw other refl

pub quote_first : (b : ℕ) (bs : List ℕ) → is_quote b ≡ true → content_len (b ∷ bs) ≡ behind_quote bs
unfolding content_len
quote_first b [] quote = rw quote refl
quote_first b (c ∷ bs) quote = rw quote refl

-- up to the first quote, the content is what stands there
to_quote : (bs : List ℕ) → content_len bs ≡ position_or_len is_quote bs + content_len (drop (position_or_len is_quote bs) bs)
unfolding content_len
to_quote [] = refl
to_quote (b ∷ bs) =
    elim (is_quote b) as (λ t. is_quote b ≡ t → content_len (b ∷ bs) ≡ cond (not t) (1 + position_or_len is_quote bs) 0 + content_len (drop (cond (not t) (1 + position_or_len is_quote bs) 0) (b ∷ bs))) [
      | true ↦ λ quote. omega arith
      | false ↦ λ other. rw (other_first b bs other) (rw (one-add (position_or_len is_quote bs)) (omega (arith, to_quote bs)))
    ] refl

-- a content with no quote is all of the rest
pub unquoted : (bs : List ℕ) → IsFirstByte (is_byte 34) bs None → content_len bs ≡ length bs
unfolding content_len
unquoted bs none =
    let all : length bs ≡ position_or_len is_quote bs = first_byte 34 bs None none in
    to_quote bs ∙ rw (← all) (rw (drop_all (length bs) bs (omega arith)) (omega arith))

-- the content up to the first quote, and what it has behind that
quoted : (bs : List ℕ) (q : ℕ) → IsFirstByte (is_byte 34) bs (Some q) → content_len bs ≡ q + behind_quote (drop (q + 1) bs)
quoted bs q found =
    let here : q ≡ position_or_len is_quote bs = first_byte 34 bs (Some q) found in
    to_quote bs ∙ rw (← here) (ap (λ n. q + n) (ap content_len (drop-cons bs q 0 found.0.high) ∙ quote_first _ _ found.1 ∙ rw (← add-one q) refl))

head_behind : (rest : List ℕ) (at q : ℕ) → get_or (drop (q + 1) (drop at rest)) 0 0 ≡ get_or rest (at + q + 1) 0
head_behind rest at q = get_or-drop (q + 1) (drop at rest) 0 0 ∙ get_or-drop at rest (q + 1 + 0) 0 ∙ ap (λ i. get_or rest i 0) (omega arith)

pub closes : (rest : List ℕ) (at q : ℕ) → IsFirstByte (is_byte 34) (drop at rest) (Some q) → is_quote (get_or rest (at + q + 1) 0) ≡ false → content_len (drop at rest) ≡ q
closes rest at q found ends =
    let after = drop (q + 1) (drop at rest) in
    quoted (drop at rest) q found ∙ ap (λ t. q + cond t (2 + content_len (drop 1 after)) 0) (ap is_quote (head_behind rest at q) ∙ ends) ∙ omega arith

pub goes_on : (rest : List ℕ) (at q : ℕ) → IsFirstByte (is_byte 34) (drop at rest) (Some q) → is_quote (get_or rest (at + q + 1) 0) ≡ true → content_len (drop at rest) ≡ q + 2 + content_len (drop (at + q + 1 + 1) rest)
goes_on rest at q found goes =
    let after = drop (q + 1) (drop at rest) in
    let there : drop 1 after ≡ drop (at + q + 1 + 1) rest = drop-drop 1 (q + 1) (drop at rest) ∙ drop-drop (q + 1 + 1) at rest ∙ ap (λ n. drop n rest) (omega arith) in
    quoted (drop at rest) q found ∙ ap (λ t. q + cond t (2 + content_len (drop 1 after)) 0) (ap is_quote (head_behind rest at q) ∙ goes) ∙ ap (λ n. q + (2 + content_len n)) there ∙ omega arith

pub undoubled-cons : (b : ℕ) (bs : List ℕ) → undoubled (b ∷ bs) ≡ b ∷ undoubled (drop (cond (is_quote b) 1 0) bs)
unfolding undoubled
undoubled-cons b [] = elim (is_quote b) as (λ t. b ∷ [] ≡ b ∷ undoubled (drop (cond t 1 0) [])) [ true ↦ refl | false ↦ refl ]
undoubled-cons b (c ∷ bs) = elim (is_quote b) as (λ t. cond t (b ∷ undoubled bs) (b ∷ undoubled (c ∷ bs)) ≡ b ∷ undoubled (drop (cond t 1 0) (c ∷ bs))) [ true ↦ refl | false ↦ refl ]

pub undoubled_at : (bs : List ℕ) (at : ℕ) → at < length bs → undoubled (drop at bs) ≡ get_or bs at 0 ∷ undoubled (drop (at + cond (is_quote (get_or bs at 0)) 2 1) bs)
undoubled_at bs at lt =
    ap undoubled (drop-cons bs at 0 lt) ∙ undoubled-cons (get_or bs at 0) (drop (suc at) bs)
    ∙ ap (λ text. get_or bs at 0 ∷ undoubled text) (elim (is_quote (get_or bs at 0)) as (λ t. drop (cond t 1 0) (drop (suc at) bs) ≡ drop (at + cond t 2 1) bs) [
      | true ↦ drop-drop 1 (suc at) bs ∙ ap (λ n. drop n bs) (omega arith)
      | false ↦ drop-drop 0 (suc at) bs ∙ ap (λ n. drop n bs) (omega arith)
    ])
