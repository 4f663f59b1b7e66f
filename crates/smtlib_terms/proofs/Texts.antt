-- Texts that are one, and texts that differ.
use Rattle.std.proofs.Common.{◌≡◌, ◌≢◌, ℕ, Bool, true, false, List, refl}
use Rattle.std.proofs.lemmas.Slice.Eq.{bytes_eq-Decides}
use Rattle.smtlib_terms.specs.Words.{is_text}

pub same_text : (a b : List ℕ) → is_text a b ≡ true → a ≡ b
same_text a b = (bytes_eq-Decides a b).0

pub own_text : (a : List ℕ) → is_text a a ≡ true
own_text a = (bytes_eq-Decides a a).1 refl

pub other_text : (a b : List ℕ) → a ≢ b → is_text a b ≡ false
other_text a b differ = go (is_text a b) refl
  where
    go : (t : Bool) → is_text a b ≡ t → is_text a b ≡ false
    go true e = absurd (differ (same_text a b e))
    go false e = e
