-- Pieces that are written one behind the other.
use Rattle.std.proofs.Common.{◌≡◌, ℕ, List, ◌++◌, Result, Ok, Err, OnErr, length, take, append_assoc, subst}
use Rattle.smtlib_printer.proofs.Fronts.{behind}

three : (old a b c : List ℕ) → ((old ++ a) ++ b) ++ c ≡ old ++ (a ++ (b ++ c))
three old a b c = simp append_assoc

pub three_pieces : (old v w a b c text : List ℕ) → v ≡ old ++ a → w ≡ v ++ b → text ≡ a ++ (b ++ c) → w ++ c ≡ old ++ text
three_pieces old v w a b c text p q r = cc (three old a b c)

-- a call that fails behind one piece
pub behind_one : {T E : Type 0} (r : Result T E) (new old u a : List ℕ) → u ≡ old ++ a → take (length u) new ≡ u → OnErr r (take (length old) new ≡ old)
behind_one (Ok x) new old u a p e = tt
behind_one (Err x) new old u a p e = (behind new old a (subst (λ (w : List ℕ). take (length w) new ≡ w) p e)).1
