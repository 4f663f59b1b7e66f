-- What a vector begins with after want of memory.
use Rattle.std.proofs.Common.{◌≡◌, List, ℕ, [], ◌∷◌, ◌++◌, Result, Ok, Err, OnErr, length, take, refl, ◌∙◌}

-- The last call's vector begins with what that call was handed, which has what was held before in front.
front_of_front : (new mid old rest : List ℕ) → take (length mid) new ≡ mid → mid ≡ old ++ rest → take (length old) new ≡ old
front_of_front new mid [] rest e f = refl
front_of_front new [] (b ∷ old) rest e f = cc
front_of_front [] (a ∷ mid) (b ∷ old) rest e f = cc
front_of_front (c ∷ new) (a ∷ mid) (b ∷ old) rest e f =
    let tails : take (length mid) new ≡ mid = cc in
    let more : mid ≡ old ++ rest = cc in
    let front = front_of_front new mid old rest tails more in
    cc

-- The same, in the form that `grind` applies: the first equation is the premise.
pub behind : (new old rest : List ℕ) → take (length (old ++ rest)) new ≡ old ++ rest → (take (length (old ++ rest)) new ≡ old ++ rest) × (take (length old) new ≡ old)
behind new old rest e = (e, front_of_front new (old ++ rest) old rest e refl)

-- a call that fails behind three pieces, and behind five
pub behind_three : {T E : Type 0} (r : Result T E) (new old u v w a b c : List ℕ) → u ≡ old ++ a → v ≡ u ++ b → w ≡ v ++ c → take (length w) new ≡ w → OnErr r (take (length old) new ≡ old)
behind_three (Ok x) new old u v w a b c p q s e = tt
behind_three (Err x) new old u v w a b c p q s e =
    front_of_front new u old a (front_of_front new v u b (front_of_front new w v c e s) q) p

pub behind_five : {T E : Type 0} (r : Result T E) (new old u v w x y a b c d f : List ℕ) → u ≡ old ++ a → v ≡ u ++ b → w ≡ v ++ c → x ≡ w ++ d → y ≡ x ++ f → take (length y) new ≡ y → OnErr r (take (length old) new ≡ old)
behind_five (Ok z) new old u v w x y a b c d f p q s t k e = tt
behind_five (Err z) new old u v w x y a b c d f p q s t k e =
    front_of_front new u old a (front_of_front new v u b (front_of_front new w v c (front_of_front new x w d (front_of_front new y x f e k) t) s) q) p
