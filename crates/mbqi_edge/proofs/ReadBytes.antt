use Rattle.std.proofs.Common.{ℕ, ◌≡◌, ◌+◌, ◌≤◌, List, [], ◌++◌, Option, refl, sym, arith, append-nil, length-append}
use Rattle.std.proofs.lemmas.Grind.{common_steps}
use Rattle.std.proofs.KnownBytes.{Consumes-nil, Consumes-trans}
use Rattle.mbqi_edge.specs.Reading.{Adds, TakesCount, TakesAtMost}

-- What a reader has left, before, between and now.
-- Nothing is taken at first.
pub Adds-none : (a : Option (List ℕ)) (old : List ℕ) → Adds a a 0 old old
Adds-none a old = ([], Consumes-nil a, refl, sym (append-nil old))

-- One piece after another.
pub Adds-more : (a b c : Option (List ℕ)) (n m k : ℕ) (old between new : List ℕ) → Adds a b n old between → Adds b c m between new → n + m ≡ k → Adds a c k old new
Adds-more a b c n m k old between new first second sums =
    (first.0 ++ second.0, Consumes-trans a b c first.0 second.0 first.1 second.1, omega (arith, length-append first.0 second.0), grind (arith, common_steps))

-- What was taken at all, where some was added and then some taken.
pub TakesAtMost-more : (a b c : Option (List ℕ)) (n m k : ℕ) (old between : List ℕ) → Adds a b n old between → TakesAtMost b c m → n + m ≤ k → TakesAtMost a c k
TakesAtMost-more a b c n m k old between first second sums =
    (first.0 ++ second.0, Consumes-trans a b c first.0 second.0 first.1 second.1, omega (arith, length-append first.0 second.0))

-- What was added was taken.
pub Adds-takes : (a b : Option (List ℕ)) (n : ℕ) (old new : List ℕ) → Adds a b n old new → TakesCount a b n
Adds-takes a b n old new added = (added.0, added.1, added.2)

pub Adds-takes_at_most : (a b : Option (List ℕ)) (n k : ℕ) (old new : List ℕ) → Adds a b n old new → n ≤ k → TakesAtMost a b k
Adds-takes_at_most a b n k old new added within = (added.0, added.1, omega arith)
