-- Tuples of numbers that pass a test, in lexicographic order (this project's own). Private functions alone cite it.
use Rattle.std.specs.Prelude.{ℕ, zero, suc, Bool, List, [], ◌∷◌, ◌++◌, if◌then◌else◌}

-- The lists of the numbers below n, one behind the other.
abbrev pub joined_below : {X : Type 0} → (ℕ → List X) → ℕ → List X
joined_below f zero = []
joined_below f (suc n) = joined_below f n ++ f n

-- The tuples that pass the test: a front, and so many more numbers below the size.
abbrev pub tuples_where : (List ℕ → Bool) → ℕ → ℕ → List ℕ → List (List ℕ)
tuples_where passes size zero front = if passes front then front ∷ [] else []
tuples_where passes size (suc n) front = joined_below (λ i. tuples_where passes size n (front ++ i ∷ [])) size
