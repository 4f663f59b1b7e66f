use Rattle.std.specs.Prelude.{◌≡◌, ℕ, ◌<◌, List, [], ◌∷◌, ◌++◌, ◌==◌, Bool, false, length, nat_eq, slice_index_or, if◌then◌else◌}
use Rattle.std.specs.List.{All, IsDistinct, list_any}

-- the numbers below `room` that are marked, in the order in which they were
pub record Marked : Type 0 where
  pub room : ℕ
  pub marks : List ℕ

-- whether the number is one of the marks
abbrev pub is_mark : List ℕ → ℕ → Bool
is_mark marks number = list_any (λ mark. number == mark) marks

-- the marks with this one too
abbrev pub with_mark : List ℕ → ℕ → List ℕ
with_mark marks number = if is_mark marks number then marks else marks ++ number ∷ []

-- the marks differ, and by number it is kept whether it is one
pub record AreMarks (flags : List Bool) (marks : List ℕ) : Type 0 where
  pub within : All (λ number. number < length flags) marks
  pub flag_at : (number : ℕ) → number < length flags → slice_index_or flags number false ≡ is_mark marks number
  pub once : IsDistinct nat_eq marks
