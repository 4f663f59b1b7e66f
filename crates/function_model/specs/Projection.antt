-- Where a number goes among rising knots (Ge and de Moura 2009), in words that don't go through them.
use Rattle.std.specs.Prelude.{◌≡◌, true, false, List, ◌∷◌, All, Contains, ◌⊎◌}
use Rattle.std.specs.Ordering.{is_le}
use Rattle.mbqi_values.specs.Value.{rank_of}
use Rattle.mbqi_values.specs.declared.value.Value.{Value}

-- The knot is the greatest of these that isn't above the value.
pub record IsGreatestUpTo (knots : List Value) (v : Value) (knot : Value) : Type 0 where
  pub there : Contains knots knot
  pub below : is_le (rank_of knot v) ≡ true
  pub greatest : (other : Value) → Contains knots other → is_le (rank_of other v) ≡ true → is_le (rank_of other knot) ≡ true

-- The knot is the first, and each is above the value.
pub record IsFirstAbove (first : Value) (knots : List Value) (v : Value) (knot : Value) : Type 0 where
  pub same : knot ≡ first
  pub above : All (λ other. is_le (rank_of other v) ≡ false) (first ∷ knots)

abbrev pub IsProjection : Value → List Value → Value → Value → Type 0
IsProjection first knots v knot = IsGreatestUpTo (first ∷ knots) v knot ⊎ IsFirstAbove first knots v knot
