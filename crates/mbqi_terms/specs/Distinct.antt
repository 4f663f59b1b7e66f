-- A list in which each element stands once, by places (this project's own).
use Rattle.std.specs.Prelude.{◌≡◌, ◌≢◌, ℕ, ◌⊎◌, List, [], ◌∷◌, ◌++◌, length, Some, slice_get}

-- No element stands at two places.
abbrev pub AreDistinct : {X : Type 0} → List X → Type 0
AreDistinct {X} xs = (i j : ℕ) (x : X) → slice_get xs i ≡ Some x → slice_get xs j ≡ Some x → i ≡ j

-- The place is the element's, and the list has the element last where it wasn't there before.
abbrev pub Puts : {X : Type 0} → List X → X → ℕ → List X → Type 0
Puts old x place new =
    ((slice_get old place ≡ Some x) × (new ≡ old)) ⊎ (((k : ℕ) → slice_get old k ≢ Some x) × (place ≡ length old) × (new ≡ old ++ x ∷ []))
