use Rattle.std.specs.Prelude.{◌≡◌, ℕ, Bool, List, [], length}
use Rattle.mbqi_values.specs.declared.lit.Lit.{Lit}
use Rattle.mbqi_values.specs.declared.value.Value.{Value}
use Rattle.theory_trait.specs.Content.{AtomsDiffer}
use Rattle.theory_trait.specs.Frames.{RiseFrom}

-- The free theory (this project's own).

-- What contracts see of it: how many atoms it knows, its content and its frames, and for how many more literals and
-- frames it has room.
pub record Free : Type 0 where
  pub atoms : ℕ
  pub content : List Lit
  pub frames : List ℕ
  pub spare : ℕ
  pub spare_frames : ℕ

-- Each truth of each atom is lawful, and there are no terms.
abbrev pub IsFreelyLawful : ℕ → List Value → (ℕ → Bool) → Type 0
IsFreelyLawful atoms values truths = values ≡ []

-- What it keeps of its content and its frames.
pub record IsInOrder (content : List Lit) (frames : List ℕ) : Type 0 where
  pub differ : AtomsDiffer content
  pub rise : RiseFrom 0 frames (length content)
