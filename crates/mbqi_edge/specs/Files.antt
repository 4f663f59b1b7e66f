use Rattle.std.specs.Prelude.{ℕ, ◌≡◌, List, Option, None, Some}

-- The files of a shelf by their names, where the shelf tells them (this project's own). A name may have no
-- file.
abbrev pub Files : Type 0
Files = Option (List ℕ → Option (List ℕ))

-- The named file has these bytes, where that is told.
abbrev pub Has : Files → List ℕ → List ℕ → Type 0
Has None name bytes = Unit {0}
Has (Some file) name bytes = file name ≡ Some bytes

-- The named file is there and its bytes are such, where that is told.
abbrev pub Tells : Files → List ℕ → (List ℕ → Type 0) → Type 0
Tells None name Such = Unit {0}
Tells (Some file) name Such = (bytes : List ℕ) × (file name ≡ Some bytes) × Such bytes
