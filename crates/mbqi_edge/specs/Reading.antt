use Rattle.std.specs.Prelude.{ℕ, ◌≡◌, ◌≤◌, List, ◌++◌, length, Option}
use Rattle.std.specs.Io.KnownBytes.{Consumes, IsAtEnd}

-- What reading does, from the bytes that a reader has left before and now, where it tells them (this project's
-- own).

-- That many bytes were taken from the reader.
abbrev pub TakesCount : Option (List ℕ) → Option (List ℕ) → ℕ → Type 0
TakesCount before now count = (bytes : List ℕ) × Consumes before now bytes × (length bytes ≡ count)

-- No more bytes than that were taken from the reader.
abbrev pub TakesAtMost : Option (List ℕ) → Option (List ℕ) → ℕ → Type 0
TakesAtMost before now most = (bytes : List ℕ) × Consumes before now bytes × (length bytes ≤ most)

-- That many bytes were taken from the reader and stand now at the end.
abbrev pub Adds : Option (List ℕ) → Option (List ℕ) → ℕ → List ℕ → List ℕ → Type 0
Adds before now count old new =
    (bytes : List ℕ) × Consumes before now bytes × (length bytes ≡ count) × (new ≡ old ++ bytes)

-- All bytes were taken from the reader, no more than the limit, and stand now at the end.
abbrev pub AddsAll : Option (List ℕ) → Option (List ℕ) → ℕ → List ℕ → List ℕ → Type 0
AddsAll before now limit old new =
    (bytes : List ℕ) × Consumes before now bytes × IsAtEnd now
    × (length bytes ≤ limit) × (new ≡ old ++ bytes)
