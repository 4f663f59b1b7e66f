use Rattle.std.specs.Prelude.{ℕ, ◌≡◌, ◌<◌, ◌≤◌, ◌⊎◌, length, List, [], ◌∷◌, ◌++◌, Option, None, Some, option_and_then, position, slice_get, Contains, Result, Ok, Err}
use Rattle.std.specs.Str.{bytes_eq}
use Rattle.mbqi_edge.specs.Faults.{counted}
use Rattle.mbqi_edge.specs.declared.shelf.FetchFault.{FetchFault}
use Rattle.mbqi_edge.specs.declared.shelf.FetchFault.TheVariants.{Failed, TooLong, Memory}

-- What a shelf in memory holds: the names and, beside them, the files, the numbers of the calls that fail,
-- the number of the next call, the names asked, and the count of faults (this project's own).
pub record ShelfState : Type 0 where
  pub names : List (List ℕ)
  pub files : List (List ℕ)
  pub failing : List ℕ
  pub calls : ℕ
  pub asked : List (List ℕ)
  pub faults : ℕ

-- The file at the first place of the name.
abbrev pub file_of : List (List ℕ) → List (List ℕ) → List ℕ → Option (List ℕ)
file_of names files name =
    option_and_then (slice_get files) (position (λ known. bytes_eq known name) names)

-- The bytes before, followed by the named file's, which aren't more than the limit.
abbrev pub Gives : ShelfState → List ℕ → ℕ → List ℕ → List ℕ → Type 0
Gives shelf name limit before now =
    (bytes : List ℕ) × (file_of shelf.names shelf.files name ≡ Some bytes)
    × (length bytes ≤ limit) × (now ≡ before ++ bytes)

-- The named file is there and has more bytes than the limit.
abbrev pub IsLonger : ShelfState → List ℕ → ℕ → Type 0
IsLonger shelf name limit =
    (bytes : List ℕ) × (file_of shelf.names shelf.files name ≡ Some bytes) × (limit < length bytes)

-- The call of this number fails: it is listed, or the name isn't there.
abbrev pub FailsAt : ShelfState → ℕ → List ℕ → Type 0
FailsAt shelf call name =
    Contains shelf.failing call ⊎ (file_of shelf.names shelf.files name ≡ None)

-- The shelf after a fetch: the call is counted, the name is noted, but not where memory ran out, and a fault
-- is counted.
abbrev pub shelf_after : {T : Type 0} → Result T FetchFault → ShelfState → List ℕ → ShelfState
shelf_after (Ok done) shelf name =
    record shelf { calls = counted shelf.calls; asked = shelf.asked ++ name ∷ [] }
shelf_after (Err Failed) shelf name =
    record shelf {
      calls = counted shelf.calls;
      asked = shelf.asked ++ name ∷ [];
      faults = counted shelf.faults;
    }
shelf_after (Err TooLong) shelf name =
    record shelf { calls = counted shelf.calls; asked = shelf.asked ++ name ∷ [] }
shelf_after (Err Memory) shelf name = record shelf { calls = counted shelf.calls }
