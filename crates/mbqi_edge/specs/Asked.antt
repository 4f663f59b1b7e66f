use Rattle.std.specs.Prelude.{ℕ, List, [], ◌∷◌, Option, Result, Ok, Err}
use Rattle.mbqi_edge.specs.Told.{with_more}
use Rattle.mbqi_edge.specs.declared.shelf.FetchFault.{FetchFault}
use Rattle.mbqi_edge.specs.declared.shelf.FetchFault.TheVariants.{Failed, TooLong, Memory}

-- The names that a fetch adds to those asked (this project's own): its own, and none where memory ran out.
abbrev pub noted : {T : Type 0} → Result T FetchFault → List ℕ → List (List ℕ)
noted (Ok done) name = name ∷ []
noted (Err Failed) name = name ∷ []
noted (Err TooLong) name = name ∷ []
noted (Err Memory) name = []

-- The names asked after a fetch, where they are told.
abbrev pub asked_after : {T : Type 0}
    → Result T FetchFault → Option (List (List ℕ)) → List ℕ → Option (List (List ℕ))
asked_after result asked name = with_more asked (noted result name)
