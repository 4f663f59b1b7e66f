use Rattle.std.specs.Prelude.{Bool, true, false, List, Result, Ok, Err}
use Rattle.std.specs.declared.alloc.AllocError.{AllocError}
use Rattle.mbqi_values.specs.declared.lit.Lit.{Lit}
use Rattle.clause_search.specs.declared.turns.Searched.{Searched}
use Rattle.clause_search.specs.declared.turns.Searched.TheVariants.{Found, Closed}

-- A fact about the trail, where one is found.
abbrev pub IfFound : Result Searched AllocError → (List Lit → Type 0) → Type 0
IfFound (Ok (Found trail)) Fact = Fact trail
IfFound (Ok Closed) Fact = Unit {0}
IfFound (Err error) Fact = Unit {0}

-- A fact where there is none.
abbrev pub OnClosed : Result Searched AllocError → Type 0 → Type 0
OnClosed (Ok (Found trail)) Fact = Unit {0}
OnClosed (Ok Closed) Fact = Fact
OnClosed (Err error) Fact = Unit {0}

-- A fact where none is found, also for want of memory.
abbrev pub UnlessFound : Result Searched AllocError → Type 0 → Type 0
UnlessFound (Ok (Found trail)) Fact = Unit {0}
UnlessFound (Ok Closed) Fact = Fact
UnlessFound (Err error) Fact = Fact

-- Whether a trail is found.
abbrev pub is_found : Result Searched AllocError → Bool
is_found (Ok (Found trail)) = true
is_found (Ok Closed) = false
is_found (Err error) = false
