use Rattle.clause_search.specs.declared.turns.Turn.{Turn}
use Rattle.clause_search.specs.declared.turns.Turn.TheVariants.{Full, Turned, Ended}

-- A fact where the trail is full.
abbrev pub OnFull : Turn → Type 0 → Type 0
OnFull Full Fact = Fact
OnFull Turned Fact = Unit {0}
OnFull Ended Fact = Unit {0}

-- A fact where the search goes on.
abbrev pub OnTurned : Turn → Type 0 → Type 0
OnTurned Full Fact = Unit {0}
OnTurned Turned Fact = Fact
OnTurned Ended Fact = Unit {0}

-- A fact where there is no model.
abbrev pub OnEnded : Turn → Type 0 → Type 0
OnEnded Full Fact = Unit {0}
OnEnded Turned Fact = Unit {0}
OnEnded Ended Fact = Fact
