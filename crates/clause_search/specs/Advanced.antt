use Rattle.std.specs.Prelude.{List}
use Rattle.mbqi_values.specs.declared.lit.Lit.{Lit}
use Rattle.clause_search.specs.declared.passes.Advanced.{Advanced}
use Rattle.clause_search.specs.declared.passes.Advanced.TheVariants.{Full, Grown, Conflict}

-- A fact where the trail is full.
abbrev pub OnFull : Advanced → Type 0 → Type 0
OnFull Full Fact = Fact
OnFull Grown Fact = Unit {0}
OnFull (Conflict clause) Fact = Unit {0}

-- A fact where the trail has grown.
abbrev pub OnGrown : Advanced → Type 0 → Type 0
OnGrown Full Fact = Unit {0}
OnGrown Grown Fact = Fact
OnGrown (Conflict clause) Fact = Unit {0}

-- A fact about the conflict.
abbrev pub IfConflict : Advanced → (List Lit → Type 0) → Type 0
IfConflict Full Fact = Unit {0}
IfConflict Grown Fact = Unit {0}
IfConflict (Conflict clause) Fact = Fact clause
