use Rattle.std.specs.Prelude.{◌≡◌, Result, Ok, Err}
use Rattle.mbqi_values.specs.declared.fault.FaultKind.{FaultKind}
use Rattle.mbqi_values.specs.declared.fault.ReadError.{ReadError}
use Rattle.mbqi_values.specs.declared.fault.ReadError.TheVariants.{Refused, Memory}

-- The error names the first fault, at 0, or says that memory ran out.
abbrev pub IsFault : {A : Type 0} → ReadError → Result A FaultKind → Type 0
IsFault (Refused refusal) meant = (meant ≡ Err refusal.kind) × (refusal.at ≡ 0)
IsFault Memory meant = Unit {0}

-- What a reader answers: the meaning exactly where there is one, else the kind of the first fault; or that
-- memory ran out.
abbrev pub Answers : {A : Type 0} → Result A ReadError → Result A FaultKind → Type 0
Answers (Ok a) meant = meant ≡ Ok a
Answers (Err error) meant = IsFault error meant

-- A fact of the kind that an error refuses for.
abbrev pub IfRefused : ReadError → (FaultKind → Type 0) → Type 0
IfRefused (Refused refusal) P = P refusal.kind
IfRefused Memory P = Unit {0}

-- What a declaration leaves: the names that are meant, or the fault and the names as before.
abbrev pub Declares : {A N : Type 0} → Result A ReadError → N → N → Result N FaultKind → Type 0
Declares (Ok a) before after meant = meant ≡ Ok after
Declares (Err error) before after meant = IsFault error meant × (after ≡ before)
