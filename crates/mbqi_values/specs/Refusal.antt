use Rattle.std.specs.Prelude.{ℕ, List, ◌++◌, codes, decimal}
use Rattle.mbqi_values.specs.FaultKind.{name_of}
use Rattle.mbqi_values.specs.declared.fault.Refusal.{Refusal}

-- A refusal as messages write it (this project's own): its place in decimal, a colon and a space, and the name
-- of its kind.
abbrev pub refusal_text : Refusal → List ℕ
refusal_text refusal = decimal refusal.at ++ codes ": " ++ name_of refusal.kind
