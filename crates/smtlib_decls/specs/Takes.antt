-- How the reader answers. No public clause cites it.
use Rattle.std.specs.Prelude.{◌≡◌, ℕ, List, Result, Ok, Err}
use Rattle.mbqi_values.specs.declared.fault.FaultKind.{FaultKind}
use Rattle.mbqi_values.specs.declared.fault.ReadError.{ReadError}
use Rattle.mbqi_values.specs.declared.fault.ReadError.TheVariants.{Refused, Memory}
use Rattle.mbqi_values.specs.declared.fault.Refusal.{Refusal}
use Rattle.mbqi_terms.specs.declared.sort.Sort.{Sort}
use Rattle.sexpr_text.specs.declared.tree.Sexpr.{Sexpr}
use Rattle.smtlib_terms.specs.Answers.{IsFault}
use Rattle.smtlib_terms.specs.Declaring.{Declarations}
use Rattle.smtlib_terms.specs.Steps.{behind}
use Rattle.smtlib_decls.specs.Commands.{sorts_read}

-- A reader that changes what was read so far: it is then what is meant, or the error names the fault.
abbrev pub Takes : {A P : Type 0} → Result A ReadError → P → Result P FaultKind → Type 0
Takes (Ok done) after meant = meant ≡ Ok after
Takes (Err error) after meant = IsFault error meant

-- A reader that gives what is meant, or refuses with what is meant, unless memory runs out.
abbrev pub Reads : {A : Type 0} → Result A ReadError → Result A Refusal → Type 0
Reads (Ok a) meant = meant ≡ Ok a
Reads (Err (Refused refusal)) meant = meant ≡ Err refusal
Reads (Err Memory) meant = Unit {0}

-- A reader that takes a form: it refuses at the form's place.
abbrev pub TakesForm : {A P : Type 0} → Result A ReadError → P → ℕ → Result P FaultKind → Type 0
TakesForm (Ok done) after at meant = meant ≡ Ok after
TakesForm (Err (Refused refusal)) after at meant = (meant ≡ Err refusal.kind) × (refusal.at ≡ at)
TakesForm (Err Memory) after at meant = Unit {0}

-- What is read of sorts behind those that were read.
unfoldable pub sorts_behind : List Sort → Declarations → List Sexpr → Result (List Sort) FaultKind
sorts_behind before names trees = behind before (sorts_read names trees)
