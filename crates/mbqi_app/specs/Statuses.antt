-- The statuses that there are so far, and what leads to each of them (this project's own).
use Rattle.std.specs.Prelude.{◌≡◌, ℕ, ◌<◌, ◌≤◌, ◌⊎◌, List, [], ◌∷◌, length, None, Some, Bool, true, false}
use Rattle.mbqi_values.specs.declared.fault.FaultKind.TheVariants.{Unsupported}
use Rattle.mbqi_values.specs.declared.fault.Refusal.{Refusal}
use Rattle.mbqi_values.specs.declared.status.Status.{Status}
use Rattle.mbqi_values.specs.declared.status.Status.TheVariants.{Sat, Unsat, Unknown, Done, No, Words, ScriptRefused, ReadFault, TooLong, WriteFault, Memory, TooWide, ModelRefused, RefutationRefused}
use Rattle.mbqi_edge.specs.Files.{Files, Has, Tells}
use Rattle.mbqi_terms.specs.declared.script.Script.{Script}
use Rattle.mbqi_app.specs.Command.{Command, Solve, Print, asked_for, files_of}
use Rattle.element_atoms.specs.Profile.{IsElementary}
use Rattle.smtlib_decls.specs.Means.{Means, Refused}

-- The statuses with an answer.
abbrev pub is_answered : Status → Bool
is_answered Sat = true
is_answered Unsat = true
is_answered Unknown = true
is_answered Done = true
is_answered No = true
is_answered status = false

-- The statuses after which nothing was written.
abbrev pub is_silent : Status → Bool
is_silent Words = true
is_silent (ScriptRefused refusal) = true
is_silent ReadFault = true
is_silent TooLong = true
is_silent Memory = true
is_silent (TooWide weight) = true
is_silent (ModelRefused refusal) = true
is_silent (RefutationRefused refusal) = true
is_silent status = false

-- The statuses that a file's bytes alone lead to; those that fetching a file may end with; and all that there are so far.
abbrev pub ComesFromBytes : Status → Type 0
ComesFromBytes Sat = Unit {0}
ComesFromBytes Unsat = Unit {0}
ComesFromBytes Done = Unit {0}
ComesFromBytes (ScriptRefused refusal) = Unit {0}
ComesFromBytes WriteFault = Unit {0}
ComesFromBytes Memory = Unit {0}
ComesFromBytes status = ⊥

abbrev pub ComesFromFetch : Status → Type 0
ComesFromFetch ReadFault = Unit {0}
ComesFromFetch TooLong = Unit {0}
ComesFromFetch Memory = Unit {0}
ComesFromFetch status = ⊥

abbrev pub IsOneOfAll : Status → Type 0
IsOneOfAll Words = Unit {0}
IsOneOfAll ReadFault = Unit {0}
IsOneOfAll TooLong = Unit {0}
IsOneOfAll status = ComesFromBytes status

-- How many bytes a file may have.
abbrev pub file_limit : ℕ
file_limit = 67108864

-- A fact of the first of a command's files, which is its script.
abbrev pub OfFirst : List (List ℕ) → (List ℕ → Type 0) → Type 0
OfFirst [] Such = ⊥
OfFirst (file ∷ files) Such = Such file

-- The script that the words give to their command is told, and has such bytes.
abbrev pub OfTold : List (List ℕ) → Files → (List ℕ → Type 0) → Type 0
OfTold words files Such =
    (command : Command) × (asked_for words ≡ Some command) × OfFirst (files_of command) (λ file. Tells files file Such)

-- The script that the words give to their command has such bytes, where that is told.
abbrev pub Of : List (List ℕ) → Files → (Command → List ℕ → Type 0) → Type 0
Of words files Such =
    (command : Command) × (asked_for words ≡ Some command)
    × OfFirst (files_of command) (λ file. (bytes : List ℕ) × Has files file bytes × Such command bytes)

-- The shelf tells that the file has such bytes.
abbrev pub GivesFile : Files → List ℕ → (List ℕ → Type 0) → Type 0
GivesFile None name Such = ⊥
GivesFile (Some file) name Such = (bytes : List ℕ) × (file name ≡ Some bytes) × Such bytes

-- The shelf tells that the script of the words' command has such bytes, and no more than a file may have; or more.
abbrev pub Gives : List (List ℕ) → Files → (Command → List ℕ → Type 0) → Type 0
Gives words files Such =
    (command : Command) × (asked_for words ≡ Some command)
    × OfFirst (files_of command) (λ file. GivesFile files file (λ bytes. (length bytes ≤ file_limit) × Such command bytes))

abbrev pub GivesLong : List (List ℕ) → Files → Type 0
GivesLong words files =
    (command : Command) × (asked_for words ≡ Some command)
    × OfFirst (files_of command) (λ file. GivesFile files file (λ bytes. file_limit < length bytes))

-- The bytes mean a script; and one that `solve` takes so far, which is one of the first profile.
abbrev pub IsTakenByPrint : List ℕ → Type 0
IsTakenByPrint bytes = (script : Script) × Means bytes script

abbrev pub IsTakenBySolve : List ℕ → Type 0
IsTakenBySolve bytes = (script : Script) × Means bytes script × IsElementary script

-- The bytes mean a script that the command takes.
abbrev pub IsTaken : Command → List ℕ → Type 0
IsTaken (Solve None file) bytes = IsTakenBySolve bytes
IsTaken (Print file) bytes = IsTakenByPrint bytes
IsTaken command bytes = ⊥

-- The bytes mean a script that `solve` doesn't take yet.
abbrev pub IsOutside : List ℕ → Type 0
IsOutside bytes = (script : Script) × Means bytes script × (IsElementary script → ⊥)

-- What isn't taken yet is refused at the start.
abbrev pub outside : Refusal
outside = record { at = 0; kind = Unsupported }

-- The bytes are refused by `solve`: they mean no script and have this first fault, or mean one that isn't taken yet.
abbrev pub IsRefusedBySolve : List ℕ → Refusal → Type 0
IsRefusedBySolve bytes refusal = Refused bytes refusal ⊎ (IsOutside bytes × (refusal ≡ outside))

-- The bytes are refused as the script of the command: at the first fault where they mean no script, and by `solve` at the start
-- where it doesn't take the script yet.
abbrev pub IsRefusedAs : Refusal → Command → List ℕ → Type 0
IsRefusedAs refusal (Solve None file) bytes = IsRefusedBySolve bytes refusal
IsRefusedAs refusal (Print file) bytes = Refused bytes refusal
IsRefusedAs refusal command bytes = ⊥

-- A fact of the refusal of a script.
abbrev pub IfScriptRefused : Status → (Refusal → Type 0) → Type 0
IfScriptRefused (ScriptRefused refusal) P = P refusal
IfScriptRefused status P = Unit {0}

-- The status, or memory ran out, or the file couldn't be read.
abbrev pub IsOneOf : Status → Status → Type 0
IsOneOf status wanted = (status ≡ wanted) ⊎ ((status ≡ Memory) ⊎ (status ≡ ReadFault))

-- `solve` answered the question, or `print` wrote the script; or memory ran out, or the text couldn't be written.
abbrev pub IsDecided : Status → Type 0
IsDecided status = ((status ≡ Sat) ⊎ (status ≡ Unsat)) ⊎ ((status ≡ Memory) ⊎ (status ≡ WriteFault))

abbrev pub IsDone : Status → Type 0
IsDone status = (status ≡ Done) ⊎ ((status ≡ Memory) ⊎ (status ≡ WriteFault))

-- The same of any command: there is an answer, or memory ran out, or the answer couldn't be written.
abbrev pub IsWritten : Status → Type 0
IsWritten status = (is_answered status ≡ true) ⊎ ((status ≡ Memory) ⊎ (status ≡ WriteFault))

-- The same, or the file couldn't be read.
abbrev pub IsFinished : Status → Type 0
IsFinished status = (is_answered status ≡ true) ⊎ (((status ≡ Memory) ⊎ (status ≡ WriteFault)) ⊎ (status ≡ ReadFault))
