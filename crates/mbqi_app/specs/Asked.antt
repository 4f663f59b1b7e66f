-- What is asked of the shelf, and how the counter moves (this project's own).
use Rattle.std.specs.Prelude.{◌≡◌, ℕ, ◌≤◌, ◌⊎◌, List, [], ◌∷◌, length, take, Option, None, Some, Result, Ok, Err}
use Rattle.mbqi_values.specs.declared.fault.ReadError.{ReadError}
use Rattle.mbqi_values.specs.declared.fault.ReadError.TheVariants as error
use Rattle.mbqi_values.specs.declared.status.Status.{Status}
use Rattle.mbqi_values.specs.declared.status.Status.TheVariants.{Sat, Unsat, WriteFault, Memory}
use Rattle.mbqi_edge.specs.Told.{with_more}
use Rattle.mbqi_app.specs.Command.{Command, Solve, files_of}

-- The names of the words' files.
abbrev pub names_of : Option Command → List (List ℕ)
names_of None = []
names_of (Some command) = files_of command

-- The name was asked once at most.
abbrev pub AsksOne : Option (List (List ℕ)) → Option (List (List ℕ)) → List ℕ → Type 0
AsksOne before now name = (now ≡ before) ⊎ (now ≡ with_more before (name ∷ []))

-- A front of the names was asked, each once and in order.
abbrev pub AskedFront : Option (List (List ℕ)) → Option (List (List ℕ)) → List (List ℕ) → Type 0
AskedFront before now names = (n : ℕ) × (n ≤ length names) × (now ≡ with_more before (take n names))

-- How the counter rises in `solve` where there is no answer: not at all, or by the decisions that were made before memory ran
-- out. How it rises with an answer is said of the answer.
abbrev pub CountsSolving : Status → ℕ → ℕ → Type 0
CountsSolving Sat before now = before ≤ now
CountsSolving Unsat before now = before ≤ now
CountsSolving WriteFault before now = before ≤ now
CountsSolving Memory before now = before ≤ now
CountsSolving status before now = now ≡ before

-- In no other command does it rise.
abbrev pub Counts : Option Command → Status → ℕ → ℕ → Type 0
Counts (Some (Solve depth file)) status before now = CountsSolving status before now
Counts command status before now = now ≡ before

-- The same for a text of `solve` that is still to be written.
abbrev pub CountsReading : {T : Type 0} → Result T ReadError → ℕ → ℕ → Type 0
CountsReading (Ok text) before now = before ≤ now
CountsReading (Err error.Memory) before now = before ≤ now
CountsReading (Err (error.Refused refusal)) before now = now ≡ before
