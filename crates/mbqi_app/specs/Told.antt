use Rattle.std.specs.Prelude.{◌≡◌, ℕ, ◌≤◌, List, [], ◌++◌, length, take, codes, decimal, Option, Result, Ok, Err}
use Rattle.mbqi_edge.specs.Faults.{Rose}
use Rattle.mbqi_values.specs.FaultKind.{name_of}
use Rattle.mbqi_values.specs.declared.fault.Refusal.{Refusal}
use Rattle.mbqi_values.specs.declared.status.Status.{Status}
use Rattle.mbqi_values.specs.declared.status.Status.TheVariants.{Sat, Unsat, Unknown, Done, No, Words, ScriptRefused, ReadFault, TooLong, WriteFault, Memory, TooWide, ModelRefused, RefutationRefused}
use Rattle.mbqi_edge.specs.Told.{with_more}

-- A place and a kind, behind what is refused there.
abbrev pub refusal_text : List ℕ → Refusal → List ℕ
refusal_text front refusal = front ++ decimal refusal.at ++ (codes ": " ++ name_of refusal.kind ++ codes "\n")

-- The line that says why there is no answer (this project's own).
abbrev pub told_of : Status → List ℕ
told_of Sat = []
told_of Unsat = []
told_of Unknown = []
told_of Done = []
told_of No = []
told_of Words = codes "mbqi: these words are no command\n"
told_of (ScriptRefused refusal) = refusal_text (codes "mbqi: refused at ") refusal
told_of ReadFault = codes "mbqi: the file cannot be read\n"
told_of TooLong = codes "mbqi: the file is longer than 67108864 bytes\n"
told_of WriteFault = codes "mbqi: the answer cannot be written\n"
told_of Memory = codes "mbqi: out of memory\n"
told_of (TooWide weight) = codes "mbqi: too wide: " ++ decimal weight ++ codes "\n"
told_of (ModelRefused refusal) = refusal_text (codes "mbqi: the model is refused at ") refusal
told_of (RefutationRefused refusal) = refusal_text (codes "mbqi: the refutation is refused at ") refusal

-- A front of the text was taken, or all of it.
abbrev pub TookPart : Option (List ℕ) → Option (List ℕ) → List ℕ → Type 0
TookPart before now text = (n : ℕ) × (n ≤ length text) × (now ≡ with_more before (take n text))

-- The text was taken; or a fault was counted, and a part of the text was taken.
abbrev pub Puts : {T E : Type 0} → Result T E → Option (List ℕ) → Option (List ℕ) → ℕ → ℕ → List ℕ → Type 0
Puts (Ok done) before now faults_before faults_now text = now ≡ with_more before text
Puts (Err fault) before now faults_before faults_now text = Rose faults_before faults_now × TookPart before now text
