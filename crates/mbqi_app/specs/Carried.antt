-- What a call does but for its line on `err`, each fact once (this project's own). `run` promises these facts in clauses of the same names.
use Rattle.std.specs.Prelude.{◌≡◌, ◌↔◌, ◌<◌, ◌⊎◌, ℕ, List, [], ◌∷◌, length, Option, None, Some, IsTrue}
use Rattle.mbqi_values.specs.declared.fault.Refusal.{Refusal}
use Rattle.mbqi_values.specs.declared.status.Status.{Status}
use Rattle.mbqi_values.specs.declared.status.Status.TheVariants.{Words, ScriptRefused, ReadFault, TooLong, WriteFault, Memory}
use Rattle.mbqi_edge.specs.Faults.{Rose}
use Rattle.mbqi_edge.specs.Files.{Files}
use Rattle.mbqi_edge.specs.Told.{with_more}
use Rattle.mbqi_app.specs.Answer.{Answers, AnswersFor, AnswersFront, TookAll, TookFront}
use Rattle.mbqi_app.specs.Asked.{AskedFront, Counts, names_of}
use Rattle.mbqi_app.specs.Command.{Command, asked_for}
use Rattle.mbqi_app.specs.Statuses.{ComesFromBytes, Gives, GivesLong, IfScriptRefused, IsFinished, IsOneOf, IsOneOfAll, IsRefusedAs, IsTaken, IsWritten, Of, OfTold, file_limit, is_answered, is_silent}

-- What the shelf shows at a time: its files, the names asked, and the count of faults.
pub record ShownShelf : Type 0 where
  pub files : Files
  pub asked : Option (List (List ℕ))
  pub faults : ℕ

-- What `out` and the counter show at a time: the bytes taken, the count of faults, and the number of steps.
pub record ShownOut : Type 0 where
  pub taken : Option (List ℕ)
  pub faults : ℕ
  pub steps : ℕ

-- The words of this line were carried out with this status, over such a shelf, `out` and counter before and after.
pub record CarriesOut (line : List (List ℕ)) (shelf shelf_after : ShownShelf) (out out_after : ShownOut) (status : Status) : Type 0 where
  -- the causes of the statuses without an answer
  pub words : (status ≡ Words) ↔ (asked_for line ≡ None)
  pub read_fault : status ≡ ReadFault → Rose shelf.faults shelf_after.faults
  pub too_long : status ≡ TooLong → OfTold line shelf.files (λ bytes. file_limit < length bytes)
  pub refused : IfScriptRefused status (λ refusal. Of line shelf.files (IsRefusedAs refusal))
  pub comes : IsOneOfAll status
  -- what an answer says, and what was written of it
  pub answer : IsTrue (is_answered status) → Answers line shelf.files out.steps out_after.steps status (TookAll out.taken out_after.taken)
  pub write_fault : status ≡ WriteFault
      → Rose out.faults out_after.faults × AnswersFront line shelf.files out.steps out_after.steps out.taken out_after.taken
  pub silent : IsTrue (is_silent status) → out_after.taken ≡ out.taken
  -- what is asked of the shelf, and what the answer cost
  pub files : shelf_after.files ≡ shelf.files
  pub asked : AskedFront shelf.asked shelf_after.asked (names_of (asked_for line))
  pub all_asked : IsTrue (is_answered status) → shelf_after.asked ≡ with_more shelf.asked (names_of (asked_for line))
  pub steps : Counts (asked_for line) status out.steps out_after.steps
  -- a file that is read without a fault has the answer that its bytes call for
  pub complete : Gives line shelf.files IsTaken → IsFinished status
  pub refuses : (refusal : Refusal) → Gives line shelf.files (IsRefusedAs refusal) → IsOneOf status (ScriptRefused refusal)
  pub long : GivesLong line shelf.files → IsOneOf status TooLong

-- The command was carried out with this status for a script of these bytes, over such an `out` and counter before and after.
pub record Responds (command : Command) (bytes : List ℕ) (out out_after : ShownOut) (status : Status) : Type 0 where
  pub refused : IfScriptRefused status (λ refusal. IsRefusedAs refusal command bytes)
  pub comes : ComesFromBytes status
  pub answer : IsTrue (is_answered status) → AnswersFor command (bytes ∷ []) out.steps out_after.steps status (TookAll out.taken out_after.taken)
  pub write_fault : status ≡ WriteFault → Rose out.faults out_after.faults
      × ((answered : Status) × AnswersFor command (bytes ∷ []) out.steps out_after.steps answered (TookFront out.taken out_after.taken))
  pub silent : IsTrue (is_silent status) → out_after.taken ≡ out.taken
  pub steps : Counts (Some command) status out.steps out_after.steps
  pub complete : IsTaken command bytes → IsWritten status
  pub refuses : (refusal : Refusal) → IsRefusedAs refusal command bytes → (status ≡ ScriptRefused refusal) ⊎ (status ≡ Memory)
