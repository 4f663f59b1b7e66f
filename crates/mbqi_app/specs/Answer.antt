-- What an answer says, and how much of its text was taken (this project's own).
use Rattle.std.specs.Prelude.{◌≡◌, ℕ, ◌+◌, ◌<◌, ◌≤◌, List, [], ◌∷◌, length, take, All, Option, None, Some}
use Rattle.mbqi_values.specs.declared.status.Status.{Status}
use Rattle.mbqi_values.specs.declared.status.Status.TheVariants.{Sat, Unsat, Done}
use Rattle.mbqi_edge.specs.Files.{Files, Has}
use Rattle.mbqi_edge.specs.Told.{with_more}
use Rattle.mbqi_terms.specs.declared.script.Script.{Script}
use Rattle.sexpr_text.specs.Depth.{IsShallow}
use Rattle.function_model.specs.declared.model.FunctionModel.{FunctionModel}
use Rattle.function_model.specs.Fits.{Fits, NoRowsWithoutArguments}
use Rattle.function_model.specs.Holds.{Holds}
use Rattle.mbqi_app.specs.Command.{Command, Solve, Print, asked_for, files_of}
use Rattle.smtlib_decls.specs.Means.{Means}
use Rattle.printed_trees.specs.Trees.{script_trees}
use Rattle.script_text.specs.Text.{script_text}
use Rattle.mbqi_app.specs.ModelText.{model_text}
use Rattle.rule_form.specs.Rules.{count}
use Rattle.mbqi_loop.specs.Journal.{IsJournal}
use Rattle.mbqi_loop.specs.Outcome.{decisions}
use Rattle.mbqi_loop.specs.Refuted.{IsRefuted}
use Rattle.mbqi_loop.specs.declared.outcome.Outcome.{Outcome}
use Rattle.mbqi_loop.specs.declared.outcome.Outcome.TheVariants as outcome
use Rattle.mbqi_loop.specs.declared.outcome.Round.{Round}
use Rattle.mbqi_terms.specs.declared.instance.InstanceLine.{InstanceLine}
use Rattle.refutation_text.specs.RefutationText.{refutation_text}

-- A journal leads to the outcome in so many ground decisions, which are at most one more than the pool has instances.
pub record IsReached (script : Script) (outcome : Outcome) (rise : ℕ) : Type 0 where
  pub journal : IsJournal script outcome
  pub decided : rise ≡ decisions outcome
  pub few : rise ≤ count script + 1

-- The text is that of a model that fits the script of the bytes, and in which each assertion holds. A table without arguments has no
-- rows: its default is its value.
abbrev pub IsSatText : List ℕ → ℕ → List ℕ → Type 0
IsSatText bytes rise text =
    (script : Script) × (model : FunctionModel) × (journal : List Round) × Means bytes script × Fits script model × Holds model script
    × NoRowsWithoutArguments model × (text ≡ model_text script model) × IsReached script (outcome.Sat model journal) rise

-- The text is that of refuted instances of the assertions of the script of the bytes.
abbrev pub IsUnsatText : List ℕ → ℕ → List ℕ → Type 0
IsUnsatText bytes rise text =
    (script : Script) × (lines : List InstanceLine) × (journal : List Round) × Means bytes script × IsRefuted script lines
    × (text ≡ refutation_text script lines) × IsReached script (outcome.Unsat lines journal) rise

-- What `solve` may write for a file, by its status, after the counter rose so far.
abbrev pub IsSolution : List ℕ → ℕ → Status → List ℕ → Type 0
IsSolution bytes rise Sat text = IsSatText bytes rise text
IsSolution bytes rise Unsat text = IsUnsatText bytes rise text
IsSolution bytes rise status text = ⊥

-- What `print` may write for a file, by its status: the canonical text of the script of the bytes. It means that script again, where
-- no place of it has more open brackets than a reader takes.
abbrev pub IsPrinted : List ℕ → Status → List ℕ → Type 0
IsPrinted bytes Done text =
    (script : Script) × Means bytes script × (text ≡ script_text script) × (All IsShallow (script_trees script) → Means text script)
IsPrinted bytes status text = ⊥

-- What a command may write for the contents of its files, by its status, after the counter rose so far.
abbrev pub IsAnswer : Command → List (List ℕ) → ℕ → Status → List ℕ → Type 0
IsAnswer (Solve None file) (bytes ∷ []) rise status text = IsSolution bytes rise status text
IsAnswer (Print file) (bytes ∷ []) rise status text = (rise ≡ 0) × IsPrinted bytes status text
IsAnswer command contents rise status text = ⊥

-- The text of an outcome, and its status.
abbrev pub outcome_text : Script → Outcome → List ℕ
outcome_text script (outcome.Sat model journal) = model_text script model
outcome_text script (outcome.Unsat lines journal) = refutation_text script lines

abbrev pub status_of : Outcome → Status
status_of (outcome.Sat model journal) = Sat
status_of (outcome.Unsat lines journal) = Unsat

-- The whole text was taken, or a proper front of it.
abbrev pub TookAll : Option (List ℕ) → Option (List ℕ) → List ℕ → Type 0
TookAll before now text = now ≡ with_more before text

abbrev pub TookFront : Option (List ℕ) → Option (List ℕ) → List ℕ → Type 0
TookFront before now text = (n : ℕ) × (n < length text) × (now ≡ with_more before (take n text))

-- The names have these contents, where that is told.
abbrev pub HaveAll : Files → List (List ℕ) → List (List ℕ) → Type 0
HaveAll files [] [] = Unit {0}
HaveAll files (name ∷ names) (bytes ∷ contents) = Has files name bytes × HaveAll files names contents
HaveAll files [] (bytes ∷ contents) = ⊥
HaveAll files (name ∷ names) [] = ⊥

-- A command has an answer with this status for these contents of its files, after the counter rose from one number to another, and its
-- text was taken as said.
abbrev pub AnswersFor : Command → List (List ℕ) → ℕ → ℕ → Status → (List ℕ → Type 0) → Type 0
AnswersFor command contents from to status Taken =
    (rise : ℕ) × (to ≡ from + rise) × (text : List ℕ) × IsAnswer command contents rise status text × Taken text

-- The words' command has an answer with this status, after the counter rose from one number to another, and its text was taken as said.
abbrev pub Answers : List (List ℕ) → Files → ℕ → ℕ → Status → (List ℕ → Type 0) → Type 0
Answers words files from to status Taken =
    (command : Command) × (asked_for words ≡ Some command) × (contents : List (List ℕ)) × HaveAll files (files_of command) contents
    × AnswersFor command contents from to status Taken

-- The words' command has an answer with some status, of which a proper front was taken.
abbrev pub AnswersFront : List (List ℕ) → Files → ℕ → ℕ → Option (List ℕ) → Option (List ℕ) → Type 0
AnswersFront words files from to before now = (status : Status) × Answers words files from to status (TookFront before now)
