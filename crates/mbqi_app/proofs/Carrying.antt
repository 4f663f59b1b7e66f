-- From what a fetch gave, and what a command made of the bytes, to what was done for the words.
use Rattle.std.proofs.Common.{◌≡◌, ◌<◌, ℕ, ◌≤◌, List, [], ◌∷◌, length, refl, sym, ap, subst, ◌∙◌, arith, inl, inr, append-nil}
use Rattle.std.specs.Prelude.{◌⊎◌, Option, None, Some, IsTrue}
use Rattle.mbqi_values.specs.declared.fault.Refusal.{Refusal}
use Rattle.mbqi_values.specs.declared.status.Status.{Status}
use Rattle.mbqi_values.specs.declared.status.Status.TheVariants.{Sat, Unsat, Words, ScriptRefused, ReadFault, TooLong, WriteFault, Memory}
use Rattle.mbqi_edge.specs.Faults.{Rose}
use Rattle.mbqi_edge.specs.Files.{Files, Has, Tells}
use Rattle.mbqi_edge.specs.Told.{with_more}
use Rattle.mbqi_app.specs.Answer.{HaveAll}
use Rattle.mbqi_app.specs.Asked.{AsksOne, AskedFront, Counts, CountsSolving, names_of}
use Rattle.mbqi_app.specs.Carried.{CarriesOut, Responds, ShownOut, ShownShelf}
use Rattle.mbqi_app.specs.Command.{Command, Solve, asked_for, files_of}
use Rattle.mbqi_app.specs.Statuses.{ComesFromBytes, ComesFromFetch, Gives, GivesFile, GivesLong, IfScriptRefused, IsDecided, IsDone, IsFinished, IsOneOf, IsOneOfAll, IsRefusedAs, IsTaken, IsWritten, OfFirst, file_limit, is_answered}

-- one list of words has one command
one_command : (line : List (List ℕ)) (this that : Command) → asked_for line ≡ Some this → asked_for line ≡ Some that → this ≡ that
one_command line this that h k = cc (h, k)

-- the first of one file
first : (files : List (List ℕ)) (file : List ℕ) (Such : List ℕ → Type 0) → files ≡ file ∷ [] → Such file → OfFirst files Such
first files file Such e h = subst (λ fs. OfFirst fs Such) (sym e) h

first_is : (files : List (List ℕ)) (file : List ℕ) (Such : List ℕ → Type 0) → files ≡ file ∷ [] → OfFirst files Such → Such file
first_is files file Such e h = subst (λ fs. OfFirst fs Such) e h

all_had : (shelf : Files) (files : List (List ℕ)) (file bytes : List ℕ) → files ≡ file ∷ [] → Has shelf file bytes → HaveAll shelf files (bytes ∷ [])
all_had shelf files file bytes e has = subst (λ fs. HaveAll shelf fs (bytes ∷ [])) (sym e) (has, tt)

same_bytes : (file : List ℕ → Option (List ℕ)) (name this that : List ℕ) → file name ≡ Some this → file name ≡ Some that → this ≡ that
same_bytes file name this that h k = cc (h, k)

-- what the shelf gives is what it has
given_had : (shelf : Files) (name bytes : List ℕ) (Such : List ℕ → Type 0) → Has shelf name bytes → GivesFile shelf name Such → Such bytes
given_had None name bytes Such has gives = absurd gives
given_had (Some file) name bytes Such has gives = subst Such (same_bytes file name gives.0 bytes gives.1 has) gives.2

-- what the shelf gives is what it tells
given_told : (shelf : Files) (name : List ℕ) (Such Told : List ℕ → Type 0) → GivesFile shelf name Such → Tells shelf name Told → (bytes : List ℕ) × Such bytes × Told bytes
given_told None name Such Told gives tells = absurd gives
given_told (Some file) name Such Told gives tells =
    (gives.0, gives.2, subst Told (same_bytes file name tells.0 gives.0 tells.1 gives.1) tells.2)

nothing_more : (before : Option (List (List ℕ))) → with_more before [] ≡ before
nothing_more None = refl
nothing_more (Some names) = ap Some (append-nil names)

-- one file is a front of one file
one_asked : (before now : Option (List (List ℕ))) (file : List ℕ) (names : List (List ℕ)) → names ≡ file ∷ [] → AsksOne before now file → AskedFront before now names
one_asked before now file names e h =
    rw e (elim h [
      | inl same ↦ (0, omega arith, same ∙ sym (nothing_more before))
      | inr more ↦ (1, omega arith, more)
    ])

if_refused : (status : Status) (Such Then : Refusal → Type 0) → ((refusal : Refusal) → Such refusal → Then refusal) → IfScriptRefused status Such → IfScriptRefused status Then
if_refused (ScriptRefused refusal) Such Then f h = f refusal h
if_refused status Such Then f h = tt

-- what the bytes lead to is one of all, and neither no command nor a fault of the fetch
of_bytes : (status : Status) → ComesFromBytes status → IsOneOfAll status
of_bytes Words h = tt
of_bytes ReadFault h = tt
of_bytes TooLong h = tt
of_bytes status h = h

of_fetch : (status : Status) → ComesFromFetch status → IsOneOfAll status
of_fetch ReadFault h = tt
of_fetch TooLong h = tt
of_fetch Memory h = tt
of_fetch status h = absurd h

finished : (status : Status) → IsWritten status → IsFinished status
finished status (inl answered) = inl answered
finished status (inr ended) = inr (inl ended)

-- what `solve` and `print` end with, as what any command does
pub decided : (status : Status) → IsDecided status → IsWritten status
decided status (inl (inl sat)) = inl (ap is_answered sat)
decided status (inl (inr unsat)) = inl (ap is_answered unsat)
decided status (inr ended) = inr ended

pub done : (status : Status) → IsDone status → IsWritten status
done status (inl printed) = inl (ap is_answered printed)
done status (inr ended) = inr ended

one_of : (status : Status) (refusal : Refusal) → (status ≡ ScriptRefused refusal) ⊎ (status ≡ Memory) → IsOneOf status (ScriptRefused refusal)
one_of status refusal (inl refused) = inl refused
one_of status refusal (inr full) = inr (inl full)

-- a fetch that fails gives no bytes, so there is no answer and no refusal
stops : (status : Status) → ComesFromFetch status → IsOneOf status TooLong
stops ReadFault h = inr (inr refl)
stops TooLong h = inl refl
stops Memory h = inr (inl refl)
stops status h = absurd h

no_answer : (status : Status) → ComesFromFetch status → IsTrue (is_answered status) → ⊥
no_answer ReadFault h answered = cc
no_answer TooLong h answered = cc
no_answer Memory h answered = cc
no_answer status h answered = h

not_refused : (status : Status) (Such : Refusal → Type 0) → ComesFromFetch status → IfScriptRefused status Such
not_refused (ScriptRefused refusal) Such h = absurd h
not_refused status Such h = tt

-- a counter that stays
solving_still : (status : Status) (before now : ℕ) → now ≡ before → CountsSolving status before now
solving_still Sat before now still = omega arith
solving_still Unsat before now still = omega arith
solving_still WriteFault before now still = omega arith
solving_still Memory before now still = omega arith
solving_still status before now still = still

counts_still : (command : Command) (status : Status) (before now : ℕ) → now ≡ before → Counts (Some command) status before now
counts_still (Solve depth file) status before now still = solving_still status before now still
counts_still command status before now still = still

-- the words ask for a command of one file
module _ (line : List (List ℕ)) (command : Command) (file : List ℕ) (asked : asked_for line ≡ Some command) (one : files_of command ≡ file ∷ []) where
  names : names_of (asked_for line) ≡ file ∷ []
  names = ap names_of asked ∙ one

  -- what the shelf gives to the command
  given : (shelf : Files) (Such : Command → List ℕ → Type 0) → Gives line shelf Such → GivesFile shelf file (λ bytes. (length bytes ≤ file_limit) × Such command bytes)
  given shelf Such h =
      first_is (files_of command) file (λ name. GivesFile shelf name (λ bytes. (length bytes ≤ file_limit) × Such command bytes)) one
      (subst (λ c. OfFirst (files_of c) (λ name. GivesFile shelf name (λ bytes. (length bytes ≤ file_limit) × Such c bytes)))
      (one_command line h.0 command h.1 asked) h.2)

  given_long : (shelf : Files) → GivesLong line shelf → GivesFile shelf file (λ bytes. file_limit < length bytes)
  given_long shelf h =
      first_is (files_of command) file (λ name. GivesFile shelf name (λ bytes. file_limit < length bytes)) one
      (subst (λ c. OfFirst (files_of c) (λ name. GivesFile shelf name (λ bytes. file_limit < length bytes))) (one_command line h.0 command h.1 asked) h.2)

  -- the file was fetched, and the command carried out for its bytes
  pub fetched : (bytes : List ℕ) (shelf shelf_after : ShownShelf) (out out_after : ShownOut) (status : Status)
      → Has shelf.files file bytes → length bytes ≤ file_limit → shelf_after.files ≡ shelf.files → shelf_after.asked ≡ with_more shelf.asked (file ∷ [])
      → Responds command bytes out out_after status → CarriesOut line shelf shelf_after out out_after status
  fetched bytes shelf shelf_after out out_after status has short same more responds = record {
    words = (
      λ none. absurd (subst ComesFromBytes none responds.comes),
      λ none. cc (none, asked),
    );
    read_fault = λ fault. absurd (subst ComesFromBytes fault responds.comes);
    too_long = λ fault. absurd (subst ComesFromBytes fault responds.comes);
    refused = if_refused status _ _ (λ refusal is. (command, asked, first (files_of command) file _ one (bytes, has, is))) responds.refused;
    comes = of_bytes status responds.comes;
    answer = λ answered. (command, asked, bytes ∷ [], all_had shelf.files (files_of command) file bytes one has, responds.answer answered);
    write_fault = λ fault. (
      (responds.write_fault fault).0,
      (
        (responds.write_fault fault).1.0,
        (command, asked, bytes ∷ [], all_had shelf.files (files_of command) file bytes one has, (responds.write_fault fault).1.1),
      ),
    );
    silent = responds.silent;
    files = same;
    asked = one_asked shelf.asked shelf_after.asked file (names_of (asked_for line)) names (inr more);
    all_asked = λ answered. subst (λ ns. shelf_after.asked ≡ with_more shelf.asked ns) (sym names) more;
    steps = subst (λ a. Counts a status out.steps out_after.steps) (sym asked) responds.steps;
    complete = λ gives. finished status (responds.complete (given_had shelf.files file bytes _ has (given shelf.files IsTaken gives)).1);
    refuses = λ refusal gives. one_of status refusal (responds.refuses refusal (given_had shelf.files file bytes _ has (given shelf.files (IsRefusedAs refusal) gives)).1);
    long = λ gives. let past : file_limit < length bytes = given_had shelf.files file bytes _ has (given_long shelf.files gives) in absurd (omega arith);
  }

  -- the file wasn't fetched
  pub not_fetched : (shelf shelf_after : ShownShelf) (out out_after : ShownOut) (status : Status)
      → ComesFromFetch status → (status ≡ ReadFault → Rose shelf.faults shelf_after.faults) → (status ≡ TooLong → Tells shelf.files file (λ bytes. file_limit < length bytes))
      → shelf_after.files ≡ shelf.files → AsksOne shelf.asked shelf_after.asked file → out_after.taken ≡ out.taken → out_after.steps ≡ out.steps
      → CarriesOut line shelf shelf_after out out_after status
  not_fetched shelf shelf_after out out_after status comes failed past same more nothing still =
      let short : (Such : Command → List ℕ → Type 0) → Gives line shelf.files Such → status ≡ TooLong → ⊥ = λ Such gives fault.
      let both = given_told shelf.files file (λ bytes. (length bytes ≤ file_limit) × Such command bytes) (λ bytes. file_limit < length bytes) (given shelf.files Such gives) (past fault) in
      let few : length both.0 ≤ file_limit = both.1.0 in
      let many : file_limit < length both.0 = both.2 in
      omega arith in
      record {
        words = (λ none. absurd (subst ComesFromFetch none comes), λ none. cc (none, asked));
        read_fault = failed;
        too_long = λ fault. (command, asked, first (files_of command) file _ one (past fault));
        refused = not_refused status _ comes;
        comes = of_fetch status comes;
        answer = λ answered. absurd (no_answer status comes answered);
        write_fault = λ fault. absurd (subst ComesFromFetch fault comes);
        silent = λ quiet. nothing;
        files = same;
        asked = one_asked shelf.asked shelf_after.asked file (names_of (asked_for line)) names more;
        all_asked = λ answered. absurd (no_answer status comes answered);
        steps = subst (λ a. Counts a status out.steps out_after.steps) (sym asked) (counts_still command status out.steps out_after.steps still);
        complete = λ gives. elim (stops status comes) [
          | inl fault ↦ absurd (short IsTaken gives fault)
          | inr (inl full) ↦ inr (inl (inl full))
          | inr (inr fault) ↦ inr (inr fault)
        ];
        refuses = λ refusal gives. elim (stops status comes) [
          | inl fault ↦ absurd (short (IsRefusedAs refusal) gives fault)
          | inr ended ↦ inr ended
        ];
        long = λ gives. stops status comes;
      }
