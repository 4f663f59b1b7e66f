use Rattle.std.specs.Prelude.{ℕ, ◌+◌, ◌*◌, ◌-◌, ◌==◌, ◌&&◌, ◌||◌, Bool, true, false, not, nat_le, List, [], ◌∷◌, length, Option, None, Some, codes, if◌then◌else◌}
use Rattle.std.specs.List.{list_all, fold}
use Rattle.std.specs.Option.{option_and_then}
use Rattle.std.specs.Char.{is_ascii_digit}
use Rattle.std.specs.Str.{bytes_eq}

-- The kinds of made scripts.
pub data Kind : Type 0 where
  Sorted : Kind
  Frame : Kind
  Wide : Kind

-- The commands of the program (this project's own), with their files and numbers. `Solve` has the depth that
-- the words give, if they give one.
pub data Command : Type 0 where
  Solve : Option ℕ → List ℕ → Command
  CheckModel : List ℕ → List ℕ → Command
  CheckBoth : List ℕ → List ℕ → List ℕ → Command
  Replay : List ℕ → List ℕ → Command
  Fragment : List ℕ → Command
  Trace : List ℕ → Command
  Print : List ℕ → Command
  Make : Kind → ℕ → Command
  Trial : Kind → ℕ → Command

-- A file's word isn't empty and doesn't begin with `-`.
abbrev pub is_file : List ℕ → Bool
is_file [] = false
is_file (b ∷ bs) = not (b == 45)

-- A numeral: digits without a leading zero, or the one digit 0.
abbrev pub is_numeral : List ℕ → Bool
is_numeral [] = false
is_numeral (b ∷ bs) = list_all is_ascii_digit (b ∷ bs) && (not (b == 48) || length bs == 0)

abbrev pub number_of_digits : List ℕ → ℕ
number_of_digits digits = fold (λ n digit. n * 10 + (digit - 48)) 0 digits

-- The number of a numeral from `low` to `high`.
abbrev pub number_within : ℕ → ℕ → List ℕ → Option ℕ
number_within low high word =
    if is_numeral word && nat_le low (number_of_digits word) && nat_le (number_of_digits word) high
    then Some (number_of_digits word) else None

abbrev pub kind_of : List ℕ → Option Kind
kind_of word =
    if bytes_eq word (codes "sorted") then Some Sorted
    else (if bytes_eq word (codes "frame") then Some Frame
    else (if bytes_eq word (codes "wide") then Some Wide else None))

-- How large a made script of a kind may be.
abbrev pub most_of : Kind → ℕ
most_of Sorted = 2000
most_of Frame = 200
most_of Wide = 200

abbrev pub made : (Kind → ℕ → Command) → List ℕ → List ℕ → Option Command
made command kind number =
    option_and_then (λ k. option_and_then (λ n. Some (command k n)) (number_within 1 (most_of k) number)) (kind_of kind)

-- `solve FILE` and its kin.
abbrev pub of_one_file : List ℕ → List ℕ → Option Command
of_one_file name file =
    if not (is_file file) then None
    else (if bytes_eq name (codes "solve") then Some (Solve None file)
    else (if bytes_eq name (codes "print") then Some (Print file)
    else (if bytes_eq name (codes "fragment") then Some (Fragment file)
    else (if bytes_eq name (codes "trace") then Some (Trace file) else None))))

-- `replay SCRIPT REFUTATION`, `check-model SCRIPT MODEL`, `make KIND N` and `trial KIND N`.
abbrev pub of_two_words : List ℕ → List ℕ → List ℕ → Option Command
of_two_words name first second =
    if bytes_eq name (codes "make") then made Make first second
    else (if bytes_eq name (codes "trial") then made Trial first second
    else (if not (is_file first && is_file second) then None
    else (if bytes_eq name (codes "replay") then Some (Replay first second)
    else (if bytes_eq name (codes "check-model") then Some (CheckModel first second) else None))))

-- `solve --depth N FILE`.
abbrev pub of_depth : List ℕ → List ℕ → List ℕ → List ℕ → Option Command
of_depth name option number file =
    if bytes_eq name (codes "solve") && bytes_eq option (codes "--depth") && is_file file
    then option_and_then (λ n. Some (Solve (Some n) file)) (number_within 0 64 number) else None

-- `check-model --against REFUTATION SCRIPT MODEL`.
abbrev pub of_both : List ℕ → List ℕ → List ℕ → List ℕ → List ℕ → Option Command
of_both name option refutation script model =
    if bytes_eq name (codes "check-model") && bytes_eq option (codes "--against")
    && is_file refutation && is_file script && is_file model
    then Some (CheckBoth refutation script model) else None

-- The command of the words, which come without the program's name.
abbrev pub command_of : List (List ℕ) → Option Command
command_of (name ∷ file ∷ []) = of_one_file name file
command_of (name ∷ first ∷ second ∷ []) = of_two_words name first second
command_of (name ∷ option ∷ number ∷ file ∷ []) = of_depth name option number file
command_of (name ∷ option ∷ refutation ∷ script ∷ model ∷ []) = of_both name option refutation script model
command_of words = None

-- The commands that the program has so far.
abbrev pub is_built : Command → Bool
is_built (Solve None file) = true
is_built (Print file) = true
is_built command = false

-- A command that the program has.
abbrev pub built : Option Command → Option Command
built command = option_and_then (λ c. if is_built c then Some c else None) command

-- The command that the words ask for, where the program has it.
unfoldable pub asked_for : List (List ℕ) → Option Command
asked_for words = built (command_of words)

-- The files of a command, in the order in which they are fetched.
abbrev pub files_of : Command → List (List ℕ)
files_of (Solve depth file) = file ∷ []
files_of (CheckModel script model) = script ∷ model ∷ []
files_of (CheckBoth refutation script model) = script ∷ model ∷ refutation ∷ []
files_of (Replay script refutation) = script ∷ refutation ∷ []
files_of (Fragment file) = file ∷ []
files_of (Trace file) = file ∷ []
files_of (Print file) = file ∷ []
files_of (Make kind n) = []
files_of (Trial kind n) = []
