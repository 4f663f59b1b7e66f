use Rattle.std.specs.Prelude.{◌≡◌, ℕ, ◌==◌, List, [], ◌∷◌, ◌++◌, length, Result, Ok, Err, if◌then◌else◌}
use Rattle.mbqi_values.specs.declared.fault.FaultKind.TheVariants.{Unopened, Unclosed, TooDeep}
use Rattle.mbqi_values.specs.declared.fault.ReadError.{ReadError}
use Rattle.mbqi_values.specs.declared.fault.ReadError.TheVariants.{Refused, Memory}
use Rattle.mbqi_values.specs.declared.fault.Refusal.{Refusal}
use Rattle.sexpr_text.specs.Lexis.{Lexed, Ended, Broken, Next, open_limit}
use Rattle.sexpr_text.specs.declared.reader.Reader.{Reader}
use Rattle.sexpr_text.specs.declared.token.Token.{Token}
use Rattle.sexpr_text.specs.declared.token.Token.TheVariants.{Open, Close, Atom}
use Rattle.sexpr_text.specs.declared.tree.Form.{Form}
use Rattle.sexpr_text.specs.declared.tree.Sexpr.{Sexpr}
use Rattle.sexpr_text.specs.declared.tree.Sexpr.TheVariants as sexpr

-- The plan of the reader, which private functions alone cite; what the reader gives is in Forms.antt.

-- A finished tree goes behind the innermost open bracket, or among the forms.
abbrev pub put_in : List Form → ℕ → List (List Sexpr) → Sexpr → ℕ → ℕ → Reader
put_in forms outermost [] tree from to =
    record { forms = forms ++ record { tree = tree; from = from; to = to } ∷ []; outermost = outermost; rows = [] }
put_in forms outermost (row ∷ rows) tree from to =
    record { forms = forms; outermost = outermost; rows = (row ++ tree ∷ []) ∷ rows }

abbrev pub put : Reader → Sexpr → ℕ → ℕ → Reader
put reader tree from to = put_in reader.forms reader.outermost reader.rows tree from to

abbrev pub opened : Reader → ℕ → Result Reader Refusal
opened reader from =
    if length reader.rows == open_limit then Err (record { at = from; kind = TooDeep })
    else Ok (record {
      forms = reader.forms;
      outermost = if length reader.rows == 0 then from else reader.outermost;
      rows = [] ∷ reader.rows;
    })

abbrev pub closed_in : List Form → ℕ → List (List Sexpr) → ℕ → ℕ → Result Reader Refusal
closed_in forms outermost [] from to = Err (record { at = from; kind = Unopened })
closed_in forms outermost (row ∷ rows) from to = Ok (put_in forms outermost rows (sexpr.List row) outermost to)

-- What the reader is after a token.
abbrev pub step_by : Reader → Token → ℕ → ℕ → Result Reader Refusal
step_by reader Open from to = opened reader from
step_by reader Close from to = closed_in reader.forms reader.outermost reader.rows from to
step_by reader (Atom tree) from to = Ok (put reader tree from to)

abbrev pub finished_in : List Form → ℕ → List (List Sexpr) → Result (List Form) Refusal
finished_in forms outermost [] = Ok forms
finished_in forms outermost (row ∷ rows) = Err (record { at = outermost; kind = Unclosed })

abbrev pub then_read : Result Reader Refusal → (Reader → Result (List Form) Refusal) → Result (List Form) Refusal
then_read (Ok reader) rest = rest reader
then_read (Err refusal) rest = Err refusal

-- What comes of the tokens that are still to be read.
unfoldable pub read_from : Reader → Lexed → Result (List Form) Refusal
read_from reader Ended = finished_in reader.forms reader.outermost reader.rows
read_from reader (Broken refusal) = Err refusal
read_from reader (Next placed rest) =
    then_read (step_by reader placed.token placed.from placed.to) (λ next. read_from next rest)

-- The call took one step, to this reader, unless memory ran out.
abbrev pub Steps : {A : Type 0} → Result A ReadError → Result Reader Refusal → Reader → Type 0
Steps (Ok done) step new = step ≡ Ok new
Steps (Err (Refused refusal)) step new = step ≡ Err refusal
Steps (Err Memory) step new = Unit {0}

-- The call read to the end, unless memory ran out.
abbrev pub Reads : Result (List Form) ReadError → Result (List Form) Refusal → Type 0
Reads (Ok forms) read = read ≡ Ok forms
Reads (Err (Refused refusal)) read = read ≡ Err refusal
Reads (Err Memory) read = Unit {0}

-- The call went on to a place, from which what is read is the same, unless memory ran out.
abbrev pub Turns : Result ℕ ReadError → Result (List Form) Refusal → (ℕ → Result (List Form) Refusal) → Type 0
Turns (Ok to) read rest = read ≡ rest to
Turns (Err (Refused refusal)) read rest = read ≡ Err refusal
Turns (Err Memory) read rest = Unit {0}
