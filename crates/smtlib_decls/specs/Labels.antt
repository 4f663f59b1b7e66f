-- Labels of assertions (SMT-LIB 2.6, section 3.9: `:named`).
use Rattle.std.specs.Prelude.{◌≡◌, ℕ, ◌+◌, Bool, false, List, [], ◌∷◌, drop, codes, Option, None, Some, Result, Ok, Err, if◌then◌else◌}
use Rattle.std.specs.List.{list_any, position}
use Rattle.std.specs.Option.{option_map_or}
use Rattle.mbqi_values.specs.declared.fault.FaultKind.{FaultKind}
use Rattle.mbqi_values.specs.declared.fault.FaultKind.TheVariants.{BadForm}
use Rattle.mbqi_terms.specs.declared.script.Assertion.{Assertion}
use Rattle.sexpr_text.specs.declared.tree.Sexpr.{Sexpr}
use Rattle.sexpr_text.specs.Trees.{keyword_in}
use Rattle.smtlib_terms.specs.Names.{is_symbol}
use Rattle.smtlib_terms.specs.Reading.{is_some_symbol, text_of, trees_in}
use Rattle.name_tables.specs.Names.{with_name}
use Rattle.smtlib_terms.specs.Words.{is_one_of, is_text}

-- The keyword `:named`.
abbrev pub is_named : Sexpr → Bool
is_named t = option_map_or (λ text. is_text text (codes "named")) (keyword_in t) false

abbrev pub first_symbol : List Sexpr → Result (Option (List ℕ)) FaultKind
first_symbol [] = Err BadForm
first_symbol (t ∷ ts) = if is_some_symbol t then Ok (Some (text_of t)) else Err BadForm

-- What stands behind the first `:named`: a symbol first, and no other `:named`.
abbrev pub label_behind : List Sexpr → Result (Option (List ℕ)) FaultKind
label_behind trees = if list_any is_named trees then Err BadForm else first_symbol trees

abbrev pub label_at : List Sexpr → Option ℕ → Result (Option (List ℕ)) FaultKind
label_at attributes None = Ok None
label_at attributes (Some at) = label_behind (drop (at + 1) attributes)

-- The label that attributes give.
abbrev pub label_among : List Sexpr → Result (Option (List ℕ)) FaultKind
label_among attributes = label_at attributes (position is_named attributes)

abbrev pub attributes_in : List Sexpr → List Sexpr
attributes_in (head ∷ term ∷ attributes) = if is_symbol (codes "!") head then attributes else []
attributes_in trees = []

-- The label of an asserted term: that of `(! t ...)`, where this is the whole term.
unfoldable pub label_of : Sexpr → Result (Option (List ℕ)) FaultKind
label_of t = label_among (attributes_in (trees_in t))

abbrev pub is_labelled : List ℕ → Option (List ℕ) → Bool
is_labelled label None = false
is_labelled label (Some other) = is_text other label

-- Whether an assertion has the label.
abbrev pub is_taken : Option (List ℕ) → List Assertion → Bool
is_taken None assertions = false
is_taken (Some label) assertions = list_any (λ (a : Assertion). is_labelled label a.label) assertions

-- Labels with that of one more assertion, and the labels of assertions, for looking up. No public clause cites them.
abbrev pub with_label : List (List ℕ) → Option (List ℕ) → List (List ℕ)
with_label labels None = labels
with_label labels (Some label) = with_name labels label

abbrev pub AreLabels : List (List ℕ) → List Assertion → Type 0
AreLabels labels assertions = (label : List ℕ) → is_one_of labels label ≡ is_taken (Some label) assertions
