use Rattle.std.specs.Prelude.{ℕ, Bool, true, false, List, [], ◌++◌, map, codes, Option, None, Some}
use Rattle.std.specs.List.{flat_map}
use Rattle.mbqi_terms.specs.declared.script.Assertion.{Assertion}
use Rattle.mbqi_terms.specs.declared.script.Function.{Function}
use Rattle.mbqi_terms.specs.declared.script.Script.{Script}
use Rattle.smtlib_printer.specs.Names.{marks_of, name_text}
use Rattle.smtlib_printer.specs.Text.{formula_text_with, list_text, sort_text}

-- The canonical text of a script (this project's own choice among those of SMT-LIB 2.6, section 3.9): each command on a line
-- of its own, the parts of a command separated by one blank.

-- `(declare-sort s 0)`
unfoldable pub sort_line : List ℕ → List ℕ
sort_line name = codes "(declare-sort " ++ (name_text name ++ codes " 0)\n")

-- The rank of a function behind its name: the sorts of its arguments, in brackets, and of its result (SMT-LIB 2.6, section 4.2.3).
unfoldable pub rank_text : Script → Function → List ℕ
rank_text script f = codes " " ++ (list_text (map (sort_text script) f.args) ++ (codes " " ++ sort_text script f.result))

-- The name and the rank.
unfoldable pub declared_text : Script → Function → List ℕ
declared_text script f = name_text f.name ++ rank_text script f

-- `(declare-fun f (S ...) S)`
unfoldable pub function_line : Script → Function → List ℕ
function_line script f = codes "(declare-fun " ++ (declared_text script f ++ codes ")\n")

-- A formula, and one with a label: `(! t :named l)` (SMT-LIB 2.6, section 3.6.5).
unfoldable pub labelled_text : Option (List ℕ) → List ℕ → List ℕ
labelled_text None text = text
labelled_text (Some label) text = codes "(! " ++ (text ++ (codes " :named " ++ (name_text label ++ codes ")")))

-- `(assert t)`, where variables have so many question marks.
unfoldable pub assertion_line : Script → ℕ → Assertion → List ℕ
assertion_line script marks a = codes "(assert " ++ (labelled_text a.label (formula_text_with script marks a.formula) ++ codes ")\n")

-- `(check-sat)`, where the script asks.
unfoldable pub question_line : Bool → List ℕ
question_line true = codes "(check-sat)\n"
question_line false = []

-- Sorts before functions, functions before assertions, and the question last: so each name is declared before it is used.
abbrev pub script_text : Script → List ℕ
script_text script =
    flat_map sort_line script.sorts
    ++ (flat_map (function_line script) script.functions
    ++ (flat_map (assertion_line script (marks_of script)) script.assertions
    ++ question_line script.asks))
