use Rattle.std.specs.Prelude.{ℕ, List, [], ◌∷◌, ◌++◌, codes, decimal}
use Rattle.std.specs.List.{flat_map}
use Rattle.mbqi_terms.specs.declared.instance.InstanceLine.{InstanceLine}
use Rattle.mbqi_terms.specs.declared.script.Script.{Script}
use Rattle.smtlib_printer.specs.Names.{marks_of}
use Rattle.smtlib_printer.specs.Text.{formula_text_with, list_text, terms_text_with}

-- The text of a refutation (this project's own): an instance of an assertion a line.

-- `(instance A (t ...) g)`: the number of the assertion, the ground terms for its universal places, and the formula.
abbrev pub instance_text : Script → ℕ → InstanceLine → List ℕ
instance_text script marks line =
    list_text (codes "instance" ∷ decimal line.assertion ∷ terms_text_with script marks line.terms ∷ formula_text_with script marks line.formula ∷ [])

abbrev pub instances_text : Script → ℕ → List InstanceLine → List ℕ
instances_text script marks lines = flat_map (λ line. instance_text script marks line ++ codes "\n") lines

-- The lines of a refutation, each ended by a line feed.
unfoldable pub refutation_text : Script → List InstanceLine → List ℕ
refutation_text script lines =
    codes "unsat\n(refutation 1\n" ++ (instances_text script (marks_of script) lines ++ codes ")\n")
