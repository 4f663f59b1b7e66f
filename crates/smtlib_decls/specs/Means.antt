-- What bytes mean as a script (SMT-LIB 2.6, in this project's profile), and where and how they are refused.
use Rattle.std.specs.Prelude.{◌≡◌, ℕ, ◌⊎◌, List, Ok, Err}
use Rattle.mbqi_values.specs.declared.fault.Refusal.{Refusal}
use Rattle.mbqi_terms.specs.declared.script.Script.{Script}
use Rattle.sexpr_text.specs.declared.tree.Form.{Form}
use Rattle.sexpr_text.specs.Forms.{HaveForms, IsRefused}
use Rattle.smtlib_decls.specs.Scripts.{script_meant}

-- The bytes are the text of forms that mean the script.
abbrev pub Means : List ℕ → Script → Type 0
Means bytes script = (forms : List Form) × HaveForms bytes forms × (script_meant forms ≡ Ok script)

-- The bytes have this first fault as a text, or are the text of forms of which this is the first fault.
abbrev pub Refused : List ℕ → Refusal → Type 0
Refused bytes refusal =
    IsRefused bytes refusal ⊎ ((forms : List Form) × HaveForms bytes forms × (script_meant forms ≡ Err refusal))
