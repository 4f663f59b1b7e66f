use Rattle.std.proofs.Common.{◌≡◌, ℕ, ◌⊎◌, List, Result, Ok, Err, refl, inl, inr}
use Rattle.mbqi_values.specs.declared.fault.Refusal.{Refusal}
use Rattle.mbqi_terms.specs.declared.script.Script.{Script}
use Rattle.sexpr_text.specs.Forms.{HaveForms}
use Rattle.sexpr_text.specs.declared.tree.Form.{Form}
use Rattle.smtlib_decls.specs.Means.{Means, Refused}
use Rattle.smtlib_decls.specs.Scripts.{script_meant}
use Rattle.smtlib_decls.proofs.laws.one_script_or_refusal.Goals as goal

-- forms mean a script or are refused
by_forms : (bytes : List ℕ) (forms : List Form) → HaveForms bytes forms → (meant : Result Script Refusal) → script_meant forms ≡ meant
    → ((script : Script) × Means bytes script) ⊎ ((refusal : Refusal) × Refused bytes refusal)
by_forms bytes forms have (Ok script) is = inl (script, (forms, have, is))
by_forms bytes forms have (Err refusal) is = inr (refusal, inr (forms, have, is))

pub returns-clause-some : goal.returns-clause-some
returns-clause-some c bytes =
    elim (c.one_answer.ensures.some bytes) [
      | inl forms ↦ by_forms bytes forms.0 forms.1 (script_meant forms.0) refl
      | inr refusal ↦ inr (refusal.0, inl refusal.1)
    ]
