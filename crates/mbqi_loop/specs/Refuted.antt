-- Refuted instances (this project's own, after the theorem of Herbrand).
use Rattle.std.specs.Prelude.{◌≡◌, false, List, [], ◌∷◌, All, Contains}
use Rattle.mbqi_terms.specs.declared.instance.InstanceLine.{InstanceLine}
use Rattle.mbqi_terms.specs.declared.script.Script.{Script}
use Rattle.mbqi_terms.specs.declared.term.Term.{Term}
use Rattle.mbqi_terms.specs.Lawful.{IsPlainlyLawful}
use Rattle.mbqi_terms.specs.Meanings.{Meanings, truth_of}
use Rattle.mbqi_terms.specs.Parts.{IsAmong}
use Rattle.mbqi_terms.specs.ScriptLists.{lists_of}
use Rattle.rule_form.specs.Instance.{IsInstance}

-- A term stands in one of the instances: anywhere in its terms or in its formula.
abbrev pub StandsIn : List InstanceLine → Term → Type 0
StandsIn lines t = (line : InstanceLine) × Contains lines line × IsAmong t line.terms (line.formula ∷ [])

-- Each line is an instance of its assertion.
abbrev pub AreInstances : Script → List InstanceLine → Type 0
AreInstances script lines = All (λ (line : InstanceLine). IsInstance script line.assertion line.terms line.formula) lines

-- Each line is an instance of its assertion, and each plainly lawful valuation of the terms that stand in them makes one of them false.
pub record IsRefuted (script : Script) (lines : List InstanceLine) : Type 0 where
  pub instances : AreInstances script lines
  pub falsified : (m : Meanings) → IsPlainlyLawful (lists_of script) (StandsIn lines) m
      → (line : InstanceLine) × Contains lines line × (truth_of m line.formula ≡ false)
