-- The journal of a run of the loop (this project's own, after Ge and de Moura 2009): the model of each round and the choices whose
-- instances it added.
use Rattle.std.specs.Prelude.{◌≡◌, ◌≤◌, true, false, List, [], ◌∷◌, ◌++◌, length, All, Contains}
use Rattle.std.specs.List.{flat_map, list_all}
use Rattle.mbqi_terms.specs.Distinct.{AreDistinct}
use Rattle.mbqi_terms.specs.declared.instance.InstanceLine.{InstanceLine}
use Rattle.mbqi_terms.specs.declared.script.Script.{Script}
use Rattle.function_model.specs.Fits.{FitsFull}
use Rattle.function_model.specs.Holds.{values_in}
use Rattle.function_model.specs.Shown.{shown_of}
use Rattle.mbqi_terms.specs.Meanings.{Meanings, truth_of}
use Rattle.function_model.specs.declared.model.FunctionModel.{FunctionModel}
use Rattle.element_atoms.specs.Atoms.{formulas_in}
use Rattle.rule_form.specs.Rules.{IsChoice, IsOpen, first_from, line_of, lines_of}
use Rattle.rule_form.specs.declared.choice.Choice.{Choice}
use Rattle.mbqi_terms.specs.Lawful.{IsPlainlyLawful}
use Rattle.mbqi_terms.specs.ScriptLists.{lists_of}
use Rattle.mbqi_loop.specs.Refuted.{StandsIn}
use Rattle.mbqi_loop.specs.declared.outcome.Outcome.{Outcome}
use Rattle.mbqi_loop.specs.declared.outcome.Outcome.TheVariants.{Sat, Unsat}
use Rattle.mbqi_loop.specs.declared.outcome.Round.{Round}

-- A round over a list of instances: a full model in which each of them is true, and choices of rules with variables and pool terms that
-- differ, and whose instances are false in the model.
pub record IsRound (script : Script) (lines : List InstanceLine) (round : Round) : Type 0 where
  pub full : FitsFull script round.model
  pub listed : list_all (truth_of (values_in round.model)) (formulas_in lines) ≡ true
  pub choices : All (IsChoice script) round.added
  pub open' : All IsOpen round.added
  pub differ : AreDistinct round.added
  pub fail : All (λ choice. truth_of (values_in round.model) (line_of script.assertions choice).formula ≡ false) round.added

-- The list after a round.
abbrev pub lines_after : Script → List InstanceLine → Round → List InstanceLine
lines_after script lines round = lines ++ lines_of script.assertions round.added

-- The rounds lead from one list to another, and each adds at least one instance.
abbrev pub Lead : Script → List InstanceLine → List Round → List InstanceLine → Type 0
Lead script lines [] last = lines ≡ last
Lead script lines (round ∷ rounds) last =
    IsRound script lines round × (1 ≤ length round.added) × Lead script (lines_after script lines round) rounds last

-- The first list is the instances of the rules without variables.
abbrev pub first_lines : Script → List InstanceLine
first_lines script = first_from 0 script.assertions

-- The last round adds nothing, and the model is the shown part of its model.
pub record EndsWithModel (script : Script) (journal : List Round) (model : FunctionModel) : Type 0 where
  pub earlier : List Round
  pub round : Round
  pub lines : List InstanceLine
  pub rounds : journal ≡ earlier ++ round ∷ []
  pub lead : Lead script (first_lines script) earlier lines
  pub last : IsRound script lines round
  pub adds : round.added ≡ []
  pub shown : model ≡ shown_of round.model

-- No plainly lawful valuation makes the last list true, and each instance that is shown stands in it.
pub record EndsRefuted (script : Script) (journal : List Round) (shown : List InstanceLine) : Type 0 where
  pub lines : List InstanceLine
  pub lead : Lead script (first_lines script) journal lines
  pub refuted : (m : Meanings) → IsPlainlyLawful (lists_of script) (StandsIn lines) m → list_all (truth_of m) (formulas_in lines) ≡ false
  pub listed : All (λ line. Contains lines line) shown

abbrev pub IsJournal : Script → Outcome → Type 0
IsJournal script (Sat model journal) = EndsWithModel script journal model
IsJournal script (Unsat lines journal) = EndsRefuted script journal lines

-- The choices that rounds added, in order.
abbrev pub added_in : List Round → List Choice
added_in rounds = flat_map (λ (round : Round). round.added) rounds
