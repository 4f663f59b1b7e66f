-- Rounds lead from list to list, and never add a choice twice.
use Rattle.std.proofs.Common.{◌≡◌, ℕ, ◌≤◌, true, false, true≢false, List, [], ◌∷◌, ◌++◌, length, Some, slice_get, sym, ap, subst, ◌∙◌, arith, append_assoc, append-nil, length-append}
use Rattle.std.specs.Prelude.{All, Contains}
use Rattle.std.specs.List.{list_all}
use Rattle.std.proofs.lemmas.List.Elements.{All-append, All-cons, All-contains, All-nil, All-weaker, recursion_from_All, Contains-append_left, Contains-append_right, Contains-push}
use Rattle.std.proofs.lemmas.List.Folds.{list_all-map}
use Rattle.std.proofs.lemmas.List.Sums.{AllPass-from_list_all}
use Rattle.mbqi_terms.specs.Distinct.{AreDistinct}
use Rattle.mbqi_terms.specs.declared.instance.InstanceLine.{InstanceLine}
use Rattle.mbqi_terms.specs.declared.script.Assertion.{Assertion}
use Rattle.mbqi_terms.specs.declared.script.Script.{Script}
use Rattle.mbqi_terms.proofs.Places.{all_at}
use Rattle.function_model.specs.Holds.{values_in}
use Rattle.mbqi_terms.specs.Meanings.{Meanings, truth_of}
use Rattle.element_atoms.specs.Atoms.{formulas_in}
use Rattle.rule_form.specs.Rules.{IsChoice, line_of, lines_of}
use Rattle.rule_form.specs.declared.choice.Choice.{Choice}
use Rattle.tuple_check.proofs.TupleLists.{distinct_append}
use Rattle.mbqi_loop.specs.Journal.{IsRound, Lead, lines_after, added_in}
use Rattle.mbqi_loop.specs.declared.outcome.Round.{Round}

-- one more round
pub lead_push : (script : Script) (lines : List InstanceLine) (rounds : List Round) (mid : List InstanceLine) (round : Round) → Lead script lines rounds mid
    → IsRound script mid round → 1 ≤ length round.added → Lead script lines (rounds ++ round ∷ []) (lines_after script mid round)
lead_push script lines [] mid round lead is some =
    (subst (λ (l : List InstanceLine). IsRound script l round) (sym lead) is, some, ap (λ (l : List InstanceLine). lines_after script l round) lead)
lead_push script lines (first ∷ rounds) mid round lead is some =
    (lead.0, lead.1, lead_push script (lines_after script lines first) rounds mid round lead.2 is some)

-- the first list is a front of the last
pub lead_front : (script : Script) (lines : List InstanceLine) (rounds : List Round) (last : List InstanceLine) → Lead script lines rounds last
    → (more : List InstanceLine) × (last ≡ lines ++ more)
lead_front script lines [] last lead = ([], sym lead ∙ sym (append-nil lines))
lead_front script lines (round ∷ rounds) last lead =
    let rest = lead_front script (lines_after script lines round) rounds last lead.2 in
    (lines_of script.assertions round.added ++ rest.0, rest.1 ∙ append_assoc lines (lines_of script.assertions round.added) rest.0)

-- instances that are true together are true each
each_true : (m : Meanings) (lines : List InstanceLine) → list_all (truth_of m) (formulas_in lines) ≡ true
    → All (λ (line : InstanceLine). truth_of m line.formula ≡ true) lines
each_true m lines e =
    AllPass-from_list_all (λ (line : InstanceLine). truth_of m line.formula) lines (sym (list_all-map (truth_of m) (λ (line : InstanceLine). line.formula) lines) ∙ e)

-- the instances of the choices stand in the list
abbrev AreListed : Script → List InstanceLine → List Choice → Type 0
AreListed script lines choices = All (λ choice. Contains lines (line_of script.assertions choice)) choices

chosen_there : (assertions : List Assertion) (choices : List Choice) → All (λ choice. Contains (lines_of assertions choices) (line_of assertions choice)) choices
chosen_there assertions [] = All-nil (λ choice. Contains (lines_of assertions []) (line_of assertions choice))
chosen_there assertions (c ∷ choices) =
    let line : Choice → InstanceLine = line_of assertions in
    let rest : List InstanceLine = lines_of assertions choices in
    All-cons (λ choice. Contains (line c ∷ rest) (line choice)) c choices (Contains-append_left (line c ∷ []) rest (line c) (Contains-push [] (line c)))
    (All-weaker (λ choice. Contains rest (line choice)) (λ choice. Contains (line c ∷ rest) (line choice))
    (λ choice h. Contains-append_right (line c ∷ []) rest (line choice) h) choices (chosen_there assertions choices))

listed_after : (script : Script) (lines : List InstanceLine) (round : Round) (seen : List Choice) → AreListed script lines seen
    → AreListed script (lines_after script lines round) (seen ++ round.added)
listed_after script lines round seen there =
    let line : Choice → InstanceLine = line_of script.assertions in
    let new : List InstanceLine = lines_of script.assertions round.added in
    All-append (λ choice. Contains (lines ++ new) (line choice)) seen round.added
    (All-weaker (λ choice. Contains lines (line choice)) (λ choice. Contains (lines ++ new) (line choice))
    (λ choice h. Contains-append_left lines new (line choice) h) seen there)
    (All-weaker (λ choice. Contains new (line choice)) (λ choice. Contains (lines ++ new) (line choice))
    (λ choice h. Contains-append_right lines new (line choice) h) round.added (chosen_there script.assertions round.added))

-- an earlier choice's instance is true in a round's model, and an added one's is false
round_apart : (script : Script) (lines : List InstanceLine) (round : Round) (seen : List Choice) → IsRound script lines round → AreListed script lines seen
    → (i j : ℕ) (choice : Choice) → slice_get seen i ≡ Some choice → slice_get round.added j ≡ Some choice → ⊥
round_apart script lines round seen is there i j choice e f =
    let m : Meanings = values_in round.model in
    let Fails : Choice → Type 0 = λ (c : Choice). truth_of m (line_of script.assertions c).formula ≡ false in
    let Stands : Choice → Type 0 = λ (c : Choice). Contains lines (line_of script.assertions c) in
    let stands : Stands choice = all_at Stands seen i choice (recursion_from_All Stands seen there) e in
    let holds : truth_of m (line_of script.assertions choice).formula ≡ true =
    All-contains (λ (line : InstanceLine). truth_of m line.formula ≡ true) lines (line_of script.assertions choice) (each_true m lines is.listed) stands in
    let fails : Fails choice = all_at Fails round.added j choice (recursion_from_All Fails round.added is.fail) f in
    true≢false (sym holds ∙ fails)

lead_distinct : (script : Script) (lines : List InstanceLine) (rounds : List Round) (last : List InstanceLine) (seen : List Choice)
    → Lead script lines rounds last → AreDistinct seen → AreListed script lines seen → AreDistinct (seen ++ added_in rounds)
lead_distinct script lines [] last seen lead distinct there = subst (λ (cs : List Choice). AreDistinct cs) (sym (append-nil seen)) distinct
lead_distinct script lines (round ∷ rounds) last seen lead distinct there =
    subst (λ (cs : List Choice). AreDistinct cs) (append_assoc seen round.added (added_in rounds))
    (lead_distinct script (lines_after script lines round) rounds last (seen ++ round.added) lead.2
    (distinct_append seen round.added distinct lead.0.differ (round_apart script lines round seen lead.0 there))
    (listed_after script lines round seen there))

-- the rounds add each choice once
pub added_distinct : (script : Script) (lines : List InstanceLine) (rounds : List Round) (last : List InstanceLine) → Lead script lines rounds last
    → AreDistinct (added_in rounds)
added_distinct script lines rounds last lead =
    lead_distinct script lines rounds last [] lead (λ i j c e f. cc) (All-nil (λ choice. Contains lines (line_of script.assertions choice)))

-- they add choices
pub added_choices : (script : Script) (lines : List InstanceLine) (rounds : List Round) (last : List InstanceLine) → Lead script lines rounds last
    → All (IsChoice script) (added_in rounds)
added_choices script lines [] last lead = All-nil (IsChoice script)
added_choices script lines (round ∷ rounds) last lead =
    All-append (IsChoice script) round.added (added_in rounds) lead.0.choices (added_choices script (lines_after script lines round) rounds last lead.2)

-- as many as rounds at least
pub rounds_bound : (script : Script) (lines : List InstanceLine) (rounds : List Round) (last : List InstanceLine) → Lead script lines rounds last
    → length rounds ≤ length (added_in rounds)
rounds_bound script lines [] last lead = omega arith
rounds_bound script lines (round ∷ rounds) last lead =
    omega (arith, lead.1, rounds_bound script (lines_after script lines round) rounds last lead.2, length-append round.added (added_in rounds))
