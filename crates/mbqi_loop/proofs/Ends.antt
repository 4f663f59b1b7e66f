-- How the loop ends, and how one more round is counted.
use Rattle.std.proofs.Common.{◌≡◌, ℕ, ◌+◌, ◌-◌, ◌<◌, ◌≤◌, Bool, true, false, true≢false, List, [], ◌∷◌, ◌++◌, ◌&&◌, length, refl, sym, ap, ◌∙◌, arith, append-nil, length-append}
use Rattle.std.specs.Prelude.{Contains}
use Rattle.std.specs.List.{list_all}
use Rattle.std.proofs.lemmas.List.Concat.{flat_map-append}
use Rattle.std.proofs.lemmas.List.Elements.{All-contains_itself, Contains-append_left, Contains-append_right, Contains-push}
use Rattle.mbqi_terms.specs.declared.instance.InstanceLine.{InstanceLine}
use Rattle.mbqi_terms.specs.declared.script.Script.{Script}
use Rattle.function_model.specs.Shown.{shown_of}
use Rattle.mbqi_terms.specs.Meanings.{Meanings, truth_of}
use Rattle.element_atoms.specs.Atoms.{formulas_in}
use Rattle.rule_form.specs.Rules.{count}
use Rattle.rule_form.specs.declared.choice.Choice.{Choice}
use Rattle.mbqi_loop.specs.Journal.{EndsRefuted, EndsWithModel, IsRound, Lead, added_in, first_lines, lines_after}
use Rattle.mbqi_loop.specs.Refuted.{AreInstances, IsRefuted}
use Rattle.mbqi_loop.specs.declared.outcome.Round.{Round}
use Rattle.mbqi_loop.proofs.Counts.{lead_bound}
use Rattle.mbqi_loop.proofs.Journals.{lead_push, rounds_bound}

-- no valuation makes the instances true together
abbrev pub NoneTrue : List InstanceLine → Type 0
NoneTrue lines = (m : Meanings) → list_all (truth_of m) (formulas_in lines) ≡ false

abbrev OneFalse : Meanings → List InstanceLine → Type 0
OneFalse m lines = (line : InstanceLine) × Contains lines line × (truth_of m line.formula ≡ false)

one_false : (m : Meanings) (lines : List InstanceLine) → list_all (truth_of m) (formulas_in lines) ≡ false → OneFalse m lines
one_false m [] e = absurd (true≢false e)
one_false m (line ∷ lines) e = by (truth_of m line.formula) refl (one_false m lines)
  where
    by : (b : Bool) → truth_of m line.formula ≡ b → (list_all (truth_of m) (formulas_in lines) ≡ false → OneFalse m lines) → OneFalse m (line ∷ lines)
    by false p rest = (line, Contains-append_left (line ∷ []) lines line (Contains-push [] line), p)
    by true p rest =
        let r = rest (sym (ap (λ b. b && list_all (truth_of m) (formulas_in lines)) p) ∙ e) in
        (r.0, Contains-append_right (line ∷ []) lines r.0 r.1, r.2)

pub are_refuted : (script : Script) (lines : List InstanceLine) → AreInstances script lines → NoneTrue lines → IsRefuted script lines
are_refuted script lines instances none = record { instances = instances; falsified = λ m lawful. one_false m lines (none m) }

pub ends_refuted : (script : Script) (journal : List Round) (lines : List InstanceLine) → Lead script (first_lines script) journal lines → NoneTrue lines
    → EndsRefuted script journal lines
ends_refuted script journal lines lead none =
    record { lines = lines; lead = lead; refuted = λ m lawful. none m; listed = All-contains_itself lines }

pub ends_with_model : (script : Script) (journal : List Round) (lines : List InstanceLine) (round : Round) → Lead script (first_lines script) journal lines
    → IsRound script lines round → round.added ≡ [] → EndsWithModel script (journal ++ round ∷ []) (shown_of round.model)
ends_with_model script journal lines round lead is none =
    record { earlier = journal; round = round; lines = lines; rounds = refl; lead = lead; last = is; adds = none; shown = refl }

-- a list that isn't empty has an element
pub some_added : (round : Round) → (round.added ≡ [] → ⊥) → 1 ≤ length round.added
some_added round some = by round.added some
  where
    by : (added : List Choice) → (added ≡ [] → ⊥) → 1 ≤ length added
    by [] none = absurd (none refl)
    by (choice ∷ added) none = omega arith

-- a round that adds choices leaves fewer to add
pub fewer_left : (script : Script) (lines : List InstanceLine) (journal : List Round) (mid : List InstanceLine) (round : Round) → Lead script lines journal mid
    → IsRound script mid round → 1 ≤ length round.added
    → count script - length (added_in (journal ++ round ∷ [])) < count script - length (added_in journal)
fewer_left script lines journal mid round lead is some =
    let bound : length (added_in (journal ++ round ∷ [])) ≤ count script =
    lead_bound script lines (journal ++ round ∷ []) (lines_after script mid round) (lead_push script lines journal mid round lead is some) in
    let more : length (added_in (journal ++ round ∷ [])) ≡ length (added_in journal) + length round.added =
    ap length (flat_map-append (λ (r : Round). r.added) journal (round ∷ []))
    ∙ (length-append (added_in journal) (round.added ++ []) ∙ ap (λ (cs : List Choice). length (added_in journal) + length cs) (append-nil round.added)) in
    omega (arith, bound, more, some)

-- so many decisions were made at most
pub decided_at_most : (script : Script) (lines : List InstanceLine) (journal : List Round) (mid : List InstanceLine) (begun now : ℕ)
    → Lead script lines journal mid → now ≡ begun + length journal + 1 → now ≤ begun + count script + 1
decided_at_most script lines journal mid begun now lead is =
    omega (arith, is, lead_bound script lines journal mid lead, rounds_bound script lines journal mid lead)
