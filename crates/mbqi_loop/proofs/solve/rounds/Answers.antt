use Rattle.std.proofs.Common.{◌≡◌, ◌+◌, ◌-◌, ◌<◌, true≢false, List, [], ◌∷◌, ◌++◌, length, sym, ap, subst, ◌∙◌, arith, length-append}
use Rattle.std.specs.Prelude.{Option, None, IfNone, IfSome}
use Rattle.std.proofs.lemmas.Result.{IfOk-weaker}
use Rattle.mbqi_terms.specs.declared.instance.InstanceLine.{InstanceLine}
use Rattle.mbqi_terms.proofs.Options.{none_of}
use Rattle.function_model.specs.Shown.{shown_of}
use Rattle.rule_form.specs.Rules.{count}
use Rattle.mbqi_loop.specs.Journal.{IsJournal, IsRound, Lead, added_in, first_lines, lines_after}
use Rattle.mbqi_loop.specs.Outcome.{decisions}
use Rattle.mbqi_loop.specs.declared.outcome.Outcome.TheVariants.{Sat}
use Rattle.mbqi_loop.specs.declared.outcome.Round.{Round}
use Rattle.mbqi_loop.proofs.Ends.{NoneTrue, are_refuted, decided_at_most, ends_refuted, ends_with_model, fewer_left, some_added}
use Rattle.mbqi_loop.proofs.Journals.{lead_front, lead_push}
use Rattle.mbqi_loop.proofs.solve.rounds.Goals as goal

pub loop-journal-init : goal.loop-journal-init
loop-journal-init g c =
    let script = c.args.script.now in
    record {
      listed = c.requires.listed;
      lead = subst (λ (journal : List Round). Lead script (first_lines script) journal c.args.listed.lines) (sym c.new-journal.ensures) (sym c.requires.first);
      instances = c.requires.instances;
      steps = omega (arith, ap length c.new-journal.ensures);
    }

pub decide-requires-clause-first : goal.decide-requires-clause-first
decide-requires-clause-first g c =
    lead_front c.args.script.now (first_lines c.args.script.now) c.loop-journal.journal c.loop-journal.listed.lines c.loop-journal.invariant.lead

pub returns-in_err-round-clause-at_most : goal.returns-in_err-round-clause-at_most
returns-in_err-round-clause-at_most g c =
    decided_at_most c.args.script.now (first_lines c.args.script.now) c.loop-journal.journal c.loop-journal.listed.lines c.args.steps.now c.tick.new.self
    c.loop-journal.invariant.lead (omega (arith, c.tick.ensures, c.loop-journal.invariant.steps))

pub returns-in_default-clause-refuted : goal.returns-in_default-clause-refuted
returns-in_default-clause-refuted g c =
    let none : c.in_ok-round.field-0 ≡ None = none_of _ c.in_default.not-Some in
    are_refuted c.args.script.now c.loop-journal.listed.lines c.loop-journal.invariant.instances
    (subst (λ (found : Option Round). IfNone found (NoneTrue c.loop-journal.listed.lines)) none c.in_ok-round.ensures.refuted)

pub returns-in_default-clause-journal : goal.returns-in_default-clause-journal
returns-in_default-clause-journal g c =
    let none : c.in_ok-round.field-0 ≡ None = none_of _ c.in_default.not-Some in
    ends_refuted c.args.script.now c.loop-journal.journal c.loop-journal.listed.lines c.loop-journal.invariant.lead
    (subst (λ (found : Option Round). IfNone found (NoneTrue c.loop-journal.listed.lines)) none c.in_ok-round.ensures.refuted)

pub returns-in_default-clause-at_most : goal.returns-in_default-clause-at_most
returns-in_default-clause-at_most g c =
    decided_at_most c.args.script.now (first_lines c.args.script.now) c.loop-journal.journal c.loop-journal.listed.lines c.args.steps.now c.tick.new.self
    c.loop-journal.invariant.lead (omega (arith, c.tick.ensures, c.loop-journal.invariant.steps))

pub returns-then-is_empty-clause-journal : goal.returns-then-is_empty-clause-journal
returns-then-is_empty-clause-journal g c =
    let script = c.args.script.now in
    let journal = c.loop-journal.journal in
    let round = c.in-Some.round in
    let is = subst (λ (found : Option Round). IfSome found (IsRound script c.loop-journal.listed.lines)) c.in-Some.is c.in_ok-round.ensures.round in
    let none : round.added ≡ [] = c.is_empty.ensures.0 c.if-is_empty.true in
    IfOk-weaker c.model_found.result (λ outcome. outcome ≡ Sat (shown_of round.model) (journal ++ round ∷ [])) (IsJournal script)
    (λ outcome e. subst (IsJournal script) (sym e) (ends_with_model script journal c.loop-journal.listed.lines round c.loop-journal.invariant.lead is none))
    c.model_found.ensures

pub returns-then-is_empty-clause-at_most : goal.returns-then-is_empty-clause-at_most
returns-then-is_empty-clause-at_most g c =
    decided_at_most c.args.script.now (first_lines c.args.script.now) c.loop-journal.journal c.loop-journal.listed.lines c.args.steps.now c.tick.new.self
    c.loop-journal.invariant.lead (omega (arith, c.tick.ensures, c.loop-journal.invariant.steps))

pub returns-in_err-listed-clause-at_most : goal.returns-in_err-listed-clause-at_most
returns-in_err-listed-clause-at_most g c =
    decided_at_most c.args.script.now (first_lines c.args.script.now) c.loop-journal.journal c.loop-journal.listed.lines c.args.steps.now c.tick.new.self
    c.loop-journal.invariant.lead (omega (arith, c.tick.ensures, c.loop-journal.invariant.steps))

pub returns-in_err-push-clause-at_most : goal.returns-in_err-push-clause-at_most
returns-in_err-push-clause-at_most g c =
    decided_at_most c.args.script.now (first_lines c.args.script.now) c.loop-journal.journal c.loop-journal.listed.lines c.args.steps.now c.tick.new.self
    c.loop-journal.invariant.lead (omega (arith, c.tick.ensures, c.loop-journal.invariant.steps))

pub loop-journal-smaller : goal.loop-journal-smaller
loop-journal-smaller g c =
    let script = c.args.script.now in
    let journal = c.loop-journal.journal in
    let round = c.in-Some.round in
    let is = subst (λ (found : Option Round). IfSome found (IsRound script c.loop-journal.listed.lines)) c.in-Some.is c.in_ok-round.ensures.round in
    let some = some_added round (λ none. true≢false (sym (c.is_empty.ensures.1 none) ∙ c.if-is_empty.false)) in
    subst (λ (rounds : List Round). count script - length (added_in rounds) < count script - length (added_in journal)) (sym c.in_ok-push.ensures.ok)
    (fewer_left script (first_lines script) journal c.loop-journal.listed.lines round c.loop-journal.invariant.lead is some)

pub loop-journal-preserved : goal.loop-journal-preserved
loop-journal-preserved g c =
    let script = c.args.script.now in
    let journal = c.loop-journal.journal in
    let round = c.in-Some.round in
    let is = subst (λ (found : Option Round). IfSome found (IsRound script c.loop-journal.listed.lines)) c.in-Some.is c.in_ok-round.ensures.round in
    let some = some_added round (λ none. true≢false (sym (c.is_empty.ensures.1 none) ∙ c.if-is_empty.false)) in
    let after = lines_after script c.loop-journal.listed.lines round in
    record {
      listed = c.in_ok-listed.ensures.listed;
      lead = subst (λ (lines : List InstanceLine). Lead script (first_lines script) c.push.new.self lines) (sym c.in_ok-listed.ensures.lines)
          (subst (λ (rounds : List Round). Lead script (first_lines script) rounds after) (sym c.in_ok-push.ensures.ok)
          (lead_push script (first_lines script) journal c.loop-journal.listed.lines round c.loop-journal.invariant.lead is some));
      instances = c.in_ok-listed.ensures.instances;
      steps = omega (arith, c.tick.ensures, c.loop-journal.invariant.steps, ap length c.in_ok-push.ensures.ok, length-append journal (round ∷ []));
    }

pub returns-then-is_empty-clause-decisions : goal.returns-then-is_empty-clause-decisions
returns-then-is_empty-clause-decisions g c =
    let journal = c.loop-journal.journal in
    let round = c.in-Some.round in
    IfOk-weaker c.model_found.result (λ outcome. outcome ≡ Sat (shown_of round.model) (journal ++ round ∷ []))
    (λ outcome. c.tick.new.self ≡ c.args.steps.now + decisions outcome)
    (λ outcome e. subst (λ o. c.tick.new.self ≡ c.args.steps.now + decisions o) (sym e)
    (omega (arith, c.tick.ensures, c.loop-journal.invariant.steps, length-append journal (round ∷ []))))
    c.model_found.ensures
