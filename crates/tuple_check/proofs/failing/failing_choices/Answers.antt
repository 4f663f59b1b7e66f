use Rattle.std.proofs.Common.{◌≡◌, ℕ, ◌<◌, Bool, false, List, All, drop, ◌++◌, length, refl, sym, ap, subst, ◌∙◌, arith, append-nil, true}
use Rattle.std.specs.Prelude.{◌≤◌, slice_index_or}
use Rattle.std.proofs.lemmas.List.{drop_all}
use Rattle.std.proofs.lemmas.Option.{slice_get_read}
use Rattle.mbqi_terms.specs.Distinct.{AreDistinct}
use Rattle.mbqi_terms.specs.declared.script.Assertion.{Assertion}
use Rattle.mbqi_terms.proofs.Places.{all_at}
use Rattle.mbqi_terms.specs.Meanings.{truth_of}
use Rattle.element_atoms.specs.Profile.{IsRule}
use Rattle.element_atoms.specs.declared.atoms.GroundAtom.{GroundAtom}
use Rattle.element_atoms.specs.declared.pool.Pool.{Pool}
use Rattle.rule_form.specs.declared.choice.Choice.{Choice}
use Rattle.rule_form.specs.Rules.{IsChoice, IsOpen, line_of}
use Rattle.tuple_check.specs.Failing.{failing_from}
use Rattle.tuple_check.proofs.AllChoices.{failing_choices_are, failing_choices_distinct, failing_choices_false, failing_choices_open, nothing_fails}
use Rattle.tuple_check.proofs.failing.failing_choices.Goals as goal

-- past the last rule the choices are those of all rules
whole : (pool : Pool) (atoms : List GroundAtom) (truths : List Bool) (choices : List Choice) (rule : ℕ) (assertions : List Assertion)
    → choices ++ failing_from pool atoms truths rule (drop rule assertions) ≡ failing_from pool atoms truths 0 assertions → length assertions ≤ rule
    → choices ≡ failing_from pool atoms truths 0 assertions
whole pool atoms truths choices rule assertions e past =
    sym (append-nil choices) ∙ (ap (λ rest. choices ++ failing_from pool atoms truths rule rest) (sym (drop_all rule assertions past)) ∙ e)

pub push_failing_of-requires-clause-rule : goal.push_failing_of-requires-clause-rule
push_failing_of-requires-clause-rule c =
    let assertions = c.args.script.now.assertions in
    let item : c.assertion-item.result ≡ slice_index_or assertions c.loop-rule.rule c.assertion-item.result = rw (← c.as_slice-assertion-items.ensures) c.assertion-item.is in
    let within : c.loop-rule.rule < length assertions = omega (arith, c.loop-rule-test.true, ap length c.as_slice-assertion-items.ensures) in
    let there = slice_get_read assertions (length assertions) c.loop-rule.rule c.assertion-item.result refl within item in
    let rule = all_at (λ (a : Assertion). IsRule c.args.script.now.functions a.formula) assertions c.loop-rule.rule c.assertion-item.result c.requires.elementary.assertions there in
    subst (λ functions. IsRule functions c.assertion-item.result.formula) (sym c.as_slice.ensures) rule

pub returns-clause-choices : goal.returns-clause-choices
returns-clause-choices c =
    let script = c.args.script.now in
    let e = whole c.args.pool.now c.args.table.now c.args.truths.now c.loop-rule.choices c.loop-rule.rule script.assertions c.loop-rule.invariant
    (omega (arith, c.loop-rule-test.false, c.loop-rule.auto, ap length c.as_slice-assertion-items.ensures)) in
    subst (All (IsChoice script)) (sym e) (failing_choices_are script c.requires.elementary c.args.pool.now c.requires.pool c.args.table.now c.args.truths.now c.requires.truths)

pub returns-clause-open : goal.returns-clause-open
returns-clause-open c =
    let script = c.args.script.now in
    let e = whole c.args.pool.now c.args.table.now c.args.truths.now c.loop-rule.choices c.loop-rule.rule script.assertions c.loop-rule.invariant
    (omega (arith, c.loop-rule-test.false, c.loop-rule.auto, ap length c.as_slice-assertion-items.ensures)) in
    subst (All IsOpen) (sym e) (failing_choices_open script c.requires.elementary c.args.pool.now c.requires.pool c.args.table.now c.args.truths.now c.requires.truths)

pub returns-clause-distinct : goal.returns-clause-distinct
returns-clause-distinct c =
    let script = c.args.script.now in
    let e = whole c.args.pool.now c.args.table.now c.args.truths.now c.loop-rule.choices c.loop-rule.rule script.assertions c.loop-rule.invariant
    (omega (arith, c.loop-rule-test.false, c.loop-rule.auto, ap length c.as_slice-assertion-items.ensures)) in
    subst AreDistinct (sym e) (failing_choices_distinct script c.requires.elementary c.args.pool.now c.requires.pool c.args.table.now c.args.truths.now c.requires.truths)

pub returns-clause-false_there : goal.returns-clause-false_there
returns-clause-false_there c m decides =
    let script = c.args.script.now in
    let e = whole c.args.pool.now c.args.table.now c.args.truths.now c.loop-rule.choices c.loop-rule.rule script.assertions c.loop-rule.invariant
    (omega (arith, c.loop-rule-test.false, c.loop-rule.auto, ap length c.as_slice-assertion-items.ensures)) in
    subst (All (λ (choice : Choice). truth_of m (line_of script.assertions choice).formula ≡ false)) (sym e)
    (failing_choices_false script c.requires.elementary c.args.pool.now c.requires.pool c.args.table.now c.args.truths.now c.requires.truths m decides)

pub returns-clause-true_elsewhere : goal.returns-clause-true_elsewhere
returns-clause-true_elsewhere c none m decides choice legal open' =
    let script = c.args.script.now in
    let e = whole c.args.pool.now c.args.table.now c.args.truths.now c.loop-rule.choices c.loop-rule.rule script.assertions c.loop-rule.invariant
    (omega (arith, c.loop-rule-test.false, c.loop-rule.auto, ap length c.as_slice-assertion-items.ensures)) in
    nothing_fails script c.requires.elementary c.args.pool.now c.requires.pool c.args.table.now c.args.truths.now c.requires.truths (sym e ∙ none) m decides choice legal open'
