use Rattle.std.proofs.Common.{◌≡◌, []}
use Rattle.std.proofs.lemmas.List.Elements.{All-filter}
use Rattle.function_model.specs.Holds.{values_in}
use Rattle.function_model.specs.Shown.{is_shown}
use Rattle.function_model.specs.declared.model.Table.{Table}
use Rattle.mbqi_loop.specs.Journal.{first_lines}
use Rattle.mbqi_loop.proofs.Rounds.{listed_true, first_true, each_named}
use Rattle.mbqi_loop.proofs.Rules.{script_holds}
use Rattle.mbqi_loop.proofs.decision.decide.Goals as goal

pub returns-in_ok-added-in-Some-clause-round : goal.returns-in_ok-added-in-Some-clause-round
returns-in_ok-added-in-Some-clause-round c =
    let model = c.in_ok-model-in-Some.model in
    let found = rw c.in-Some.is at c.in_ok-truths.ensures.model in
    let of_atoms = rw c.as_slice-atoms.ensures.atoms at c.in_ok-model-in-Some.ensures.decides in
    let decides = rw c.as_slice.ensures at of_atoms in
    let fail = rw c.as_slice-in-Some.ensures at c.in_ok-added-in-Some.ensures.false_there in
    record {
      full = c.in_ok-model-in-Some.ensures.fits;
      listed = listed_true c.args.script.now.functions c.args.pool.now.terms c.args.listed.now c.in-Some.truths (values_in model) c.requires.listed decides found;
      choices = c.in_ok-added-in-Some.ensures.choices;
      open' = c.in_ok-added-in-Some.ensures.open;
      differ = c.in_ok-added-in-Some.ensures.distinct;
      fail = fail (values_in model) decides;
    }

pub returns-in_ok-added-in-Some-clause-holds : goal.returns-in_ok-added-in-Some-clause-holds
returns-in_ok-added-in-Some-clause-holds c = λ none.
    let model = c.in_ok-model-in-Some.model in
    let script = c.args.script.now in
    let found = rw c.in-Some.is at c.in_ok-truths.ensures.model in
    let of_atoms = rw c.as_slice-atoms.ensures.atoms at c.in_ok-model-in-Some.ensures.decides in
    let decides = rw c.as_slice.ensures at of_atoms in
    let elsewhere = rw c.as_slice-in-Some.ensures at c.in_ok-added-in-Some.ensures.true_elsewhere in
    let listed = listed_true script.functions c.args.pool.now.terms c.args.listed.now c.in-Some.truths (values_in model) c.requires.listed decides found in
    script_holds script model (c.shown_fits.ensures script model c.in_ok-model-in-Some.ensures.fits) (c.shown_has_declared.ensures model)
    (each_named script c.args.pool.now model c.requires.elementary c.requires.pool c.in_ok-model-in-Some.ensures.sizes c.in_ok-model-in-Some.ensures.elements)
    (elsewhere none (values_in model) decides) c.requires.elementary
    (first_true (values_in model) (first_lines script) c.requires.first.0 c.args.listed.now.lines c.requires.first.1 listed)

-- what is shown is some of the model's tables
pub returns-in_ok-added-in-Some-clause-bare : goal.returns-in_ok-added-in-Some-clause-bare
returns-in_ok-added-in-Some-clause-bare c =
    All-filter (λ (table : Table). is_shown table.name) (λ (table : Table). table.knots ≡ [] → table.rows ≡ []) c.in_ok-model-in-Some.model.tables
    c.in_ok-model-in-Some.ensures.bare
