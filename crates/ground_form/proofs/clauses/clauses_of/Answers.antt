use Rattle.std.proofs.Common.{[], ◌∷◌, ◌++◌, List, ap, ◌∙◌}
use Rattle.mbqi_values.specs.declared.lit.Lit.{Lit}
use Rattle.ground_form.specs.Definitions.{definitions_in, parts_in}
use Rattle.ground_form.proofs.Forced.{formula_forced}
use Rattle.ground_form.proofs.Growth.{grows_again}
use Rattle.ground_form.proofs.Steps.{clauses_below, with_unit}
use Rattle.ground_form.proofs.Truths.{formula_truth}
use Rattle.ground_form.proofs.clauses.clauses_of.Goals as goal

pub returns-in_err-push_definitions-clause-grows : goal.returns-in_err-push_definitions-clause-grows
returns-in_err-push_definitions-clause-grows c =
    grows_again (parts_in c.args.g.now) c.args.table.now c.lit_of.new.table c.push_definitions.new.table c.lit_of.ensures.grows
    c.push_definitions.ensures.grows

pub returns-clause-grows : goal.returns-clause-grows
returns-clause-grows c =
    grows_again (parts_in c.args.g.now) c.args.table.now c.lit_of.new.table c.push_definitions.new.table c.lit_of.ensures.grows
    c.push_definitions.ensures.grows

pub returns-clause-listed : goal.returns-clause-listed
returns-clause-listed c =
    with_unit c.args.g.now c.in_ok-lit.lit c.lit_of.new.table c.push_definitions.new.table c.push_clause.new.clauses
    c.push_definitions.new.clauses
    c.push_definitions.ensures.grows c.in_ok-lit.ensures.lit
    (c.in_ok-push_clause.ensures ∙ ap (λ (clauses : List (List Lit)). clauses ++ (c.in_ok-lit.lit ∷ []) ∷ []) c.new-clauses.ensures)
    (c.in_ok-push_definitions.ensures.clauses c.in_ok-lit.ensures.lit)

pub returns-clause-below : goal.returns-clause-below
returns-clause-below c =
    clauses_below c.push_definitions.new.table c.push_definitions.new.clauses ((c.args.g.now ∷ []) ∷ definitions_in c.args.g.now)
    (returns-clause-listed c)

pub returns-clause-truth : goal.returns-clause-truth
returns-clause-truth c m = formula_truth m c.push_definitions.new.table c.args.g.now c.push_definitions.new.clauses (returns-clause-listed c)

pub returns-clause-forced : goal.returns-clause-forced
returns-clause-forced c m truths agree all =
    formula_forced m c.push_definitions.new.table truths c.are_distinct.ensures agree c.args.g.now c.requires c.push_definitions.new.clauses
    (returns-clause-listed c) all
