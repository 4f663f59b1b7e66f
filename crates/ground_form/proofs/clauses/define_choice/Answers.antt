use Rattle.std.proofs.Common.{◌++◌, List}
use Rattle.mbqi_terms.specs.declared.formula.Formula.{Formula}
use Rattle.ground_form.specs.Clauses.{GrowsBy}
use Rattle.ground_form.specs.Definitions.{parts_in}
use Rattle.ground_form.proofs.Growth.{grows_both, grows_first, lit_stays}
use Rattle.ground_form.proofs.clauses.define_choice.Goals as goal

-- a table grows by the parts of one formula, of a second one, and of a third
three : (c f g : Formula) (start first second third : List Formula) → GrowsBy (parts_in c) start first → GrowsBy (parts_in f) first second
    → GrowsBy (parts_in g) second third → GrowsBy (parts_in c ++ (parts_in f ++ parts_in g)) start third
three c f g start first second third one two last =
    grows_both (parts_in c) (parts_in f ++ parts_in g) start first third one (grows_both (parts_in f) (parts_in g) first second third two
    last)

pub returns-in_err-chooses-clause-grows : goal.returns-in_err-chooses-clause-grows
returns-in_err-chooses-clause-grows c =
    grows_first (parts_in c.args.condition.now) (parts_in c.args.yes.now ++ parts_in c.args.no.now) c.args.table.now c.lit_of.new.table
    c.lit_of.ensures.grows

pub returns-in_err-first-clause-grows : goal.returns-in_err-first-clause-grows
returns-in_err-first-clause-grows c =
    grows_both (parts_in c.args.condition.now) (parts_in c.args.yes.now ++ parts_in c.args.no.now) c.args.table.now c.lit_of.new.table
    c.lit_of-2.new.table
    c.lit_of.ensures.grows (grows_first (parts_in c.args.yes.now) (parts_in c.args.no.now) c.lit_of.new.table c.lit_of-2.new.table
    c.lit_of-2.ensures.grows)

pub returns-in_err-second-clause-grows : goal.returns-in_err-second-clause-grows
returns-in_err-second-clause-grows c =
    three c.args.condition.now c.args.yes.now c.args.no.now c.args.table.now c.lit_of.new.table c.lit_of-2.new.table c.lit_of-3.new.table
    c.lit_of.ensures.grows c.lit_of-2.ensures.grows c.lit_of-3.ensures.grows

pub returns-in_err-push_choice-clause-grows : goal.returns-in_err-push_choice-clause-grows
returns-in_err-push_choice-clause-grows c =
    three c.args.condition.now c.args.yes.now c.args.no.now c.args.table.now c.lit_of.new.table c.lit_of-2.new.table c.lit_of-3.new.table
    c.lit_of.ensures.grows c.lit_of-2.ensures.grows c.lit_of-3.ensures.grows

pub returns-clause-grows : goal.returns-clause-grows
returns-clause-grows c =
    three c.args.condition.now c.args.yes.now c.args.no.now c.args.table.now c.lit_of.new.table c.lit_of-2.new.table c.lit_of-3.new.table
    c.lit_of.ensures.grows c.lit_of-2.ensures.grows c.lit_of-3.ensures.grows

pub returns-clause-condition : goal.returns-clause-condition
returns-clause-condition c =
    lit_stays (parts_in c.args.no.now) c.lit_of-2.new.table c.lit_of-3.new.table c.lit_of-3.ensures.grows c.in_ok-chooses.chooses
    c.args.condition.now
    (lit_stays (parts_in c.args.yes.now) c.lit_of.new.table c.lit_of-2.new.table c.lit_of-2.ensures.grows c.in_ok-chooses.chooses
    c.args.condition.now c.in_ok-chooses.ensures.lit)

pub returns-clause-yes : goal.returns-clause-yes
returns-clause-yes c =
    lit_stays (parts_in c.args.no.now) c.lit_of-2.new.table c.lit_of-3.new.table c.lit_of-3.ensures.grows c.in_ok-first.first
    c.args.yes.now c.in_ok-first.ensures.lit
