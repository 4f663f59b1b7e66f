use Rattle.ground_form.specs.Definitions.{parts_in}
use Rattle.ground_form.proofs.Growth.{grows_both, grows_first, lit_stays}
use Rattle.ground_form.proofs.clauses.define_iff.Goals as goal

pub returns-in_err-first-clause-grows : goal.returns-in_err-first-clause-grows
returns-in_err-first-clause-grows c =
    grows_first (parts_in c.args.left.now) (parts_in c.args.right.now) c.args.table.now c.lit_of.new.table c.lit_of.ensures.grows

pub returns-in_err-second-clause-grows : goal.returns-in_err-second-clause-grows
returns-in_err-second-clause-grows c =
    grows_both (parts_in c.args.left.now) (parts_in c.args.right.now) c.args.table.now c.lit_of.new.table c.lit_of-2.new.table
    c.lit_of.ensures.grows c.lit_of-2.ensures.grows

pub returns-in_err-push_equivalence-clause-grows : goal.returns-in_err-push_equivalence-clause-grows
returns-in_err-push_equivalence-clause-grows c =
    grows_both (parts_in c.args.left.now) (parts_in c.args.right.now) c.args.table.now c.lit_of.new.table c.lit_of-2.new.table
    c.lit_of.ensures.grows c.lit_of-2.ensures.grows

pub returns-clause-grows : goal.returns-clause-grows
returns-clause-grows c =
    grows_both (parts_in c.args.left.now) (parts_in c.args.right.now) c.args.table.now c.lit_of.new.table c.lit_of-2.new.table
    c.lit_of.ensures.grows c.lit_of-2.ensures.grows

pub returns-clause-left : goal.returns-clause-left
returns-clause-left c =
    lit_stays (parts_in c.args.right.now) c.lit_of.new.table c.lit_of-2.new.table c.lit_of-2.ensures.grows c.in_ok-first.first
    c.args.left.now c.in_ok-first.ensures.lit
