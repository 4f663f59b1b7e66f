use Rattle.std.proofs.Common.{sym, ◌∙◌}
use Rattle.clause_search.proofs.FalseClauses.{false_on-from_none}
use Rattle.clause_search.proofs.UnitClauses.{unit_clause}
use Rattle.clause_search.proofs.clause_truth.clause_truth.Goals as goal

pub returns-in-None : goal.returns-in-None
returns-in-None c =
    false_on-from_none c.args.truths.now c.args.clause.now (sym c.if-is_true_on.ensures) (sym c.in-None.ensures)

pub returns-in-Some : goal.returns-in-Some
returns-in-Some c =
    unit_clause c.args.truths.now c.args.clause.now c.in-Some.lit c.requires (sym c.if-is_true_on.ensures) (sym c.in-Some.ensures)
    (sym c.free_lits.ensures ∙ c.if-free_lits-eq1.true)
