use Rattle.std.proofs.Common.{sym, ap, ◌∙◌}
use Rattle.mbqi_terms.specs.declared.formula.Formula.TheVariants as formula
use Rattle.ground_form.specs.Definitions.{parts_in}
use Rattle.ground_form.proofs.Atoms.{not_lit, puts_grows, puts_lit}
use Rattle.ground_form.proofs.Parts.{grows_below_not, own_part}
use Rattle.ground_form.proofs.clauses.+lit_of.Goals as goal

pub returns-in_err-lit_of-in-Not-clause-grows : goal.returns-in_err-lit_of-in-Not-clause-grows
returns-in_err-lit_of-in-Not-clause-grows t c =
    grows_below_not c.args.f.now c.args.table.now c.lit_of.new.table c.get.result.now (c.in-Not.is ∙ ap formula.Not (sym c.get.ensures))
    c.lit_of.ensures.grows

pub returns-in_ok-lit_of-in-Not-clause-grows : goal.returns-in_ok-lit_of-in-Not-clause-grows
returns-in_ok-lit_of-in-Not-clause-grows t c =
    grows_below_not c.args.f.now c.args.table.now c.lit_of.new.table c.get.result.now (c.in-Not.is ∙ ap formula.Not (sym c.get.ensures))
    c.lit_of.ensures.grows

pub returns-in_ok-lit_of-in-Not-clause-lit : goal.returns-in_ok-lit_of-in-Not-clause-lit
returns-in_ok-lit_of-in-Not-clause-lit t c =
    not_lit c.lit_of.new.table c.args.f.now c.get.result.now c.in_ok-lit_of-in-Not.field-0 c.negated.result (c.in-Not.is ∙ ap formula.Not
    (sym c.get.ensures))
    c.negated.ensures c.in_ok-lit_of-in-Not.ensures.lit

pub returns-in_ok-number-in_default : goal.returns-in_ok-number-in_default
returns-in_ok-number-in_default t c = record {
  grows = puts_grows c.args.table.now c.number.new.self c.args.f.now c.in_ok-number-in_default.field-0 c.in_ok-number-in_default.ensures.ok (parts_in c.args.f.now)
      (own_part c.args.f.now);
  lit = puts_lit c.args.table.now c.number.new.self c.args.f.now c.in_ok-number-in_default.field-0 c.in_ok-number-in_default.ensures.ok c.in_default.not-Not;
}
