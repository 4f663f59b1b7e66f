use Rattle.std.proofs.Common.{All, length, sym, ap, subst, ◌∙◌}
use Rattle.mbqi_terms.specs.declared.formula.Formula.TheVariants as formula
use Rattle.element_atoms.specs.Profile.{IsArgument, IsLiteral}
use Rattle.element_atoms.proofs.Truths.{any_literals}
use Rattle.rule_form.specs.Rules.{term_at}
use Rattle.mbqi_terms.specs.Substitution.{put_into_formula}
use Rattle.rule_form.proofs.Putting.{put_any}
use Rattle.rule_form.proofs.instances.clause_at.Goals as goal

pub literals_at-requires : goal.literals_at-requires
literals_at-requires c =
    let IsArg = IsArgument c.args.functions.now (length c.args.terms.now) in
    subst (All (IsLiteral c.args.functions.now IsArg)) (sym c.as_slice.ensures)
    (any_literals c.args.functions.now IsArg c.args.clause.now c.in-Any.literals c.requires c.in-Any.is)

pub returns-in_ok-literals-in-Any : goal.returns-in_ok-literals-in-Any
returns-in_ok-literals-in-Any c =
    let at = term_at c.args.terms.now in
    ap formula.Any (rw (← c.as_slice.ensures) c.in_ok-literals-in-Any.ensures)
    ∙ sym (ap (put_into_formula at) c.in-Any.is ∙ put_any at c.in-Any.literals)
