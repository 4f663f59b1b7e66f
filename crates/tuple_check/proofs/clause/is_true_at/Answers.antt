use Rattle.std.proofs.Common.{◌≡◌, All, Bool, length, sym, ap, subst, ◌∙◌, IfOk}
use Rattle.std.specs.List.{list_any}
use Rattle.mbqi_terms.specs.declared.formula.Formula.{Formula}
use Rattle.element_atoms.specs.Profile.{IsArgument, IsLiteral}
use Rattle.element_atoms.proofs.Truths.{any_literals}
use Rattle.tuple_check.specs.Failing.{truth_at}
use Rattle.tuple_check.proofs.Truths.{out_any}
use Rattle.tuple_check.proofs.clause.is_true_at.Goals as goal

pub is_one_true_at-requires-clause-literals : goal.is_one_true_at-requires-clause-literals
is_one_true_at-requires-clause-literals c =
    let IsArg = IsArgument c.args.functions.now (length c.args.tuple.now) in
    subst (All (IsLiteral c.args.functions.now IsArg)) (sym c.as_slice.ensures)
    (any_literals c.args.functions.now IsArg c.args.clause.now c.in-Any.literals c.requires.clause c.in-Any.is)

pub returns-in-Any : goal.returns-in-Any
returns-in-Any c =
    let at : Formula → Bool = λ f. truth_at c.args.pool.now c.args.table.now c.args.truths.now f c.args.tuple.now in
    let whole : list_any at c.as_slice.result.now ≡ at c.args.clause.now =
    ap (list_any at) c.as_slice.ensures ∙ sym (ap at c.in-Any.is ∙ out_any c.args.pool.now c.args.table.now c.args.truths.now c.in-Any.literals c.args.tuple.now) in
    subst (λ b. IfOk c.is_one_true_at.result (λ holds. holds ≡ b)) whole c.is_one_true_at.ensures
