use Rattle.std.proofs.Common.{IsTrue, List, subst}
use Rattle.std.specs.Prelude.{◌↔◌}
use Rattle.std.specs.List.{AllByRecursion}
use Rattle.mbqi_terms.specs.declared.formula.Formula.{Formula}
use Rattle.element_atoms.specs.Profile.{IsArgument, IsLiteral}
use Rattle.first_profile.proofs.Deciding.{any_parts}
use Rattle.first_profile.proofs.clauses.is_clause.Goals as goal

pub returns-in-Any : goal.returns-in-Any
returns-in-Any c =
    let functions = c.args.functions.now in
    let argument = IsArgument functions c.args.variables in
    let parts = any_parts functions argument c.args.formula.now c.in-Any.literals c.in-Any.is in
    let each = subst (λ (fs : List Formula). IsTrue c.are_literals.result ↔ AllByRecursion (IsLiteral functions argument) fs) c.as_slice.ensures c.are_literals.ensures in
    (λ h. parts.1 (each.0 h), λ clause. each.1 (parts.0 clause))
