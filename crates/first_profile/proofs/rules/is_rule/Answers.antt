use Rattle.std.proofs.Common.{IsTrue, List, ℕ, length, subst}
use Rattle.std.specs.Prelude.{◌↔◌}
use Rattle.mbqi_terms.specs.declared.formula.Formula.{Formula}
use Rattle.mbqi_terms.specs.declared.sort.Binder.{Binder}
use Rattle.element_atoms.specs.Profile.{IsArgument, IsClause}
use Rattle.first_profile.specs.Parts.{AreVariables}
use Rattle.first_profile.proofs.Deciding.{forall_parts, plain_parts}
use Rattle.first_profile.proofs.rules.is_rule.Goals as goal

pub returns-then-are_variables : goal.returns-then-are_variables
returns-then-are_variables c =
    let functions = c.args.functions.now in
    let parts = forall_parts functions c.args.formula.now c.in-Forall.binders c.in-Forall.clause c.in-Forall.is in
    let variables = subst (λ (bs : List Binder). IsTrue c.are_variables.result ↔ AreVariables bs) c.as_slice.ensures c.are_variables.ensures in
    let over = subst (λ (n : ℕ). IsTrue c.is_clause.result ↔ IsClause functions (IsArgument functions n) c.get.result.now) c.len.ensures c.is_clause.ensures in
    let clause = subst (λ (f : Formula). IsTrue c.is_clause.result ↔ IsClause functions (IsArgument functions (length c.in-Forall.binders)) f) c.get.ensures over in
    (λ h. parts.1 (variables.0 c.if-are_variables.true, clause.0 h), λ rule. clause.1 (parts.0 rule).1)

pub returns-else-are_variables : goal.returns-else-are_variables
returns-else-are_variables c =
    let parts = forall_parts c.args.functions.now c.args.formula.now c.in-Forall.binders c.in-Forall.clause c.in-Forall.is in
    let variables = subst (λ (bs : List Binder). IsTrue c.are_variables.result ↔ AreVariables bs) c.as_slice.ensures c.are_variables.ensures in
    (λ h. let none : ⊥ = cc in absurd none, λ rule. variables.1 (parts.0 rule).0)

pub returns-in_default : goal.returns-in_default
returns-in_default c =
    let parts = plain_parts c.args.functions.now c.args.formula.now c.in_default.not-Forall in
    (λ h. parts.1 (c.is_clause-in_default.ensures.0 h), λ rule. c.is_clause-in_default.ensures.1 (parts.0 rule))
