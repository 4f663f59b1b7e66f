use Rattle.std.proofs.Common.{IsTrue, List, subst}
use Rattle.std.specs.Prelude.{◌↔◌}
use Rattle.std.specs.List.{AllByRecursion}
use Rattle.mbqi_terms.specs.declared.script.Assertion.{Assertion}
use Rattle.mbqi_terms.specs.declared.script.Function.{Function}
use Rattle.element_atoms.specs.Profile.{IsRule}
use Rattle.first_profile.proofs.scripts.is_elementary.Goals as goal

pub returns-then-are_declarations : goal.returns-then-are_declarations
returns-then-are_declarations c =
    let functions = c.as_slice.result.now in
    let assertions = c.as_slice-then-are_declarations.result.now in
    let before = subst (λ (fs : List Function). IsTrue c.are_rules.result ↔ AllByRecursion (λ (a : Assertion). IsRule fs a.formula) assertions) c.as_slice.ensures c.are_rules.ensures in
    let rules =
    subst (λ (xs : List Assertion). IsTrue c.are_rules.result ↔ AllByRecursion (λ (a : Assertion). IsRule c.args.script.now.functions a.formula) xs)
    c.as_slice-then-are_declarations.ensures before in
    let declared = c.are_declarations.ensures.0 c.if-are_declarations.true in (
      λ h. record { sorts = declared.0.sorts; named = declared.0.named; functions = declared.1; assertions = rules.0 h },
      λ is. rules.1 is.assertions,
    )
