use Rattle.std.proofs.Common.{◌≡◌, ◌+◌, ◌<◌, OnOk, [], ◌++◌, length, map, sym, ap, subst, ◌∙◌, arith}
use Rattle.element_atoms.specs.Profile.{IsArgument, IsClause}
use Rattle.rule_form.specs.Rules.{clause_of, variables_of}
use Rattle.rule_form.proofs.Shapes.{rule_clause, rule_variables}
use Rattle.tuple_check.specs.Failing.{choice_of, fails_at}
use Rattle.tuple_check.specs.Tuples.{tuples_where}
use Rattle.tuple_check.proofs.Choices.{failing_some}
use Rattle.tuple_check.proofs.failing.push_failing_of.Goals as goal

pub push_failing-requires-clause-clause : goal.push_failing-requires-clause-clause
push_failing-requires-clause-clause c =
    let functions = c.args.functions.now in
    let f = c.args.formula.now in
    let n : c.requires.rule.0 ≡ length c.new-tuple.result.items + c.rule_parts-variables.result.0 =
    omega (arith, ap length c.new-tuple.ensures.items, c.rule_parts-variables.ensures.variables, rule_variables functions f c.requires.rule) in
    let clause = c.rule_parts-variables.ensures.clause ∙ rule_clause functions f c.requires.rule in
    subst (λ k. IsClause functions (IsArgument functions k) c.rule_parts-variables.result.1.now) n
    (subst (IsClause functions (IsArgument functions c.requires.rule.0)) (sym clause) c.requires.rule.3)

pub returns : goal.returns
returns c =
    let pool = c.args.pool.now in
    let atoms = c.args.table.now in
    let truths = c.args.truths.now in
    let f = c.args.formula.now in
    let size = length pool.terms in
    let some : 0 < variables_of f = omega (arith, c.if-variables-eq0.false, c.rule_parts-variables.ensures.variables) in
    let e = ap (map (choice_of pool.terms c.args.rule))
    (ap (λ front. tuples_where (fails_at pool atoms truths c.rule_parts-variables.result.1.now) size c.rule_parts-variables.result.0 front) c.new-tuple.ensures.items
    ∙ (ap (λ n. tuples_where (fails_at pool atoms truths c.rule_parts-variables.result.1.now) size n []) c.rule_parts-variables.ensures.variables
    ∙ ap (λ g. tuples_where (fails_at pool atoms truths g) size (variables_of f) []) c.rule_parts-variables.ensures.clause))
    ∙ failing_some pool atoms truths c.args.rule (variables_of f) (clause_of f) some in
    subst (λ added. OnOk c.push_failing.result (c.push_failing.new.into ≡ c.args.into.now ++ added)) e c.push_failing.ensures.choices
