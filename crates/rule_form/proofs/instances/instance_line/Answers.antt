use Rattle.std.proofs.Common.{◌≡◌, ℕ, List, ◌+◌, ◌≤◌, length, refl, sym, ap, subst, ◌∙◌, arith}
use Rattle.std.specs.Prelude.{slice_index_or}
use Rattle.std.proofs.lemmas.Option.{slice_get_read}
use Rattle.mbqi_terms.specs.declared.formula.Formula.{Formula}
use Rattle.mbqi_terms.specs.declared.script.Assertion.{Assertion}
use Rattle.element_atoms.specs.Profile.{IsArgument, IsClause}
use Rattle.rule_form.specs.Rules.{assertion_at, clause_at, clause_of, formula_of, line_of}
use Rattle.rule_form.proofs.Chosen.{chosen, chosen_clause, line_clause}
use Rattle.rule_form.proofs.instances.instance_line.Goals as goal

-- the clause of the assertion at a place
the_clause : (assertions : List Assertion) (rule : ℕ) (item : Assertion) (clause : Formula) → rule + 1 ≤ length assertions
    → item ≡ slice_index_or assertions rule item → clause ≡ clause_of item.formula → clause ≡ clause_of (assertion_at assertions rule)
the_clause assertions rule item clause within is e =
    e ∙ sym (ap (λ o. clause_of (formula_of o)) (slice_get_read assertions (length assertions) rule item refl (omega (arith, within)) is))

pub clause_at-requires : goal.clause_at-requires
clause_at-requires c =
    let item : c.index-as_slice-choice.result ≡ slice_index_or c.args.script.now.assertions c.args.choice.now.rule c.index-as_slice-choice.result =
    rw (← c.as_slice.ensures) c.index-as_slice-choice.is in
    let here = the_clause c.args.script.now.assertions c.args.choice.now.rule c.index-as_slice-choice.result c.rule_parts.result.1.now c.requires.choice.rule item
    c.rule_parts.ensures.clause in
    let script = c.args.script.now in
    let choice = c.args.choice.now in
    let clause = chosen_clause script c.requires.elementary choice (chosen script c.requires.elementary choice c.requires.choice) in
    let placed : IsClause script.functions (IsArgument script.functions (length choice.terms)) c.rule_parts.result.1.now =
    subst (IsClause script.functions (IsArgument script.functions (length choice.terms))) (sym here) clause in
    let terms : IsClause script.functions (IsArgument script.functions (length c.as_slice-4.result.now)) c.rule_parts.result.1.now =
    rw (c.as_slice-4.ensures) placed in
    rw (c.as_slice-3.ensures) terms

pub returns : goal.returns
returns c =
    let item : c.index-as_slice-choice.result ≡ slice_index_or c.args.script.now.assertions c.args.choice.now.rule c.index-as_slice-choice.result =
    rw (← c.as_slice.ensures) c.index-as_slice-choice.is in
    let here = the_clause c.args.script.now.assertions c.args.choice.now.rule c.index-as_slice-choice.result c.rule_parts.result.1.now c.requires.choice.rule item
    c.rule_parts.ensures.clause in
    let formula : c.in_ok-clause_at.field-0 ≡ (line_of c.args.script.now.assertions c.args.choice.now).formula =
    c.in_ok-clause_at.ensures ∙ (ap (clause_at c.rule_parts.result.1.now) c.as_slice-4.ensures ∙ ap (λ f. clause_at f c.args.choice.now.terms) here)
    ∙ sym (line_clause c.args.script.now c.requires.elementary c.args.choice.now c.requires.choice) in
    let terms : c.in_ok-copy_terms.field-0 ≡ c.args.choice.now.terms = c.in_ok-copy_terms.ensures ∙ c.as_slice-2.ensures in
    λ i. record { assertion = c.args.choice.now.rule; terms = terms i; formula = formula i }
