use Rattle.std.proofs.Common.{◌≡◌, map, take}
use Rattle.rule_form.specs.Rules.{term_at}
use Rattle.mbqi_terms.specs.Substitution.{put_into_formula}
use Rattle.rule_form.proofs.instances.literals_at.Given as goal

abbrev pub invariant-loop-literal : goal.invariant-loop-literal
invariant-loop-literal l = l.formulas ≡ map (put_into_formula (term_at l.terms)) (take l.literal-index l.literals)
