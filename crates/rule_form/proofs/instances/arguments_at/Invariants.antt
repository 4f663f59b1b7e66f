use Rattle.std.proofs.Common.{◌≡◌, map, take}
use Rattle.rule_form.specs.Rules.{term_at}
use Rattle.mbqi_terms.specs.Substitution.{put_into}
use Rattle.rule_form.proofs.instances.arguments_at.Given as goal

abbrev pub invariant-loop-arg : goal.invariant-loop-arg
invariant-loop-arg l = l.put ≡ map (put_into (term_at l.terms)) (take l.arg-index l.args)
