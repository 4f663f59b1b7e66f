use Rattle.std.proofs.Common.{ap, ◌∙◌, ◌++◌, [], ◌∷◌}
use Rattle.mbqi_terms.specs.declared.term.Symbol.TheVariants as symbol
use Rattle.function_model.proofs.EvaluableForms.{call_base, call_is}
use Rattle.function_model.proofs.eval_tests.call.Goals as goal

pub returns-clause-base : goal.returns-clause-base
returns-clause-base c = call_base (symbol.Declared c.args.function) c.push.new.self

pub returns-clause-term : goal.returns-clause-term
returns-clause-term c =
    call_is (symbol.Declared c.args.function) c.push.new.self c.args.arg (c.in_ok-push.ensures.ok ∙ ap (λ ts. ts ++ c.args.arg ∷ []) c.new-args.ensures) c.requires
