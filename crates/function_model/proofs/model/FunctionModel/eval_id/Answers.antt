use Rattle.std.proofs.Common.{ap, ◌∙◌}
use Rattle.function_model.specs.Holds.{nowhere}
use Rattle.function_model.specs.ValueOf.{value_of}
use Rattle.function_model.proofs.StoreValues.{given_tree, stored_is_evaluable}
use Rattle.function_model.proofs.model.FunctionModel.eval_id.Goals as goal

pub value_of_id-requires-clause-term : goal.value_of_id-requires-clause-term
value_of_id-requires-clause-term c = stored_is_evaluable c.args.store.now c.args.id c.requires.stored c.requires.term

pub returns : goal.returns
returns c t has = c.value_of_id.ensures ∙ ap (λ u. value_of c.args.self.now u nowhere) (given_tree c.args.store.now c.args.id t has)
