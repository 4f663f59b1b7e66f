use Rattle.function_model.proofs.SameTrees.{same_answer}
use Rattle.function_model.proofs.tabled.is_array.Goals as goal

pub returns : goal.returns
returns c = same_answer c.same_array.result c.args.left.now c.args.right.now c.same_array.ensures
