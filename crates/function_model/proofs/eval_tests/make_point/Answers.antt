use Rattle.std.proofs.Common.{sym, ◌∙◌}
use Rattle.function_model.proofs.SoundTests.{all_small}
use Rattle.function_model.proofs.eval_tests.make_point.Goals as goal

pub returns : goal.returns
returns c passed = all_small c.args.values.now (sym c.are_small.ensures ∙ passed)
