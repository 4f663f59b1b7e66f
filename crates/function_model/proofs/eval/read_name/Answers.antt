use Rattle.std.proofs.Common.{ap, sym, ◌∙◌}
use Rattle.function_model.specs.ValueOf.{array_of}
use Rattle.function_model.proofs.Values.{read_name}
use Rattle.function_model.proofs.eval.read_name.Goals as goal

pub returns : goal.returns
returns c p =
    let m = c.args.model.now in
    c.read_at.ensures ∙ (sym (read_name m p c.in-Name.function c.args.index) ∙ ap (λ a. (array_of m a p).read c.args.index) (sym c.in-Name.is))
