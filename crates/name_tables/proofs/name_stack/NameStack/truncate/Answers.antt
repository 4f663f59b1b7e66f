use Rattle.std.proofs.Common.{◌<◌, ◌∙◌, length, arith}
use Rattle.name_tables.proofs.Stacks.{one_less}
use Rattle.name_tables.proofs.name_stack.NameStack.truncate.Goals as goal

pub loop-self-preserved : goal.loop-self-preserved
loop-self-preserved g c =
    let more : c.args.len < length c.loop-self.self = omega arith in
    rw c.pop.ensures (one_less c.loop-self.self c.args.len more ∙ c.loop-self.invariant)
