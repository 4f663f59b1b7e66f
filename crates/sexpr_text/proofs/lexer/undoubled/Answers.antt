use Rattle.std.proofs.Common.{arith, append_assoc}
use Rattle.std.proofs.lemmas.Grind.{common_steps}
use Rattle.sexpr_text.specs.Front.{undoubled}
use Rattle.sexpr_text.proofs.ByteSearch.{undoubled_at}
use Rattle.sexpr_text.proofs.lexer.undoubled.Goals as goal

pub loop-at-preserved : goal.loop-at-preserved
loop-at-preserved c = grind (arith, append_assoc, undoubled_at c.args.content.now c.loop-at.at c.loop-at-test.true)

pub returns : goal.returns
unfolding undoubled
returns c = grind (arith, common_steps)
