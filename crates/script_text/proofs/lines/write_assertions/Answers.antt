-- What the lines before hold is behind what was held.
use Rattle.script_text.proofs.Pieces.{behind_one}
use Rattle.script_text.proofs.lines.write_assertions.Goals as goal

pub returns-in_err-write_assertion-clause-err : goal.returns-in_err-write_assertion-clause-err
returns-in_err-write_assertion-clause-err c = behind_one c.from_residual.result _ _ _ _ c.loop-assertion.invariant c.in_err-write_assertion.ensures.err
