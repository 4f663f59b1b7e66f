-- What the lines before hold is behind what was held.
use Rattle.script_text.proofs.Pieces.{behind_one}
use Rattle.script_text.proofs.lines.write_functions.Goals as goal

pub returns-in_err-write_function_declaration-clause-err : goal.returns-in_err-write_function_declaration-clause-err
returns-in_err-write_function_declaration-clause-err c = behind_one c.from_residual.result _ _ _ _ c.loop-function.invariant c.in_err-write_function_declaration.ensures.err
