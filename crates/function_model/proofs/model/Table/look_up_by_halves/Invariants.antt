use Rattle.std.proofs.Common.{◌≡◌, take}
use Rattle.function_model.specs.Narrowing.{rows_for}
use Rattle.function_model.proofs.model.Table.look_up_by_halves.Given as goal

-- the rows that agree with the arguments so far
abbrev pub invariant-loop-place : goal.invariant-loop-place
invariant-loop-place l = l.rows ≡ rows_for l.self (take l.place l.args)
