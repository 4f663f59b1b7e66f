-- A constant has no arguments.
use Rattle.smtlib_decls.specs.Commands.{constant_declared}
use Rattle.smtlib_decls.proofs.declarations.declare_constant.Goals as goal

pub returns : goal.returns
unfolding constant_declared
returns c = let e = rw c.new-no_sorts.ensures at c.take_function.ensures in rw c.in_ok-sort.ensures e
