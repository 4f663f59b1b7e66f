-- The pool so far, with the functions that are left, is that of all functions.
use Rattle.std.proofs.Common.{◌≡◌, [], drop}
use Rattle.element_atoms.specs.PoolSteps.{pool_with_all}
use Rattle.element_atoms.proofs.pool.pool_of.Given as goal

abbrev pub invariant-loop-function : goal.invariant-loop-function
invariant-loop-function l =
    pool_with_all l.pool (drop l.function-index l.functions) ≡ pool_with_all (record { terms = []; numbers = [] }) l.functions
