use Rattle.std.proofs.Common.{sym, ap, subst, ◌∙◌, arith}
use Rattle.std.proofs.lemmas.List.{drop_all}
use Rattle.element_atoms.specs.Atoms.{IsPool}
use Rattle.element_atoms.specs.PoolSteps.{pool_with_all, with_seed}
use Rattle.element_atoms.proofs.Pools.{pool_is}
use Rattle.element_atoms.proofs.pool.pool_of.Goals as goal

pub returns : goal.returns
returns c =
    let whole = ap (pool_with_all c.loop-function.pool) (drop_all c.loop-function.function-index c.args.functions.now (omega arith)) in
    rw (c.in_ok-push_seed.ensures)
    (subst (λ pool. IsPool c.args.functions.now (with_seed pool)) (sym c.loop-function.invariant ∙ whole) (pool_is c.args.functions.now))
