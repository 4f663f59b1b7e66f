use Rattle.std.proofs.Common.{arith}
use Rattle.class_forest.proofs.Keeping.{kept_size-le}
use Rattle.class_forest.proofs.forest.ClassForest.class_sizes.Goals as goal

pub returns-clause-valid : goal.returns-clause-valid
returns-clause-valid c = rw (← c.self.view_is) c.self.invariant.0.valid

pub returns-clause-small : goal.returns-clause-small
returns-clause-small c = rw (← c.self.view_is) (λ node within. omega (arith, kept_size-le _ _ _ _ _ node c.self.invariant.0 within, c.self.inside.sizes.small))
