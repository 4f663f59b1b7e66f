use Rattle.std.proofs.Common.{◌≡◌, ◌-◌, ◌++◌}
use Rattle.element_models.specs.Elements.{hidden_from}
use Rattle.element_models.proofs.elements.push_hidden.Given as goal

-- the tables so far and those to come are all
abbrev pub invariant-loop-sort : goal.invariant-loop-sort
invariant-loop-sort l =
    l.tables.items ++ hidden_from l.seed l.sort (l.sorts - l.sort) ≡ l.fn.tables.items ++ hidden_from l.seed 0 l.sorts
