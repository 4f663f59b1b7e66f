-- What was read, with what the trees that are left bring, is what all bring.
use Rattle.std.proofs.Common.{◌≡◌, drop, []}
use Rattle.smtlib_names.specs.Binders.{parameters_behind}
use Rattle.smtlib_terms.specs.Declaring.{parameters_of}
use Rattle.smtlib_names.proofs.binders.parameters.Given as goal

abbrev pub invariant-loop-tree : goal.invariant-loop-tree
invariant-loop-tree l = parameters_of l.trees l.sorts [] ≡ parameters_behind l.parameters (drop l.tree-index l.trees) l.sorts l.seen
