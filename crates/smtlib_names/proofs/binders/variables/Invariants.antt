-- What was read, with what the trees that are left bring, is what all bring.
use Rattle.std.proofs.Common.{◌≡◌, drop, []}
use Rattle.smtlib_names.specs.Binders.{variables_behind}
use Rattle.smtlib_terms.specs.Reading.{binders_of}
use Rattle.smtlib_names.proofs.binders.variables.Given as goal

abbrev pub invariant-loop-tree : goal.invariant-loop-tree
invariant-loop-tree l = binders_of l.trees l.sorts l.fn.place [] ≡ variables_behind l.variables (drop l.tree-index l.trees) l.sorts l.place l.seen
