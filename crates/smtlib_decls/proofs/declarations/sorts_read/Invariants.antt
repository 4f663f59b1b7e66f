-- What was read, with what the trees that are left bring, is what all bring.
use Rattle.std.proofs.Common.{◌≡◌, drop}
use Rattle.smtlib_decls.specs.Commands.{sorts_read}
use Rattle.smtlib_decls.specs.Takes.{sorts_behind}
use Rattle.smtlib_decls.proofs.declarations.sorts_read.Given as goal

abbrev pub invariant-loop-tree : goal.invariant-loop-tree
invariant-loop-tree l = sorts_read l.names l.trees ≡ sorts_behind l.sorts l.names (drop l.tree-index l.trees)
