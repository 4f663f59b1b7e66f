-- The bindings so far, with those of the parameters and arguments that are left, are all.
use Rattle.std.proofs.Common.{◌≡◌, ◌++◌, drop}
use Rattle.smtlib_terms.specs.Declaring.{arguments}
use Rattle.operator_arguments.specs.Measured.{meanings_of}
use Rattle.term_reader.specs.Scopes.{bindings_of}
use Rattle.term_reader.proofs.macros.arguments.Given as goal

abbrev pub invariant-loop-parameter : goal.invariant-loop-parameter
invariant-loop-parameter l =
    arguments l.parameters (meanings_of l.fn.args) l.next ≡ bindings_of l.bindings ++ arguments (drop l.parameter-index l.parameters) (meanings_of l.args) l.next
