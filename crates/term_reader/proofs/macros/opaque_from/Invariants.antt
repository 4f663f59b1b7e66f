-- The arguments so far, with those of the parameters that are left, are all.
use Rattle.std.proofs.Common.{◌≡◌, ◌++◌, drop}
use Rattle.smtlib_terms.specs.Declaring.{opaque_from}
use Rattle.operator_arguments.specs.Measured.{meanings_of}
use Rattle.term_reader.proofs.macros.opaque_from.Given as goal

abbrev pub invariant-loop-parameter : goal.invariant-loop-parameter
invariant-loop-parameter l = opaque_from l.first l.parameters ≡ meanings_of l.args ++ opaque_from l.number (drop l.parameter-index l.parameters)
