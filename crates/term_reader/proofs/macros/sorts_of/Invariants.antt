use Rattle.std.proofs.Common.{◌≡◌, take}
use Rattle.smtlib_terms.specs.Declaring.{sorts_of}
use Rattle.term_reader.proofs.macros.sorts_of.Given as goal

abbrev pub invariant-loop-parameter : goal.invariant-loop-parameter
invariant-loop-parameter l = l.sorts ≡ sorts_of (take l.parameter-index l.parameters)
