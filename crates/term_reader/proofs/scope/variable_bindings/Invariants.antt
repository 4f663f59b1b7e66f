use Rattle.std.proofs.Common.{◌≡◌, map, take}
use Rattle.smtlib_terms.specs.Reading.{binding_of}
use Rattle.term_reader.specs.Scopes.{bindings_of}
use Rattle.term_reader.proofs.scope.variable_bindings.Given as goal

abbrev pub invariant-loop-variable : goal.invariant-loop-variable
invariant-loop-variable l = bindings_of l.bindings ≡ map binding_of (take l.variable-index l.variables)
