-- What is left to bring in, and what is in scope, are together what was asked for.
use Rattle.std.proofs.Common.{◌≡◌, ◌++◌, vec_len}
use Rattle.term_reader.specs.Scopes.{bindings_of}
use Rattle.term_reader.proofs.scope.Scope.enter.Given as goal

abbrev pub invariant-loop-binding : goal.invariant-loop-binding
invariant-loop-binding l = bindings_of l.bindings.items ++ l.self ≡ bindings_of l.initial.bindings.items ++ l.initial.self

abbrev pub decreases-loop-binding : goal.decreases-loop-binding
decreases-loop-binding l = vec_len l.bindings
