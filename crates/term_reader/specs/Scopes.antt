-- What is in scope while a tree is read, as the definition speaks of it.
use Rattle.std.specs.Prelude.{ℕ, List, map}
use Rattle.smtlib_terms.specs.declared.meaning.Bound.{Bound}
use Rattle.smtlib_terms.specs.declared.meaning.Bound.TheVariants as bound
use Rattle.smtlib_terms.specs.declared.names.Binding.{Binding}
use Rattle.operator_arguments.specs.Measured.{meaning_of}
use Rattle.term_reader.specs.declared.scope.Bound as kept
use Rattle.term_reader.specs.declared.scope.Bound.TheVariants.{Variable, Value}
use Rattle.term_reader.specs.declared.scope.Binding as kept_binding

-- What a name stands for, and a name with it, without measures.
abbrev pub bound_of : kept.Bound → Bound
bound_of (Variable place s) = bound.Variable place s
bound_of (Value next m) = bound.Value next (meaning_of m)

abbrev pub binding_of : kept_binding.Binding → Binding
binding_of b = record { name = b.name; bound = bound_of b.bound }

abbrev pub bindings_of : List kept_binding.Binding → List Binding
bindings_of bs = map binding_of bs

-- Names in scope with what they stand for.
abbrev pub entries_of : List (List ℕ × kept.Bound) → List Binding
entries_of es = map (λ (e : List ℕ × kept.Bound). record { name = e.0; bound = bound_of e.1 }) es
