-- Binders as they are read one in turn, behind others. No public clause of the reader cites it.
use Rattle.std.specs.Prelude.{ℕ, List, Result, Ok}
use Rattle.mbqi_values.specs.declared.fault.FaultKind.{FaultKind}
use Rattle.sexpr_text.specs.declared.tree.Sexpr.{Sexpr}
use Rattle.smtlib_terms.specs.declared.names.Parameter.{Parameter}
use Rattle.smtlib_terms.specs.declared.names.Variable.{Variable}
use Rattle.smtlib_terms.specs.Declaring.{parameters_of}
use Rattle.smtlib_terms.specs.Names.{◌>>=◌}
use Rattle.smtlib_terms.specs.Reading.{bindable, binder_name, binder_sort, binders_of, quantifiable}
use Rattle.smtlib_terms.specs.Steps.{behind}

-- A parameter of a macro, and a variable of a quantifier, behind those of these names.
unfoldable pub parameter_read : Sexpr → List (List ℕ) → List (List ℕ) → Result Parameter FaultKind
parameter_read t sorts seen =
    binder_sort t sorts >>= (λ s. bindable (binder_name t) seen >>= (λ name. Ok (record { name = name; sort = s })))

unfoldable pub variable_read : Sexpr → List (List ℕ) → ℕ → List (List ℕ) → Result Variable FaultKind
variable_read t sorts place seen =
    binder_sort t sorts >>= (λ any. quantifiable any >>= (λ s. bindable (binder_name t) seen >>= (λ name.
    Ok (record { name = name; binder = record { place = place; sort = s } }))))

-- What is read of binders behind those that were read.
unfoldable pub parameters_behind : List Parameter → List Sexpr → List (List ℕ) → List (List ℕ) → Result (List Parameter) FaultKind
parameters_behind before ts sorts seen = behind before (parameters_of ts sorts seen)

unfoldable pub variables_behind : List Variable → List Sexpr → List (List ℕ) → ℕ → List (List ℕ) → Result (List Variable) FaultKind
variables_behind before ts sorts place seen = behind before (binders_of ts sorts place seen)
