use Rattle.std.proofs.Common.{◌≡◌, map, take}
use Rattle.smtlib_terms.specs.declared.names.Variable.{Variable}
use Rattle.term_reader.proofs.making.binders_of.Given as goal

abbrev pub invariant-loop-variable : goal.invariant-loop-variable
invariant-loop-variable l = l.binders ≡ map (λ (v : Variable). v.binder) (take l.variable-index l.variables)
