use Rattle.std.specs.Prelude.{List, ◌++◌, Result, Ok}
use Rattle.mbqi_values.specs.declared.fault.FaultKind.{FaultKind}
use Rattle.smtlib_terms.specs.Names.{◌>>=◌}

-- What is read behind items that were read before.
abbrev pub behind : {A : Type 0} → List A → Result (List A) FaultKind → Result (List A) FaultKind
behind before rest = rest >>= (λ items. Ok (before ++ items))
