-- What an operator hands from one of its functions to the next. No public clause cites it.
use Rattle.std.specs.Prelude.{Result}
use Rattle.mbqi_values.specs.declared.fault.FaultKind.{FaultKind}
use Rattle.mbqi_terms.specs.declared.sort.Plain.{Plain}
use Rattle.mbqi_terms.specs.declared.term.ArrayTerm.{ArrayTerm}
use Rattle.mbqi_terms.specs.declared.term.ArrayTerm.TheVariants as array
use Rattle.mbqi_terms.specs.declared.term.Term.{Term}
use Rattle.smtlib_terms.specs.declared.meaning.Meaning.{Meaning}
use Rattle.smtlib_terms.specs.Names.{◌>>=◌}
use Rattle.smtlib_terms.specs.Operators.{as_plain, unbound}

-- `store` of an array, an index and a value that is a term of the elements' sort.
abbrev pub stored_value : Plain → Plain → ArrayTerm → Meaning → Term → Result Meaning FaultKind
stored_value i e a m value = as_plain i m >>= (λ index. unbound i e (array.Store a index value))
