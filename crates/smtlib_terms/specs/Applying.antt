use Rattle.std.specs.Prelude.{ℕ, ◌-◌, ◌==◌, Bool, true, false, ◌&&◌, List, [], ◌∷◌, length, map, codes, Option, None, Some, Result, Ok, Err, if◌then◌else◌}
use Rattle.mbqi_values.specs.declared.fault.FaultKind.{FaultKind}
use Rattle.mbqi_values.specs.declared.fault.FaultKind.TheVariants.{Unsupported, UnknownName, WrongCount, WrongSort}
use Rattle.mbqi_terms.specs.declared.script.Function.{Function}
use Rattle.mbqi_terms.specs.declared.sort.Plain.{Plain}
use Rattle.mbqi_terms.specs.declared.sort.Plain.TheVariants as plain
use Rattle.mbqi_terms.specs.declared.sort.Sort.{Sort}
use Rattle.mbqi_terms.specs.declared.sort.Sort.TheVariants as sort
use Rattle.mbqi_terms.specs.declared.term.ArrayTerm.{ArrayTerm}
use Rattle.mbqi_terms.specs.declared.term.ArrayTerm.TheVariants as array
use Rattle.mbqi_terms.specs.declared.term.MapOp.{MapOp}
use Rattle.mbqi_terms.specs.declared.term.MapOp.TheVariants as op
use Rattle.mbqi_terms.specs.declared.term.Symbol.TheVariants as symbol
use Rattle.mbqi_terms.specs.declared.term.Term.{Term}
use Rattle.mbqi_terms.specs.declared.term.Term.TheVariants as term
use Rattle.smtlib_terms.specs.declared.meaning.Bound.{Bound}
use Rattle.smtlib_terms.specs.declared.meaning.Bound.TheVariants.{Variable, Value}
use Rattle.smtlib_terms.specs.declared.meaning.Meaning.{Meaning}
use Rattle.smtlib_terms.specs.declared.meaning.Meaning.TheVariants as meaning
use Rattle.smtlib_terms.specs.declared.names.Binding.{Binding}
use Rattle.smtlib_terms.specs.Meaning.{shifted, sort_of}
use Rattle.smtlib_terms.specs.Names.{◌>>=◌, Reader, Signature, bound_to, function_named, macro_named}
use Rattle.smtlib_terms.specs.Operators.{term_meant, unbound}
use Rattle.smtlib_terms.specs.Words.{is_reserved_word, is_text}
use Rattle.mbqi_terms.specs.Sort.{plain_sort, is_plain, is_sort}

-- The sorts of the arguments are those of the places.
abbrev pub have_sorts : List Sort → List Meaning → Bool
have_sorts [] [] = true
have_sorts (s ∷ ss) (m ∷ ms) = is_sort s (sort_of m) && have_sorts ss ms
have_sorts [] (m ∷ ms) = false
have_sorts (s ∷ ss) [] = false

-- The result, where the arguments are as many as the places and have their sorts.
abbrev pub fitting : {A : Type 0} → List Sort → List Meaning → Result A FaultKind → Result A FaultKind
fitting sorts args result =
    if length args == length sorts then (if have_sorts sorts args then result else Err WrongSort) else Err WrongCount

-- The arguments of a function as terms. No place takes a formula or an array.
abbrev pub terms_of : List Meaning → Result (List Term) FaultKind
terms_of [] = Ok []
terms_of (meaning.Term s t ∷ ms) = terms_of ms >>= (λ ts. Ok (t ∷ ts))
terms_of (meaning.Formula f ∷ ms) = Err WrongSort
terms_of (meaning.Array i e a ∷ ms) = Err WrongSort

-- An application of the function of a number, by the sort of its result.
abbrev pub application : ℕ → List Term → Sort → Meaning
application number args sort.Truth = term_meant plain.Truth (term.Apply (symbol.Declared number) args)
application number args sort.Int = term_meant plain.Int (term.Apply (symbol.Declared number) args)
application number args (sort.Elem s) = term_meant (plain.Elem s) (term.Apply (symbol.Declared number) args)
application number args (sort.Array i e) = meaning.Array i e (array.Name number)

abbrev pub application_of : ℕ → Sort → List Meaning → Result Meaning FaultKind
application_of number result args = terms_of args >>= (λ ts. Ok (application number ts result))

-- What a name in scope means where `next` is the next place of a variable.
abbrev pub meaning_in_scope : ℕ → Bound → Meaning
meaning_in_scope next (Variable place s) = meaning.Term s (term.Var place)
meaning_in_scope next (Value from m) = shifted from (next - from) m

abbrev pub alone : List Meaning → Meaning → Result Meaning FaultKind
alone [] m = Ok m
alone (arg ∷ args) m = Err WrongCount

abbrev pub function_applied : List Meaning → Option (ℕ × Function) → Result Meaning FaultKind
function_applied args None = Err UnknownName
function_applied args (Some f) = fitting f.1.args args (application_of f.0 f.1.result args)

abbrev pub declared_applied : Signature → List ℕ → ℕ → List Meaning → Option Reader → Result Meaning FaultKind
declared_applied names name next args (Some m) = fitting m.parameters args (m.reads args next)
declared_applied names name next args None = function_applied args (function_named name 0 names.functions)

abbrev pub bound_applied : Signature → List ℕ → ℕ → List Meaning → Option Bound → Result Meaning FaultKind
bound_applied names name next args (Some bound) = alone args (meaning_in_scope next bound)
bound_applied names name next args None = declared_applied names name next args (macro_named name names.macros)

-- A name with its arguments, by its innermost binding (SMT-LIB 2.6, section 3.6).
abbrev pub name_applied : Signature → List Binding → List ℕ → ℕ → List Meaning → Result Meaning FaultKind
name_applied names scope name next args = bound_applied names name next args (bound_to name scope)

-- A pointwise map's function: how many arguments it takes, their sorts, and its result (de Moura and Bjørner
-- 2009). Connectives take formulas.
pub record Pointwise : Type 0 where
  pub op : MapOp
  pub places : List Sort
  pub result : Plain

-- The sort of a plain result; a function with arguments has one.
abbrev pub plain_of : Sort → Plain
plain_of sort.Truth = plain.Truth
plain_of sort.Int = plain.Int
plain_of (sort.Elem s) = plain.Elem s
plain_of (sort.Array i e) = e

abbrev pub connective_of : MapOp → List Meaning → Pointwise
connective_of op args = record { op = op; places = map (λ m. sort.Truth) args; result = plain.Truth }

abbrev pub function_pointwise : Option (ℕ × Function) → Result Pointwise FaultKind
function_pointwise None = Err UnknownName
function_pointwise (Some f) = Ok (record { op = op.Declared f.0; places = f.1.args; result = plain_of f.1.result })

abbrev pub declared_pointwise : Signature → List ℕ → Option Reader → Result Pointwise FaultKind
declared_pointwise names name (Some m) = Err Unsupported
declared_pointwise names name None = function_pointwise (function_named name 0 names.functions)

abbrev pub bound_pointwise : Signature → List ℕ → Option Bound → Result Pointwise FaultKind
bound_pointwise names name (Some bound) = Err Unsupported
bound_pointwise names name None = declared_pointwise names name (macro_named name names.macros)

abbrev pub negation_pointwise : Pointwise
negation_pointwise = record { op = op.Not; places = sort.Truth ∷ []; result = plain.Truth }

abbrev pub pointwise_named : Signature → List Binding → List ℕ → List Meaning → Result Pointwise FaultKind
pointwise_named names scope name args =
    if is_text name (codes "and") then Ok (connective_of op.And args)
    else (if is_text name (codes "or") then Ok (connective_of op.Or args)
    else (if is_text name (codes "not") then Ok negation_pointwise
    else (if is_reserved_word name then Err Unsupported
    else bound_pointwise names name (bound_to name scope))))

-- Arrays over one index sort, with elements of the sorts of the places.
abbrev pub is_over : Plain → Sort → Meaning → Bool
is_over i s (meaning.Array j e a) = is_plain i j && is_sort s (plain_sort e)
is_over i s (meaning.Formula f) = false
is_over i s (meaning.Term t u) = false

abbrev pub are_over : Plain → List Sort → List Meaning → Bool
are_over i [] [] = true
are_over i (s ∷ ss) (m ∷ ms) = is_over i s m && are_over i ss ms
are_over i [] (m ∷ ms) = false
are_over i (s ∷ ss) [] = false

abbrev pub arrays_of : List Meaning → List ArrayTerm
arrays_of [] = []
arrays_of (meaning.Array i e a ∷ ms) = a ∷ arrays_of ms
arrays_of (meaning.Formula f ∷ ms) = arrays_of ms
arrays_of (meaning.Term s t ∷ ms) = arrays_of ms

abbrev pub mapped_over : Pointwise → List Meaning → Result Meaning FaultKind
mapped_over p (meaning.Array i e a ∷ ms) =
    if are_over i p.places (meaning.Array i e a ∷ ms) then unbound i p.result (array.Map p.op (arrays_of (meaning.Array i e a ∷ ms)))
    else Err WrongSort
mapped_over p (meaning.Formula f ∷ ms) = Err WrongSort
mapped_over p (meaning.Term s t ∷ ms) = Err WrongSort
mapped_over p [] = Err WrongCount

-- `((_ map f) a ...)`, with at least one argument and as many as f takes (this project's own).
abbrev pub mapped : Signature → List Binding → List ℕ → List Meaning → Result Meaning FaultKind
mapped names scope name args =
    pointwise_named names scope name args >>= (λ (p : Pointwise).
    if length args == length p.places then mapped_over p args else Err WrongCount)
