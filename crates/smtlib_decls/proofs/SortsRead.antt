-- Sorts as the definition reads them, one in turn.
use Rattle.std.proofs.Common.{◌≡◌, List, [], ◌∷◌, ◌++◌, Result, Ok, Err, ap, ◌∙◌, append-nil}
use Rattle.mbqi_values.specs.declared.fault.FaultKind.{FaultKind}
use Rattle.mbqi_values.specs.declared.fault.ReadError.{ReadError}
use Rattle.mbqi_values.specs.declared.fault.ReadError.TheVariants.{Refused, Memory}
use Rattle.mbqi_terms.specs.declared.sort.Sort.{Sort}
use Rattle.sexpr_text.specs.declared.tree.Sexpr.{Sexpr}
use Rattle.smtlib_terms.specs.Answers.{IsFault}
use Rattle.smtlib_terms.specs.Declaring.{Declarations, sort_read}
use Rattle.smtlib_terms.specs.Names.{◌>>=◌}
use Rattle.smtlib_terms.specs.Steps.{behind}
use Rattle.smtlib_terms.proofs.Steps.{behind_next, behind_nothing}
use Rattle.smtlib_decls.specs.Commands.{sorts_read}
use Rattle.smtlib_decls.specs.Takes.{sorts_behind}

pub sorts_start : (names : Declarations) (ts : List Sexpr) → sorts_behind [] names ts ≡ sorts_read names ts
unfolding sorts_behind
sorts_start names ts = behind_nothing (sorts_read names ts)

pub sorts_end : (before : List Sort) (names : Declarations) → sorts_behind before names [] ≡ Ok before
unfolding sorts_behind
sorts_end before names = ap (λ (ss : List Sort). Ok ss) (append-nil before)

pub sorts_step : (before : List Sort) (names : Declarations) (t : Sexpr) (ts : List Sexpr) (s : Sort)
    → sort_read names t ≡ Ok s → sorts_behind before names (t ∷ ts) ≡ sorts_behind (before ++ s ∷ []) names ts
unfolding sorts_behind
sorts_step before names t ts s read =
    ap (λ (r : Result Sort FaultKind). behind before (r >>= (λ s. sorts_read names ts >>= (λ ss. Ok (s ∷ ss))))) read
    ∙ behind_next before s (sorts_read names ts)

pub sorts_fault : (before : List Sort) (names : Declarations) (t : Sexpr) (ts : List Sexpr) (kind : FaultKind)
    → sort_read names t ≡ Err kind → sorts_behind before names (t ∷ ts) ≡ Err kind
unfolding sorts_behind
sorts_fault before names t ts kind read =
    ap (λ (r : Result Sort FaultKind). behind before (r >>= (λ s. sorts_read names ts >>= (λ ss. Ok (s ∷ ss))))) read

pub sorts_faulty : (error : ReadError) (before : List Sort) (names : Declarations) (t : Sexpr) (ts : List Sexpr)
    → IsFault error (sort_read names t) → IsFault error (sorts_behind before names (t ∷ ts))
sorts_faulty (Refused refusal) before names t ts fault = (sorts_fault before names t ts refusal.kind fault.0, fault.1)
sorts_faulty Memory before names t ts fault = tt

pub ruleset sorts_laws = (sorts_start, sorts_end, sorts_step, sorts_fault)
