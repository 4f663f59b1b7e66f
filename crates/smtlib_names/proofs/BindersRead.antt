-- Binders as the definition reads them, one in turn.
use Rattle.std.proofs.Common.{◌≡◌, ℕ, ◌+◌, Bool, true, false, subst, List, [], ◌∷◌, ◌++◌, Result, Ok, Err, refl, ap, ◌∙◌, append-nil}
use Rattle.mbqi_values.specs.declared.fault.FaultKind.{FaultKind}
use Rattle.mbqi_terms.specs.declared.sort.Sort.{Sort}
use Rattle.sexpr_text.specs.declared.tree.Sexpr.{Sexpr}
use Rattle.smtlib_terms.specs.declared.names.Parameter.{Parameter}
use Rattle.smtlib_terms.specs.declared.names.Variable.{Variable}
use Rattle.mbqi_values.specs.declared.fault.FaultKind.TheVariants.{ReservedName, Twice}
use Rattle.std.specs.Prelude.{if◌then◌else◌}
use Rattle.smtlib_terms.specs.Words.{is_one_of, is_reserved}
use Rattle.mbqi_values.specs.declared.fault.ReadError.{ReadError}
use Rattle.mbqi_values.specs.declared.fault.ReadError.TheVariants.{Refused, Memory}
use Rattle.smtlib_terms.specs.Answers.{IsFault}
use Rattle.smtlib_names.specs.Binders.{parameter_read, parameters_behind, variable_read, variables_behind}
use Rattle.smtlib_terms.specs.Declaring.{parameters_of}
use Rattle.smtlib_terms.specs.Names.{◌>>=◌}
use Rattle.smtlib_terms.specs.Reading.{bindable, binder_name, binder_sort, binders_of, quantifiable}
use Rattle.smtlib_terms.specs.Steps.{behind}
use Rattle.smtlib_terms.proofs.Steps.{behind_next, behind_nothing, two_steps}

-- a value of three steps that is used behind them
three_steps : {A B C D E : Type 0} (r : Result A FaultKind) (p : A → Result E FaultKind) (q : Result B FaultKind) (make : E → B → C) (rest : C → Result D FaultKind)
    → r >>= (λ a. p a >>= (λ e. q >>= (λ b. rest (make e b)))) ≡ r >>= (λ a. p a >>= (λ e. q >>= (λ b. Ok (make e b)))) >>= rest
three_steps (Ok a) p q make rest = two_steps (p a) q make rest
three_steps (Err kind) p q make rest = refl

parameters_next : (t : Sexpr) (ts : List Sexpr) (sorts seen : List (List ℕ))
    → parameters_of (t ∷ ts) sorts seen ≡ parameter_read t sorts seen >>= (λ (p : Parameter). parameters_of ts sorts (seen ++ p.name ∷ []) >>= (λ ps. Ok (p ∷ ps)))
unfolding parameter_read
parameters_next t ts sorts seen =
    two_steps (binder_sort t sorts) (bindable (binder_name t) seen) (λ (s : Sort) (name : List ℕ). let p : Parameter = record { name = name; sort = s } in p)
    (λ (p : Parameter). parameters_of ts sorts (seen ++ p.name ∷ []) >>= (λ ps. Ok (p ∷ ps)))

binders_next : (t : Sexpr) (ts : List Sexpr) (sorts : List (List ℕ)) (place : ℕ) (seen : List (List ℕ))
    → binders_of (t ∷ ts) sorts place seen ≡ variable_read t sorts place seen >>= (λ (v : Variable). binders_of ts sorts (place + 1) (seen ++ v.name ∷ []) >>= (λ vs. Ok (v ∷ vs)))
unfolding variable_read
binders_next t ts sorts place seen =
    three_steps (binder_sort t sorts) quantifiable (bindable (binder_name t) seen)
    (λ (s : Sort) (name : List ℕ). let v : Variable = record { name = name; binder = record { place = place; sort = s } } in v)
    (λ (v : Variable). binders_of ts sorts (place + 1) (seen ++ v.name ∷ []) >>= (λ vs. Ok (v ∷ vs)))

-- a name that was bound is new in its list
bindable_new : (name : List ℕ) (seen : List (List ℕ)) (n : List ℕ) → bindable name seen ≡ Ok n → is_one_of seen n ≡ false
bindable_new name seen n bound = go (is_reserved name) (is_one_of seen name) refl bound
  where
    go : (reserved there : Bool) → is_one_of seen name ≡ there → (if reserved then Err ReservedName else (if there then Err Twice else Ok name)) ≡ Ok n → is_one_of seen n ≡ false
    go true there e made = cc
    go false true e made = cc
    go false false e made = let same : name ≡ n = cc in subst (λ x. is_one_of seen x ≡ false) same e

made_of : {A B : Type 0} (r : Result A FaultKind) (q : Result (List ℕ) FaultKind) (make : A → List ℕ → B) (b : B)
    → r >>= (λ a. q >>= (λ n. Ok (make a n))) ≡ Ok b → (n : List ℕ) × (a : A) × (q ≡ Ok n) × (make a n ≡ b)
made_of (Ok a) (Ok n) make b made = let same : make a n ≡ b = cc in (n, a, refl, same)
made_of (Ok a) (Err kind) make b made = cc
made_of (Err kind) q make b made = cc

pub parameter_new : (t : Sexpr) (sorts seen : List (List ℕ)) (p : Parameter) → parameter_read t sorts seen ≡ Ok p → is_one_of seen p.name ≡ false
unfolding parameter_read
parameter_new t sorts seen p read =
    let parts = made_of (binder_sort t sorts) (bindable (binder_name t) seen) (λ (s : Sort) (name : List ℕ). let p : Parameter = record { name = name; sort = s } in p) p read in
    subst (λ (q : Parameter). is_one_of seen q.name ≡ false) parts.3 (bindable_new (binder_name t) seen parts.0 parts.2)

variable_made : (r : Result Sort FaultKind) (place : ℕ) (name : List ℕ) (seen : List (List ℕ)) (v : Variable)
    → r >>= (λ any. quantifiable any >>= (λ s. bindable name seen >>= (λ n. Ok (record { name = n; binder = record { place = place; sort = s } })))) ≡ Ok v → is_one_of seen v.name ≡ false
variable_made (Err kind) place name seen v made = cc
variable_made (Ok any) place name seen v made =
    let parts = made_of (quantifiable any) (bindable name seen) (λ (s : Sort) (n : List ℕ). let v : Variable = record { name = n; binder = record { place = place; sort = s } } in v) v made in
    subst (λ (w : Variable). is_one_of seen w.name ≡ false) parts.3 (bindable_new name seen parts.0 parts.2)

pub variable_new : (t : Sexpr) (sorts : List (List ℕ)) (place : ℕ) (seen : List (List ℕ)) (v : Variable) → variable_read t sorts place seen ≡ Ok v → is_one_of seen v.name ≡ false
unfolding variable_read
variable_new t sorts place seen v read = variable_made (binder_sort t sorts) place (binder_name t) seen v read

pub parameters_start : (ts : List Sexpr) (sorts : List (List ℕ)) → parameters_behind [] ts sorts [] ≡ parameters_of ts sorts []
unfolding parameters_behind
parameters_start ts sorts = behind_nothing (parameters_of ts sorts [])

pub parameters_end : (before : List Parameter) (sorts seen : List (List ℕ)) → parameters_behind before [] sorts seen ≡ Ok before
unfolding parameters_behind
parameters_end before sorts seen = ap (λ (ps : List Parameter). Ok ps) (append-nil before)

pub parameters_step : (before : List Parameter) (t : Sexpr) (ts : List Sexpr) (sorts seen : List (List ℕ)) (p : Parameter)
    → parameter_read t sorts seen ≡ Ok p → parameters_behind before (t ∷ ts) sorts seen ≡ parameters_behind (before ++ p ∷ []) ts sorts (seen ++ p.name ∷ [])
unfolding parameters_behind
parameters_step before t ts sorts seen p read =
    ap (behind before) (parameters_next t ts sorts seen)
    ∙ ap (λ (r : Result Parameter FaultKind). behind before (r >>= (λ (p : Parameter). parameters_of ts sorts (seen ++ p.name ∷ []) >>= (λ ps. Ok (p ∷ ps))))) read
    ∙ behind_next before p (parameters_of ts sorts (seen ++ p.name ∷ []))

pub parameters_fault : (before : List Parameter) (t : Sexpr) (ts : List Sexpr) (sorts seen : List (List ℕ)) (kind : FaultKind)
    → parameter_read t sorts seen ≡ Err kind → parameters_behind before (t ∷ ts) sorts seen ≡ Err kind
unfolding parameters_behind
parameters_fault before t ts sorts seen kind read =
    ap (behind before) (parameters_next t ts sorts seen)
    ∙ ap (λ (r : Result Parameter FaultKind). behind before (r >>= (λ (p : Parameter). parameters_of ts sorts (seen ++ p.name ∷ []) >>= (λ ps. Ok (p ∷ ps))))) read

pub parameters_faulty : (error : ReadError) (before : List Parameter) (t : Sexpr) (ts : List Sexpr) (sorts seen : List (List ℕ))
    → IsFault error (parameter_read t sorts seen) → IsFault error (parameters_behind before (t ∷ ts) sorts seen)
parameters_faulty (Refused refusal) before t ts sorts seen fault = (parameters_fault before t ts sorts seen refusal.kind fault.0, fault.1)
parameters_faulty Memory before t ts sorts seen fault = tt

pub variables_start : (ts : List Sexpr) (sorts : List (List ℕ)) (place : ℕ) → variables_behind [] ts sorts place [] ≡ binders_of ts sorts place []
unfolding variables_behind
variables_start ts sorts place = behind_nothing (binders_of ts sorts place [])

pub variables_end : (before : List Variable) (sorts : List (List ℕ)) (place : ℕ) (seen : List (List ℕ)) → variables_behind before [] sorts place seen ≡ Ok before
unfolding variables_behind
variables_end before sorts place seen = ap (λ (vs : List Variable). Ok vs) (append-nil before)

pub variables_step : (before : List Variable) (t : Sexpr) (ts : List Sexpr) (sorts : List (List ℕ)) (place : ℕ) (seen : List (List ℕ)) (v : Variable)
    → variable_read t sorts place seen ≡ Ok v → variables_behind before (t ∷ ts) sorts place seen ≡ variables_behind (before ++ v ∷ []) ts sorts (place + 1) (seen ++ v.name ∷ [])
unfolding variables_behind
variables_step before t ts sorts place seen v read =
    ap (behind before) (binders_next t ts sorts place seen)
    ∙ ap (λ (r : Result Variable FaultKind). behind before (r >>= (λ (v : Variable). binders_of ts sorts (place + 1) (seen ++ v.name ∷ []) >>= (λ vs. Ok (v ∷ vs))))) read
    ∙ behind_next before v (binders_of ts sorts (place + 1) (seen ++ v.name ∷ []))

pub variables_fault : (before : List Variable) (t : Sexpr) (ts : List Sexpr) (sorts : List (List ℕ)) (place : ℕ) (seen : List (List ℕ)) (kind : FaultKind)
    → variable_read t sorts place seen ≡ Err kind → variables_behind before (t ∷ ts) sorts place seen ≡ Err kind
unfolding variables_behind
variables_fault before t ts sorts place seen kind read =
    ap (behind before) (binders_next t ts sorts place seen)
    ∙ ap (λ (r : Result Variable FaultKind). behind before (r >>= (λ (v : Variable). binders_of ts sorts (place + 1) (seen ++ v.name ∷ []) >>= (λ vs. Ok (v ∷ vs))))) read

pub variables_faulty : (error : ReadError) (before : List Variable) (t : Sexpr) (ts : List Sexpr) (sorts : List (List ℕ)) (place : ℕ) (seen : List (List ℕ))
    → IsFault error (variable_read t sorts place seen) → IsFault error (variables_behind before (t ∷ ts) sorts place seen)
variables_faulty (Refused refusal) before t ts sorts place seen fault = (variables_fault before t ts sorts place seen refusal.kind fault.0, fault.1)
variables_faulty Memory before t ts sorts place seen fault = tt

pub ruleset parameter_laws = (parameters_start, parameters_end, parameters_step, parameters_fault)

pub ruleset variable_laws = (variables_start, variables_end, variables_step, variables_fault)
