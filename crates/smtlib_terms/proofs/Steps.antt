-- Items that are read one in turn, and values of several steps.
use Rattle.std.proofs.Common.{◌≡◌, List, [], ◌∷◌, ◌++◌, Result, Ok, Err, refl, ap, sym, append_assoc}
use Rattle.mbqi_values.specs.declared.fault.FaultKind.{FaultKind}
use Rattle.smtlib_terms.specs.Names.{◌>>=◌}
use Rattle.smtlib_terms.specs.Steps.{behind}

-- one more item was read
pub behind_next : {A : Type 0} (before : List A) (x : A) (rest : Result (List A) FaultKind) → behind before (rest >>= (λ xs. Ok (x ∷ xs))) ≡ behind (before ++ x ∷ []) rest
behind_next before x (Ok xs) = ap (λ (ys : List _). Ok ys) (sym (append_assoc before (x ∷ []) xs))
behind_next before x (Err kind) = refl

-- none was read before
pub behind_nothing : {A : Type 0} (rest : Result (List A) FaultKind) → behind [] rest ≡ rest
behind_nothing (Ok xs) = refl
behind_nothing (Err kind) = refl

-- a value of two steps that is used behind them
pub two_steps : {A B C D : Type 0} (r : Result A FaultKind) (q : Result B FaultKind) (make : A → B → C) (rest : C → Result D FaultKind)
    → r >>= (λ a. q >>= (λ b. rest (make a b))) ≡ r >>= (λ a. q >>= (λ b. Ok (make a b))) >>= rest
two_steps (Ok a) (Ok b) make rest = refl
two_steps (Ok a) (Err kind) make rest = refl
two_steps (Err kind) q make rest = refl
