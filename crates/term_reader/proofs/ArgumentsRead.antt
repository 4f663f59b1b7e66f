-- Arguments and bindings as the definition reads them, one in turn.
use Rattle.std.proofs.Common.{◌≡◌, ℕ, ◌+◌, Bool, true, false, List, [], ◌∷◌, ◌++◌, map, None, Some, Result, Ok, Err, refl, ap, sym, ◌∙◌, append-nil, arith, subst, if◌then◌else◌}
use Rattle.mbqi_values.specs.declared.fault.FaultKind.{FaultKind}
use Rattle.mbqi_values.specs.declared.fault.ReadError.{ReadError}
use Rattle.mbqi_values.specs.declared.fault.ReadError.TheVariants.{Refused, Memory}
use Rattle.sexpr_text.specs.declared.tree.Sexpr.{Sexpr}
use Rattle.smtlib_terms.specs.declared.meaning.Meaning.{Meaning}
use Rattle.smtlib_terms.specs.declared.meaning.Bound.TheVariants.{Value}
use Rattle.smtlib_terms.specs.declared.names.Binding.{Binding}
use Rattle.smtlib_terms.specs.Answers.{IsFault}
use Rattle.smtlib_terms.specs.Meaning.{variables_of}
use Rattle.smtlib_terms.specs.Names.{◌>>=◌, Signature}
use Rattle.smtlib_terms.specs.declared.meaning.Side.{Side}
use Rattle.smtlib_terms.specs.declared.meaning.Side.TheVariants.{Meant, Difference}
use Rattle.smtlib_terms.specs.Operators.{plainly, two_sides}
use Rattle.smtlib_terms.specs.Reading.{Part, Reading, bindable, binder_name, bindings_read, inner, part_of, parts_read, readings, side, sides_read, trees_in, value_read, values_read}
use Rattle.smtlib_terms.specs.Steps.{behind}
use Rattle.smtlib_terms.proofs.Steps.{behind_next, behind_nothing, two_steps}
use Rattle.term_reader.specs.Plans.{arguments_behind, arguments_read, binding_among, bindings_among, bindings_behind, is_difference, operator_read, second_side, two_of}
use Rattle.term_reader.proofs.Bindings.{inner_trees, readings_trees}

same_behind : {A : Type 0} (first : Result A FaultKind) (rest other : A → Result (List A) FaultKind) → ((a : A) → rest a ≡ other a)
    → first >>= (λ a. rest a >>= (λ items. Ok (a ∷ items))) ≡ first >>= (λ a. other a >>= (λ items. Ok (a ∷ items)))
same_behind (Ok a) rest other same = ap (λ (r : Result (List _) FaultKind). r >>= (λ items. Ok (a ∷ items))) (same a)
same_behind (Err kind) rest other same = refl

behind_step : {A : Type 0} (before : List A) (first : Result A FaultKind) (rest : A → Result (List A) FaultKind) (a : A) → first ≡ Ok a
    → behind before (first >>= (λ a. rest a >>= (λ items. Ok (a ∷ items)))) ≡ behind (before ++ a ∷ []) (rest a)
behind_step before first rest a read =
    ap (λ (r : Result _ FaultKind). behind before (r >>= (λ a. rest a >>= (λ items. Ok (a ∷ items))))) read ∙ behind_next before a (rest a)

behind_fault : {A : Type 0} (before : List A) (first : Result A FaultKind) (rest : A → Result (List A) FaultKind) (kind : FaultKind) → first ≡ Err kind
    → behind before (first >>= (λ a. rest a >>= (λ items. Ok (a ∷ items)))) ≡ Err kind
behind_fault before first rest kind read = ap (λ (r : Result _ FaultKind). behind before (r >>= (λ a. rest a >>= (λ items. Ok (a ∷ items))))) read

behind_faulty : {A : Type 0} (error : ReadError) (before : List A) (first : Result A FaultKind) (rest : A → Result (List A) FaultKind) → IsFault error first
    → IsFault error (behind before (first >>= (λ a. rest a >>= (λ items. Ok (a ∷ items)))))
behind_faulty (Refused refusal) before first rest fault = (behind_fault before first rest refusal.kind fault.0, fault.1)
behind_faulty Memory before first rest fault = tt

-- the sides of an atom
pub second_is : (left : Side) (right : Result Side FaultKind) → two_sides left right ≡ second_side (is_difference left) right >>= (λ (s : Side). two_sides left (Ok s))
second_is (Meant m) (Ok s) = refl
second_is (Meant m) (Err kind) = refl
second_is (Difference s t) (Ok u) = refl
second_is (Difference s t) (Err kind) = refl

pub two_sides_read : (paired : Bool) (ts : List Sexpr) (a b : Sexpr) (names : Signature) (scope : List Binding) (next : ℕ) → two_of paired ts ≡ Some (a, b)
    → operator_read paired (map part_of ts) names scope next ≡ sides_read (part_of a) (part_of b) names scope next
two_sides_read true [] a b names scope next is = cc
two_sides_read true (c ∷ []) a b names scope next is = cc
two_sides_read true (c ∷ d ∷ []) a b names scope next is =
    let same : (c, d) ≡ (a, b) = cc in
    ap (λ (two : Sexpr × Sexpr). sides_read (part_of two.0) (part_of two.1) names scope next) same
two_sides_read true (c ∷ d ∷ e ∷ ts) a b names scope next is = cc
two_sides_read false ts a b names scope next is = cc

pub no_sides_read : (paired : Bool) (ts : List Sexpr) (names : Signature) (scope : List Binding) (next : ℕ) → two_of paired ts ≡ None
    → operator_read paired (map part_of ts) names scope next ≡ parts_read (map part_of ts) names scope next
no_sides_read true [] names scope next is = refl
no_sides_read true (c ∷ []) names scope next is = refl
no_sides_read true (c ∷ d ∷ []) names scope next is = cc
no_sides_read true (c ∷ d ∷ e ∷ ts) names scope next is = refl
no_sides_read false ts names scope next is = refl

pub ruleset operand_laws = (two_sides_read, no_sides_read)

-- arguments
behind_none : (next : ℕ) → next ≡ next + 0
behind_none next = omega arith

arguments_next : (counted : Bool) (p : Part) (ps : List Part) (names : Signature) (scope : List Binding) (next : ℕ)
    → arguments_read counted (p ∷ ps) names scope next
    ≡ p.reads names scope next >>= plainly >>= (λ m. arguments_read counted ps names scope (next + (if counted then variables_of m else 0)) >>= (λ ms. Ok (m ∷ ms)))
arguments_next true p ps names scope next = refl
arguments_next false p ps names scope next =
    same_behind (p.reads names scope next >>= plainly) (λ m. values_read ps names scope next) (λ m. values_read ps names scope (next + 0))
    (λ m. ap (values_read ps names scope) (behind_none next))

pub arguments_start : (counted : Bool) (ps : List Part) (names : Signature) (scope : List Binding) (next : ℕ)
    → arguments_read counted ps names scope next ≡ arguments_behind [] counted ps names scope next
unfolding arguments_behind
arguments_start counted ps names scope next = sym (behind_nothing (arguments_read counted ps names scope next))

pub arguments_end : (before : List Meaning) (counted : Bool) (names : Signature) (scope : List Binding) (next : ℕ)
    → arguments_behind before counted [] names scope next ≡ Ok before
unfolding arguments_behind
arguments_end before true names scope next = ap (λ (ms : List Meaning). Ok ms) (append-nil before)
arguments_end before false names scope next = ap (λ (ms : List Meaning). Ok ms) (append-nil before)

pub arguments_step : (before : List Meaning) (counted : Bool) (p : Part) (ps : List Part) (names : Signature) (scope : List Binding) (next : ℕ) (m : Meaning)
    → p.reads names scope next >>= plainly ≡ Ok m
    → arguments_behind before counted (p ∷ ps) names scope next ≡ arguments_behind (before ++ m ∷ []) counted ps names scope (next + (if counted then variables_of m else 0))
unfolding arguments_behind
arguments_step before counted p ps names scope next m read =
    ap (behind before) (arguments_next counted p ps names scope next) ∙ behind_step before (p.reads names scope next >>= plainly) _ m read

pub arguments_faulty : (error : ReadError) (before : List Meaning) (counted : Bool) (p : Part) (ps : List Part) (names : Signature) (scope : List Binding) (next : ℕ)
    → IsFault error (p.reads names scope next >>= plainly) → IsFault error (arguments_behind before counted (p ∷ ps) names scope next)
unfolding arguments_behind
arguments_faulty error before counted p ps names scope next fault =
    subst (λ (r : Result (List Meaning) FaultKind). IsFault error (behind before r)) (sym (arguments_next counted p ps names scope next))
    (behind_faulty error before (p.reads names scope next >>= plainly) _ fault)

-- bindings
-- a binding as the definition reads it, by the trees in it
binding_is : (ts : List Sexpr) (name : List ℕ) (names : Signature) (scope : List Binding) (next : ℕ) (seen : List (List ℕ))
    → value_read (map side ts) names scope next >>= (λ m. bindable name seen >>= (λ n. let b : Result Binding FaultKind = Ok (record { name = n; bound = Value next m }) in b))
    ≡ binding_among ts name names scope next seen
binding_is [] name names scope next seen = refl
binding_is (a ∷ []) name names scope next seen = refl
binding_is (a ∷ b ∷ []) name names scope next seen = refl
binding_is (a ∷ b ∷ c ∷ ts) name names scope next seen = refl

binding_read_is : (t : Sexpr) (names : Signature) (scope : List Binding) (next : ℕ) (seen : List (List ℕ))
    → value_read (readings t) names scope next >>= (λ m. bindable (binder_name t) seen >>= (λ n. let b : Result Binding FaultKind = Ok (record { name = n; bound = Value next m }) in b))
    ≡ binding_among (trees_in t) (binder_name t) names scope next seen
binding_read_is t names scope next seen =
    ap (λ (rs : List Reading). value_read rs names scope next >>= (λ m. bindable (binder_name t) seen >>= (λ n. let b : Result Binding FaultKind = Ok (record { name = n; bound = Value next m }) in b))) (readings_trees t)
    ∙ binding_is (trees_in t) (binder_name t) names scope next seen

same_bindings : (first : Result Binding FaultKind) (rest other : Binding → Result (List Binding) FaultKind) → ((b : Binding) → rest b ≡ other b)
    → first >>= (λ b. rest b >>= (λ bs. Ok (b ∷ bs))) ≡ first >>= (λ b. other b >>= (λ bs. Ok (b ∷ bs)))
same_bindings first rest other same = same_behind first rest other same

pub bindings_are : (ts : List Sexpr) (names : Signature) (scope : List Binding) (next : ℕ) (seen : List (List ℕ))
    → bindings_read ts (map readings ts) names scope next seen ≡ bindings_among ts names scope next seen
bindings_are [] names scope next seen = refl
bindings_are (t ∷ ts) names scope next seen =
    two_steps (value_read (readings t) names scope next) (bindable (binder_name t) seen)
    (λ (m : Meaning) (name : List ℕ). let b : Binding = record { name = name; bound = Value next m } in b)
    (λ (b : Binding). bindings_read ts (map readings ts) names scope next (seen ++ b.name ∷ []) >>= (λ bs. Ok (b ∷ bs)))
    ∙ ap (λ (r : Result Binding FaultKind). r >>= (λ (b : Binding). bindings_read ts (map readings ts) names scope next (seen ++ b.name ∷ []) >>= (λ bs. Ok (b ∷ bs)))) (binding_read_is t names scope next seen)
    ∙ same_bindings (binding_among (trees_in t) (binder_name t) names scope next seen) _ _ (λ (b : Binding). bindings_are ts names scope next (seen ++ b.name ∷ []))

pub bindings_inner : (t : Sexpr) (names : Signature) (scope : List Binding) (next : ℕ)
    → bindings_read (trees_in t) (inner t) names scope next [] ≡ bindings_among (trees_in t) names scope next []
bindings_inner t names scope next =
    ap (λ (rs : List (List Reading)). bindings_read (trees_in t) rs names scope next []) (inner_trees t) ∙ bindings_are (trees_in t) names scope next []

pub bindings_start : (ts : List Sexpr) (names : Signature) (scope : List Binding) (next : ℕ)
    → bindings_among ts names scope next [] ≡ bindings_behind [] ts names scope next []
unfolding bindings_behind
bindings_start ts names scope next = sym (behind_nothing (bindings_among ts names scope next []))

pub bindings_end : (before : List Binding) (names : Signature) (scope : List Binding) (next : ℕ) (seen : List (List ℕ))
    → bindings_behind before [] names scope next seen ≡ Ok before
unfolding bindings_behind
bindings_end before names scope next seen = ap (λ (bs : List Binding). Ok bs) (append-nil before)

pub bindings_step : (before : List Binding) (t : Sexpr) (ts : List Sexpr) (names : Signature) (scope : List Binding) (next : ℕ) (seen : List (List ℕ)) (b : Binding)
    → binding_among (trees_in t) (binder_name t) names scope next seen ≡ Ok b
    → bindings_behind before (t ∷ ts) names scope next seen ≡ bindings_behind (before ++ b ∷ []) ts names scope next (seen ++ b.name ∷ [])
unfolding bindings_behind
bindings_step before t ts names scope next seen b read = behind_step before (binding_among (trees_in t) (binder_name t) names scope next seen) _ b read

pub bindings_faulty : (error : ReadError) (before : List Binding) (t : Sexpr) (ts : List Sexpr) (names : Signature) (scope : List Binding) (next : ℕ) (seen : List (List ℕ))
    → IsFault error (binding_among (trees_in t) (binder_name t) names scope next seen) → IsFault error (bindings_behind before (t ∷ ts) names scope next seen)
unfolding bindings_behind
bindings_faulty error before t ts names scope next seen fault =
    behind_faulty error before (binding_among (trees_in t) (binder_name t) names scope next seen) _ fault
