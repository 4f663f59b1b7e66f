use Rattle.std.proofs.Common.{ℕ, ◌≡◌, Bool, true, List, Contains, Option, subst}
use Rattle.mbqi_values.specs.declared.lit.Lit.{Lit}
use Rattle.mbqi_values.specs.declared.value.Value.{Value}
use Rattle.clause_search.specs.Course.{Course}
use Rattle.clause_search.specs.Following.{IsConflict}
use Rattle.clause_search.specs.Standing.{IsSound}
use Rattle.clause_search.specs.Truths.{false_on}
use Rattle.clause_search.proofs.Resolution.{Follows-member}

-- Facts that are carried from one state of the theory to the next, and a clause of the list as a conflict.

-- What is lawful is a matter of the problem alone.
pub IsSound-moved : {P : Type 0} (lawful : P → List Value → (ℕ → Bool) → Type 0) (clauses : List (List Lit)) (trail : Course) (p q : P)
    → p ≡ q → IsSound (lawful p) clauses trail → IsSound (lawful q) clauses trail
IsSound-moved {P} lawful clauses trail p q same sound = subst (λ (r : P). IsSound (lawful r) clauses trail) same sound

pub IsConflict-moved : {P : Type 0} (lawful : P → List Value → (ℕ → Bool) → Type 0) (clauses : List (List Lit))
    (truths : List (Option Bool)) (conflict : List Lit) (p q : P)
    → p ≡ q → IsConflict (lawful p) clauses truths conflict → IsConflict (lawful q) clauses truths conflict
IsConflict-moved {P} lawful clauses truths conflict p q same is = subst (λ (r : P). IsConflict (lawful r) clauses truths conflict) same is

-- A clause of the list that is false is a conflict.
pub IsConflict-member : (lawful : List Value → (ℕ → Bool) → Type 0) (clauses : List (List Lit)) (truths : List (Option Bool))
    (clause : List Lit)
    → Contains clauses clause → false_on truths clause ≡ true → IsConflict lawful clauses truths clause
IsConflict-member lawful clauses truths clause member is =
    record { follows = Follows-member lawful clauses clause member; is_false = is }
