use Rattle.std.specs.Prelude.{◌≡◌, ℕ, ◌+◌, ◌<◌, ◌≤◌, Bool, true, false, List, [], ◌∷◌, ◌++◌, Option, length}
use Rattle.std.specs.List.{list_all}
use Rattle.mbqi_values.specs.declared.lit.Lit.{Lit}
use Rattle.mbqi_values.specs.declared.value.Value.{Value}
use Rattle.theory_trait.specs.declared.theory.Theory.{Ghosts}
use Rattle.clause_search.specs.Course.{Course, choices_from, is_chosen, lits_of, no_truths, reason_lits, with_lit, IsNumbered}
use Rattle.clause_search.specs.Following.{Follows}
use Rattle.clause_search.specs.Resolvent.{negation}
use Rattle.clause_search.specs.Truths.{decided_on, false_on, true_on}
use Rattle.clause_search.specs.declared.step.Reason.{Reason}
use Rattle.clause_search.specs.declared.step.Step.{Step}

-- How the search stands between its calls (this project's own).

-- The reason implies the literal: its clause follows, and is false once the literal is.
pub record Implies (lawful : List Value → (ℕ → Bool) → Type 0) (clauses : List (List Lit)) (truths : List (Option Bool)) (lit : Lit)
    (reason : Reason) : Type 0 where
  pub numbered : IsNumbered clauses reason
  pub follows : Follows lawful clauses (reason_lits clauses reason)
  pub is_false : false_on (with_lit truths (negation lit)) (reason_lits clauses reason) ≡ true

-- Each step that wasn't chosen is implied by its reason and the steps before it.
abbrev pub AreImplied : (List Value → (ℕ → Bool) → Type 0) → List (List Lit) → List (Option Bool) → List Step → Type 0
AreImplied lawful clauses truths [] = Unit {0}
AreImplied lawful clauses truths (step ∷ steps) =
    (is_chosen step.reason ≡ false → Implies lawful clauses truths step.lit step.reason)
    × AreImplied lawful clauses (with_lit truths step.lit) steps

abbrev pub IsSound : (List Value → (ℕ → Bool) → Type 0) → List (List Lit) → Course → Type 0
IsSound lawful clauses trail = AreImplied lawful clauses (no_truths trail.atoms) trail.steps

-- The theory has a frame at the bottom and one for each choice, it knows the atoms, and has room for a literal of each of them
-- and a frame more.
pub record IsOpen {S P : Type 0} (theory : Ghosts S P) (state : S) (trail : Course) : Type 0 where
  pub frames : theory.frames state ≡ 0 ∷ choices_from 0 trail.steps
  pub known : trail.atoms ≤ theory.atoms (theory.problem state)
  pub room : trail.atoms ≤ length (theory.content state) + theory.spare state
  pub frame_room : trail.atoms < length (theory.frames state) + theory.spare_frames state

-- Besides, its content is the trail.
pub record Stands {S P : Type 0} (theory : Ghosts S P) (state : S) (trail : Course) : Type 0 where
  pub opened : IsOpen theory state trail
  pub content : theory.content state ≡ lits_of trail.steps

-- Besides, its content begins with the trail.
pub record Covers {S P : Type 0} (theory : Ghosts S P) (state : S) (trail : Course) : Type 0 where
  pub opened : IsOpen theory state trail
  pub rest : List Lit
  pub content : theory.content state ≡ lits_of trail.steps ++ rest

-- Each clause is true, and each of its literals has a truth.
pub record IsFull (clauses : List (List Lit)) (truths : List (Option Bool)) : Type 0 where
  pub holds : list_all (true_on truths) clauses ≡ true
  pub decided : list_all (decided_on truths) clauses ≡ true
