use Rattle.std.proofs.Common.{ℕ, ◌≡◌, ◌+◌, ◌-◌, ◌≤◌, Bool, true, false, cond, List, [], ◌∷◌, ◌++◌, length, take, ap, ◌∙◌, arith}
use Rattle.std.proofs.lemmas.List.{append-nil, get_or_push, length_push, length-map, take_at}
use Rattle.mbqi_values.specs.declared.lit.Lit.{Lit}
use Rattle.theory_trait.specs.Frames.{last_frame}
use Rattle.clause_search.specs.Course.{choices_from, is_chosen, lits_of}
use Rattle.clause_search.specs.declared.step.Step.{Step}

-- The frames of the theory, by the choices on the trail.

-- The frames that a step opens.
abbrev pub frame_of : Step → ℕ → List ℕ
frame_of step before = cond (is_chosen step.reason) (before ∷ []) []

pub choices_from-push : (before : ℕ) (steps : List Step) (step : Step)
    → choices_from before (steps ++ step ∷ []) ≡ choices_from before steps ++ frame_of step (before + length steps)
choices_from-push before [] step = ap (frame_of step) (omega arith)
choices_from-push before (s ∷ steps) step =
    let rest = choices_from-push (before + 1) steps step in
    let same : before + 1 + length steps ≡ before + length (s ∷ steps) = omega arith in
    let last : choices_from (before + 1) (steps ++ step ∷ []) ≡ choices_from (before + 1) steps ++ frame_of step
    (before + length (s ∷ steps)) = rest ∙ ap (λ (n : ℕ). choices_from (before + 1) steps ++ frame_of step n) same in
    elim (is_chosen s.reason) as (λ b. cond b (before ∷ choices_from (before + 1) (steps ++ step ∷ []))
    (choices_from (before + 1) (steps ++ step ∷ [])) ≡ cond b (before ∷ choices_from (before + 1) steps)
    (choices_from (before + 1) steps) ++ frame_of step (before + length (s ∷ steps)))
    [ true ↦ ap (λ (fs : List ℕ). before ∷ fs) last | false ↦ last ]

-- A step that is implied opens none, and a choice one.
pub choices_from-implied : (steps : List Step) (step : Step) → is_chosen step.reason ≡ false
    → choices_from 0 (steps ++ step ∷ []) ≡ choices_from 0 steps
choices_from-implied steps step implied =
    choices_from-push 0 steps step ∙ (ap (λ (b : Bool). choices_from 0 steps ++ cond b ((0 + length steps) ∷ []) []) implied ∙ append-nil
    (choices_from 0 steps))

pub choices_from-chosen : (steps : List Step) (step : Step) → is_chosen step.reason ≡ true
    → choices_from 0 (steps ++ step ∷ []) ≡ choices_from 0 steps ++ length steps ∷ []
choices_from-chosen steps step chosen =
    let zero_plus : 0 + length steps ≡ length steps = omega arith in
    choices_from-push 0 steps step ∙ (ap (λ (b : Bool). choices_from 0 steps ++ cond b ((0 + length steps) ∷ []) []) chosen ∙ ap
    (λ (n : ℕ). choices_from 0 steps ++ n ∷ []) zero_plus)

-- There are no more choices than steps.
pub choices_fit : (before : ℕ) (steps : List Step) → length (choices_from before steps) ≤ length steps
choices_fit before [] = omega arith
choices_fit before (s ∷ steps) =
    let rest = choices_fit (before + 1) steps in
    elim (is_chosen s.reason) as (λ b. length (cond b (before ∷ choices_from (before + 1) steps) (choices_from (before + 1) steps)) ≤ length
    (s ∷ steps)) [ true ↦ omega arith | false ↦ omega arith ]

-- What closing the last frame leaves.
pub last_frame-push : (frames : List ℕ) (last : ℕ) → last_frame (frames ++ last ∷ []) ≡ last
last_frame-push frames last =
    let at : length frames ≡ length (frames ++ last ∷ []) - 1 = omega (arith, length_push frames last) in
    get_or_push frames last 0 (length (frames ++ last ∷ []) - 1) at

pub without_last : (frames : List ℕ) (last : ℕ) → take (length (frames ++ last ∷ []) - 1) (frames ++ last ∷ []) ≡ frames
without_last frames last =
    let at : length frames ≡ length (frames ++ last ∷ []) - 1 = omega (arith, length_push frames last) in
    take_at frames (last ∷ []) (length (frames ++ last ∷ []) - 1) at

pub length-lits : (steps : List Step) → length (lits_of steps) ≡ length steps
length-lits steps = length-map steps (λ (step : Step). step.lit)

-- What the content was before as many steps as there are.
pub content_before : (steps : List Step) (rest : List Lit) → take (length steps) (lits_of steps ++ rest) ≡ lits_of steps
content_before steps rest = take_at (lits_of steps) rest (length steps) (length-lits steps)
