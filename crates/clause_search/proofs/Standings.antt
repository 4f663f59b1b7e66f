use Rattle.std.proofs.Common.{ℕ, ◌≡◌, ◌+◌, ◌-◌, ◌<◌, ◌≤◌, true, false, List, [], ◌∷◌, ◌++◌, length, take, None, sym, ap, ◌∙◌, subst, arith}
use Rattle.std.proofs.lemmas.List.{append_assoc, map_push}
use Rattle.mbqi_values.specs.declared.lit.Lit.{Lit}
use Rattle.theory_trait.specs.Content.{IsFree}
use Rattle.theory_trait.specs.Frames.{last_frame}
use Rattle.theory_trait.specs.declared.theory.Theory.{Ghosts}
use Rattle.clause_search.specs.Course.{choices_from, is_chosen, lits_of, no_truths, truths_of, with_step, AreFresh, Course}
use Rattle.clause_search.specs.Standing.{Covers, IsOpen, Stands}
use Rattle.clause_search.specs.Truths.{atom_on}
use Rattle.clause_search.specs.declared.step.Reason.{Reason}
use Rattle.clause_search.specs.declared.step.Step.{Step}
use Rattle.clause_search.proofs.Choices.{choices_fit, choices_from-chosen, choices_from-implied, content_before, last_frame-push}
use Rattle.clause_search.proofs.Choices.{length-lits, without_last}
use Rattle.clause_search.proofs.FreshSteps.{free_of, step_fits}

-- How the search stands after each call of the theory.

-- What each call of a theory keeps.
pub record Keeps {S P : Type 0} (theory : Ghosts S P) (old new : S) : Type 0 where
  pub same : theory.problem new ≡ theory.problem old
  pub room : length (theory.content old) + theory.spare old ≤ length (theory.content new) + theory.spare new
  pub frame_room : length (theory.frames old) + theory.spare_frames old ≤ length (theory.frames new) + theory.spare_frames new

-- What closing a frame leaves.
pub record Closes {S P : Type 0} (theory : Ghosts S P) (old new : S) : Type 0 where
  pub keeps : Keeps theory old new
  pub content : theory.content new ≡ take (last_frame (theory.frames old)) (theory.content old)
  pub frames : theory.frames new ≡ take (length (theory.frames old) - 1) (theory.frames old)

module _ {S P : Type 0} (theory : Ghosts S P) where
  -- A free atom may be assumed.
  pub room_for_literal : (state : S) (trail : Course) (atom : ℕ) → Stands theory state trail → AreFresh (no_truths trail.atoms) trail.steps
      → atom < trail.atoms → atom_on (truths_of trail) atom ≡ None → 0 < theory.spare state
  room_for_literal state trail atom stands fresh within free =
      let fits = step_fits trail.atoms trail.steps atom fresh within free in
      let len : length (theory.content state) ≡ length trail.steps = ap length stands.content ∙ length-lits trail.steps in
      omega (arith, stands.opened.room)

  pub free_for_literal : (state : S) (trail : Course) (atom : ℕ) → theory.content state ≡ lits_of trail.steps
      → AreFresh (no_truths trail.atoms) trail.steps → atom_on (truths_of trail) atom ≡ None → IsFree (theory.content state) atom
  free_for_literal state trail atom content fresh free =
      subst (λ (lits : List Lit). IsFree lits atom) (sym content) (free_of (no_truths trail.atoms) trail.steps atom fresh free)

  -- A frame may be opened where an atom is free.
  pub room_for_frame : (state : S) (trail : Course) (atom : ℕ) → Stands theory state trail → AreFresh (no_truths trail.atoms) trail.steps
      → atom < trail.atoms → atom_on (truths_of trail) atom ≡ None → 0 < theory.spare_frames state
  room_for_frame state trail atom stands fresh within free =
      let fits = step_fits trail.atoms trail.steps atom fresh within free in
      let few = choices_fit 0 trail.steps in
      let len : length (theory.frames state) ≡ length (choices_from 0 trail.steps) + 1 = ap length stands.opened.frames ∙ omega arith in
      omega (arith, stands.opened.frame_room)

  -- Nothing changes.
  pub IsOpen-same : (old new : S) (trail : Course) → IsOpen theory old trail → Keeps theory old new → theory.frames new ≡ theory.frames old
      → IsOpen theory new trail
  IsOpen-same old new trail opened keeps frames =
      record {
        frames = frames ∙ opened.frames;
        known = subst (λ (p : P). trail.atoms ≤ theory.atoms p) (sym keeps.same) opened.known;
        room = omega (arith, opened.room, keeps.room);
        frame_room = omega (arith, opened.frame_room, keeps.frame_room);
      }

  -- A literal is added.
  lits-step : (trail : Course) (lit : Lit) (reason : Reason) → lits_of (with_step trail lit reason).steps ≡ lits_of trail.steps ++ lit ∷ []
  lits-step trail lit reason = map_push (λ (step : Step). step.lit) trail.steps (record { lit = lit; reason = reason })

  pub Stands-implied : (old new : S) (trail : Course) (lit : Lit) (reason : Reason) → Stands theory old trail → Keeps theory old new
      → is_chosen reason ≡ false → theory.frames new ≡ theory.frames old → theory.content new ≡ theory.content old ++ lit ∷ []
      → Stands theory new (with_step trail lit reason)
  Stands-implied old new trail lit reason stands keeps implied frames content =
      let opened = IsOpen-same old new trail stands.opened keeps frames in
      record {
        opened = record {
          frames = opened.frames
              ∙ ap (λ (fs : List ℕ). 0 ∷ fs) (sym (choices_from-implied trail.steps (record { lit = lit; reason = reason }) implied));
          known =
              opened.known;
          room = opened.room;
          frame_room = opened.frame_room;
        };
        content = content ∙ (ap (λ (lits : List Lit). lits ++ lit ∷ []) stands.content ∙ sym (lits-step trail lit reason));
      }

  -- A literal is added in a frame of its own.
  pub Stands-chosen : (old pushed new : S) (trail : Course) (lit : Lit) (reason : Reason) → Stands theory old trail
      → Keeps theory old pushed → Keeps theory pushed new → is_chosen reason ≡ true
      → theory.frames pushed ≡ theory.frames old ++ length (theory.content old) ∷ [] → theory.content pushed ≡ theory.content old
      → theory.frames new ≡ theory.frames pushed → theory.content new ≡ theory.content pushed ++ lit ∷ []
      → Stands theory new (with_step trail lit reason)
  Stands-chosen old pushed new trail lit reason stands opening keeps chosen frames kept frames_kept content =
      let len : length (theory.content old) ≡ length trail.steps = ap length stands.content ∙ length-lits trail.steps in
      let before : theory.frames old ++ length (theory.content old) ∷ [] ≡ 0 ∷ (choices_from 0 trail.steps ++ length trail.steps ∷ []) =
      ap (λ (fs : List ℕ). fs ++ length (theory.content old) ∷ []) stands.opened.frames
      ∙ ap (λ (n : ℕ). 0 ∷ (choices_from 0 trail.steps ++ n ∷ [])) len in
      record {
        opened = record {
          frames = frames_kept
              ∙ (frames ∙ (before ∙ ap (λ (fs : List ℕ). 0 ∷ fs)
              (sym (choices_from-chosen trail.steps (record { lit = lit; reason = reason }) chosen))));
          known = subst (λ (p : P). trail.atoms ≤ theory.atoms p) (sym (keeps.same ∙ opening.same)) stands.opened.known;
          room = omega (arith, stands.opened.room, opening.room, keeps.room);
          frame_room = omega (arith, stands.opened.frame_room, opening.frame_room, keeps.frame_room);
        };
        content = content ∙ (ap (λ (lits : List Lit). lits ++ lit ∷ []) (kept ∙ stands.content) ∙ sym (lits-step trail lit reason));
      }

  -- The last step goes: one that is implied takes its frame along, a choice closes its own.
  lits-last : (front : List Step) (last : Step) (rest : List Lit) → lits_of (front ++ last ∷ []) ++ rest ≡ lits_of front ++ last.lit ∷ rest
  lits-last front last rest =
      ap (λ (lits : List Lit). lits ++ rest) (map_push (λ (step : Step). step.lit) front last)
      ∙ append_assoc (lits_of front) (last.lit ∷ []) rest

  pub Covers-implied : (state : S) (old new : Course) (last : Step) → Covers theory state old → new.atoms ≡ old.atoms
      → old.steps ≡ new.steps ++ last ∷ [] → is_chosen last.reason ≡ false → Covers theory state new
  Covers-implied state old new last covers atoms steps implied =
      record {
        opened = record {
          frames = covers.opened.frames ∙ ap (λ (fs : List ℕ). 0 ∷ fs)
              (ap (choices_from 0) steps ∙ choices_from-implied new.steps last implied);
          known = omega (arith, covers.opened.known);
          room = omega (arith, covers.opened.room);
          frame_room = omega (arith, covers.opened.frame_room);
        };
        rest = last.lit ∷ covers.rest;
        content = covers.content ∙ (ap (λ (ss : List Step). lits_of ss ++ covers.rest) steps ∙ lits-last new.steps last covers.rest);
      }

  -- The frames that are left when the frame of the last choice is closed.
  pub frames-closed : (frames : List ℕ) (old front : List Step) (last : Step) → frames ≡ 0 ∷ choices_from 0 old → old ≡ front ++ last ∷ []
      → is_chosen last.reason ≡ true → frames ≡ (0 ∷ choices_from 0 front) ++ length front ∷ []
  frames-closed frames old front last are steps chosen =
      are ∙ ap (λ (fs : List ℕ). 0 ∷ fs) (ap (choices_from 0) steps ∙ choices_from-chosen front last chosen)

  pub Stands-undone : (state closed : S) (old new : Course) (last : Step) → Covers theory state old → new.atoms ≡ old.atoms
      → old.steps ≡ new.steps ++ last ∷ [] → is_chosen last.reason ≡ true → Closes theory state closed → Stands theory closed new
  Stands-undone state closed old new last covers atoms steps chosen closes =
      let frames = frames-closed (theory.frames state) old.steps new.steps last covers.opened.frames steps chosen in
      let here : last_frame (theory.frames state) ≡ length new.steps = ap last_frame frames
      ∙ last_frame-push (0 ∷ choices_from 0 new.steps) (length new.steps) in
      let content : theory.content state ≡ lits_of new.steps ++ last.lit ∷ covers.rest = covers.content
      ∙ (ap (λ (ss : List Step). lits_of ss ++ covers.rest) steps ∙ lits-last new.steps last covers.rest) in
      record {
        opened = record {
          frames = closes.frames ∙ (ap (λ (fs : List ℕ). take (length fs - 1) fs) frames ∙ without_last (0 ∷ choices_from 0 new.steps)
              (length new.steps));
          known = subst (λ (p : P). new.atoms ≤ theory.atoms p) (sym closes.keeps.same)
              (subst (λ (n : ℕ). n ≤ theory.atoms (theory.problem state)) (sym atoms) covers.opened.known);
          room = omega (arith, covers.opened.room, closes.keeps.room);
          frame_room = omega (arith, covers.opened.frame_room, closes.keeps.frame_room);
        };
        content = closes.content ∙ (ap (λ (n : ℕ). take n (theory.content state)) here
            ∙ (ap (λ (lits : List Lit). take (length new.steps) lits) content ∙ content_before new.steps (last.lit ∷ covers.rest)));
      }
