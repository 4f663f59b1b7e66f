use Rattle.std.proofs.Common.{◌≡◌, ◌<◌, ◌∷◌, ◌++◌, [], true, false, refl, sym, rules}
use Rattle.clause_search.specs.Course.{is_chosen, truths_of, with_lit}
use Rattle.clause_search.specs.Resolvent.{negation}
use Rattle.clause_search.specs.declared.step.Reason.TheVariants.{Derived}
use Rattle.clause_search.proofs.FreshSteps.{step_fits}
use Rattle.clause_search.proofs.LastSteps.{turned_rises, Implies-last, IsConflict-before, IsConflict-last, IsSound-front}
use Rattle.clause_search.proofs.Members.{IsConflict-moved, IsSound-moved}
use Rattle.clause_search.proofs.Standings.{Closes, Covers-implied, Stands-undone}
use Rattle.clause_search.proofs.going_back.undo_last.Goals as goal

pub turn-requires-clause-stands : goal.turn-requires-clause-stands
turn-requires-clause-stands g c =
    let theory = g.T.Theory in
    let old = c.args.trail.now in
    let front = c.take_last.new.self in
    let last = c.unwrap-step.result in
    let state = c.args.theory.now in
    let closed = c.pop.new.self in
    let steps : old.steps ≡ front.steps ++ last ∷ [] = search rules in
    let chosen : is_chosen last.reason ≡ true = search rules in
    let closes : Closes theory state closed = record {
      keeps = record
          { same = c.pop.ensures.problem; room = c.pop.ensures.room; frame_room = c.pop.ensures.frame_room };
      content = c.pop.ensures.content;
      frames = c.pop.ensures.frames;
    } in
    Stands-undone theory state closed old front last c.requires.covers c.take_last.ensures.atoms steps chosen closes

pub turn-requires-clause-sound : goal.turn-requires-clause-sound
turn-requires-clause-sound g c =
    let theory = g.T.Theory in
    let old = c.args.trail.now in
    let front = c.take_last.new.self in
    let last = c.unwrap-step.result in
    let before = theory.problem c.args.theory.now in
    let steps : old.steps ≡ front.steps ++ last ∷ [] = search rules in
    IsSound-moved theory.lawful c.args.clauses.now front before (theory.problem c.pop.new.self) (sym c.pop.ensures.problem)
    (IsSound-front (theory.lawful before) c.args.clauses.now old front last c.take_last.ensures.atoms steps c.requires.sound)

pub turn-requires-clause-conflict : goal.turn-requires-clause-conflict
turn-requires-clause-conflict g c =
    let theory = g.T.Theory in
    let old = c.args.trail.now in
    let front = c.take_last.new.self in
    let last = c.unwrap-step.result in
    let before = theory.problem c.args.theory.now in
    let steps : old.steps ≡ front.steps ++ last ∷ [] = search rules in
    IsConflict-moved theory.lawful c.args.clauses.now (with_lit (truths_of front) last.lit) c.args.conflict before
    (theory.problem c.pop.new.self) (sym c.pop.ensures.problem)
    (IsConflict-last (theory.lawful before) c.args.clauses.now old front last c.take_last.ensures.atoms steps c.args.conflict
    c.requires.conflict)

pub returns-then-is_chosen-clause-rises : goal.returns-then-is_chosen-clause-rises
returns-then-is_chosen-clause-rises g c =
    let old = c.args.trail.now in
    let front = c.take_last.new.self in
    let last = c.unwrap-step.result in
    let steps : old.steps ≡ front.steps ++ last ∷ [] = search rules in
    let chosen : is_chosen last.reason ≡ true = search rules in
    let within : last.lit.atom < front.atoms = search rules in
    let room = step_fits front.atoms front.steps last.lit.atom c.is_fresh.ensures within (search rules) in
    turned_rises c.turn.result old front c.turn.new.trail last (negation last.lit) (Derived c.args.conflict) c.take_last.ensures.atoms steps
    room chosen refl c.turn.ensures.turned

pub resolved-requires : goal.resolved-requires
resolved-requires g c =
    let theory = g.T.Theory in
    let old = c.args.trail.now in
    let front = c.take_last.new.self in
    let last = c.unwrap-step.result in
    let steps : old.steps ≡ front.steps ++ last ∷ [] = search rules in
    let implied : is_chosen last.reason ≡ false = search rules in
    let why = Implies-last (theory.lawful (theory.problem c.args.theory.now)) c.args.clauses.now old front last c.take_last.ensures.atoms
    steps c.requires.sound implied in
    why.numbered

pub returns-in_err-resolved-clause-covers : goal.returns-in_err-resolved-clause-covers
returns-in_err-resolved-clause-covers g c =
    let old = c.args.trail.now in
    let front = c.take_last.new.self in
    let last = c.unwrap-step.result in
    let steps : old.steps ≡ front.steps ++ last ∷ [] = search rules in
    let implied : is_chosen last.reason ≡ false = search rules in
    Covers-implied g.T.Theory c.args.theory.now old front last c.requires.covers c.take_last.ensures.atoms steps implied

pub returns-in_err-resolved-clause-sound : goal.returns-in_err-resolved-clause-sound
returns-in_err-resolved-clause-sound g c =
    let theory = g.T.Theory in
    let old = c.args.trail.now in
    let front = c.take_last.new.self in
    let last = c.unwrap-step.result in
    let steps : old.steps ≡ front.steps ++ last ∷ [] = search rules in
    IsSound-front (theory.lawful (theory.problem c.args.theory.now)) c.args.clauses.now old front last c.take_last.ensures.atoms steps
    c.requires.sound

pub returns-clause-covers : goal.returns-clause-covers
returns-clause-covers g c =
    let old = c.args.trail.now in
    let front = c.take_last.new.self in
    let last = c.unwrap-step.result in
    let steps : old.steps ≡ front.steps ++ last ∷ [] = search rules in
    let implied : is_chosen last.reason ≡ false = search rules in
    Covers-implied g.T.Theory c.args.theory.now old front last c.requires.covers c.take_last.ensures.atoms steps implied

pub returns-clause-sound : goal.returns-clause-sound
returns-clause-sound g c =
    let theory = g.T.Theory in
    let old = c.args.trail.now in
    let front = c.take_last.new.self in
    let last = c.unwrap-step.result in
    let steps : old.steps ≡ front.steps ++ last ∷ [] = search rules in
    IsSound-front (theory.lawful (theory.problem c.args.theory.now)) c.args.clauses.now old front last c.take_last.ensures.atoms steps
    c.requires.sound

pub returns-clause-conflict : goal.returns-clause-conflict
returns-clause-conflict g c =
    let theory = g.T.Theory in
    let old = c.args.trail.now in
    let front = c.take_last.new.self in
    let last = c.unwrap-step.result in
    let steps : old.steps ≡ front.steps ++ last ∷ [] = search rules in
    let implied : is_chosen last.reason ≡ false = search rules in
    let within : last.lit.atom < front.atoms = search rules in
    rw c.in_ok-resolved.ensures (IsConflict-before (theory.lawful (theory.problem c.args.theory.now)) c.args.clauses.now old front last
    c.take_last.ensures.atoms steps c.args.conflict c.requires.sound implied within c.requires.conflict)
