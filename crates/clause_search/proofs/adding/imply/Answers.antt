use Rattle.std.proofs.Common.{sym, subst}
use Rattle.clause_search.specs.Standing.{Stands}
use Rattle.clause_search.proofs.Growth.{IsSound-step}
use Rattle.clause_search.proofs.Members.{IsSound-moved}
use Rattle.clause_search.proofs.Standings.{free_for_literal, room_for_literal, Keeps, Stands-implied}
use Rattle.clause_search.proofs.adding.imply.Goals as goal

pub assume-requires-clause-spare : goal.assume-requires-clause-spare
assume-requires-clause-spare g c =
    room_for_literal g.T.Theory c.args.theory.now c.args.trail.now c.args.lit.atom c.requires.stands c.is_fresh.ensures c.requires.within
    c.requires.free

pub assume-requires-clause-free : goal.assume-requires-clause-free
assume-requires-clause-free g c =
    free_for_literal g.T.Theory c.args.theory.now c.args.trail.now c.args.lit.atom c.requires.stands.content c.is_fresh.ensures
    c.requires.free

pub returns-in-Agree-clause-stands : goal.returns-in-Agree-clause-stands
returns-in-Agree-clause-stands g c =
    let theory = g.T.Theory in
    let old = c.args.theory.now in
    let new = c.assume.new.self in
    let keeps : Keeps theory old new = record {
      same = c.in-Agree.ensures.problem;
      room = c.in-Agree.ensures.room;
      frame_room =
          c.in-Agree.ensures.frame_room;
    } in
    subst (Stands theory new) (sym c.add.ensures)
    (Stands-implied theory old new c.args.trail.now c.args.lit c.args.reason c.requires.stands keeps c.requires.reason
    c.in-Agree.ensures.frames c.in-Agree.ensures.agree)

pub returns-in-Agree-clause-sound : goal.returns-in-Agree-clause-sound
returns-in-Agree-clause-sound g c =
    let theory = g.T.Theory in
    let old = theory.problem c.args.theory.now in
    let new = theory.problem c.assume.new.self in
    let clauses = c.args.clauses.now in
    let trail = c.args.trail.now in
    IsSound-moved theory.lawful clauses c.add.new.self old new (sym c.in-Agree.ensures.problem)
    (IsSound-step (theory.lawful old) clauses trail c.add.new.self c.args.lit c.args.reason c.add.ensures c.requires.sound
    (λ _. c.requires.implied))
