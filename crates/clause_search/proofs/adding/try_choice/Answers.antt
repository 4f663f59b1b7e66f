use Rattle.std.proofs.Common.{List, length, refl, sym, ap, subst, arith}
use Rattle.mbqi_values.specs.declared.lit.Lit.{Lit}
use Rattle.theory_trait.specs.Content.{IsFree}
use Rattle.clause_search.specs.Standing.{Stands}
use Rattle.clause_search.specs.declared.step.Reason.TheVariants.{Chosen}
use Rattle.clause_search.proofs.Standings.{free_for_literal, room_for_frame, room_for_literal, Keeps, Stands-chosen}
use Rattle.clause_search.proofs.adding.try_choice.Goals as goal

pub push-requires : goal.push-requires
push-requires g c =
    room_for_frame g.T.Theory c.args.theory.now c.args.trail.now c.args.lit.atom c.requires.stands c.is_fresh.ensures c.requires.within
    c.requires.free

pub assume-requires-clause-spare : goal.assume-requires-clause-spare
assume-requires-clause-spare g c =
    let room = room_for_literal g.T.Theory c.args.theory.now c.args.trail.now c.args.lit.atom c.requires.stands c.is_fresh.ensures
    c.requires.within c.requires.free in
    omega (arith, room, c.push.ensures.room, ap length c.push.ensures.content)

pub assume-requires-clause-free : goal.assume-requires-clause-free
assume-requires-clause-free g c =
    subst (λ (lits : List Lit). IsFree lits c.args.lit.atom) (sym c.push.ensures.content)
    (free_for_literal g.T.Theory c.args.theory.now c.args.trail.now c.args.lit.atom c.requires.stands.content c.is_fresh.ensures
    c.requires.free)

pub returns-in-Agree-clause-stands : goal.returns-in-Agree-clause-stands
returns-in-Agree-clause-stands g c =
    let theory = g.T.Theory in
    let old = c.args.theory.now in
    let pushed = c.push.new.self in
    let new = c.assume.new.self in
    let opening : Keeps theory old pushed = record {
      same = c.push.ensures.problem;
      room = c.push.ensures.room;
      frame_room =
          c.push.ensures.frame_room;
    } in
    let keeps : Keeps theory pushed new = record {
      same = c.in-Agree.ensures.problem;
      room = c.in-Agree.ensures.room;
      frame_room =
          c.in-Agree.ensures.frame_room;
    } in
    subst (Stands theory new) (sym c.add.ensures)
    (Stands-chosen theory old pushed new c.args.trail.now c.args.lit Chosen c.requires.stands opening keeps refl c.push.ensures.frames
    c.push.ensures.content c.in-Agree.ensures.frames c.in-Agree.ensures.agree)
