use Rattle.std.proofs.Common.{◌≡◌, ◌<◌, false, length, get_or, sym, arith}
use Rattle.class_forest.proofs.Marking.{room_for_mark, AreMarks-push}
use Rattle.class_forest.proofs.marks.Marks.mark.Goals as goal

pub unwrap-requires : goal.unwrap-requires
unwrap-requires c =
    let flags = c.self.inside.is_marked in
    let below = rw (← c.self.view_is) at c.requires in
    let within : c.args.number < length flags.items = omega (arith, flags.ok.0) in
    let fresh : get_or flags.items c.args.number false ≡ false = sym (rw c.if-not-index.true at c.index.ensures) in
    let room = room_for_mark flags.items c.self.inside.marks.items c.args.number c.self.invariant.0 within fresh in
    c.push.ensures.succeeds (omega (arith, flags.ok.0, c.self.inside.marks.ok.0))

pub invariant_of-self : goal.invariant_of-self
invariant_of-self c =
    let flags = c.self.inside.is_marked in
    let below = rw (← c.self.view_is) at c.requires in
    let within : c.args.number < length flags.items = omega (arith, flags.ok.0) in
    let fresh : get_or flags.items c.args.number false ≡ false = sym (rw c.if-not-index.true at c.index.ensures) in
    let items = rw c.unwrap.ensures at c.push.ensures.items in
    (rw items (AreMarks-push flags.items c.self.inside.marks.items c.args.number c.self.invariant.0 within fresh), omega (arith, c.push.ensures.capacity))
