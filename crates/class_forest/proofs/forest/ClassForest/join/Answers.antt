use Rattle.std.proofs.Common.{◌≡◌, length, arith}
use Rattle.class_forest.proofs.Keeping.{size_read, IsKept-join, Sides-kept}
use Rattle.class_forest.proofs.Rooms.{room_for_merge}
use Rattle.class_forest.proofs.forest.ClassForest.join.Goals as goal

pub index-size-requires : goal.index-size-requires
index-size-requires c =
    let joins = rw (← c.self.view_is) at c.requires in
    let sides = Sides-kept _ _ _ _ _ c.args.merge c.self.invariant.0 joins in
    sides.went_in

pub move_items-requires-clause-from_within : goal.move_items-requires-clause-from_within
move_items-requires-clause-from_within c =
    let joins = rw (← c.self.view_is) at c.requires in
    let sides = Sides-kept _ _ _ _ _ c.args.merge c.self.invariant.0 joins in
    sides.went_list

pub move_items-requires-clause-to_within : goal.move_items-requires-clause-to_within
move_items-requires-clause-to_within c =
    let joins = rw (← c.self.view_is) at c.requires in
    let sides = Sides-kept _ _ _ _ _ c.args.merge c.self.invariant.0 joins in
    sides.stayed_list

pub move_items-requires-clause-enough : goal.move_items-requires-clause-enough
move_items-requires-clause-enough c =
    let joins = rw (← c.self.view_is) at c.requires in
    let sides = Sides-kept _ _ _ _ _ c.args.merge c.self.invariant.0 joins in
    let size = size_read _ _ _ _ _ c.args.merge.went c.index-size.result.now c.self.invariant.0 sides.went_in c.index-size.ensures in
    omega (arith, sides.went_size)

pub index_mut-requires : goal.index_mut-requires
index_mut-requires c =
    let joins = rw (← c.self.view_is) at c.requires in
    let sides = Sides-kept _ _ _ _ _ c.args.merge c.self.invariant.0 joins in
    sides.stayed_in

pub overflow_add-index_mut : goal.overflow_add-index_mut
overflow_add-index_mut c =
    let joins = rw (← c.self.view_is) at c.requires in
    let sides = Sides-kept _ _ _ _ _ c.args.merge c.self.invariant.0 joins in
    let size = size_read _ _ _ _ _ c.args.merge.went c.index-size.result.now c.self.invariant.0 sides.went_in c.index-size.ensures in
    let other = size_read _ _ _ _ _ c.args.merge.stayed c.index_mut.result.now c.self.invariant.0 sides.stayed_in c.index_mut.ensures.value in
    omega (arith, sides.both_sizes, c.self.inside.sizes.small)

pub index_mut-requires-2 : goal.index_mut-requires-2
index_mut-requires-2 c =
    let joins = rw (← c.self.view_is) at c.requires in
    let sides = Sides-kept _ _ _ _ _ c.args.merge c.self.invariant.0 joins in
    omega (arith, sides.went_in, c.self.invariant.0.gone_count, c.self.inside.gone.ok.0)

pub unwrap-requires : goal.unwrap-requires
unwrap-requires c =
    let joins = rw (← c.self.view_is) at c.requires in
    let room = room_for_merge _ _ c.args.merge c.self.invariant.0.valid joins in
    c.push.ensures.succeeds (omega (arith, c.self.invariant.1, c.self.inside.log.ok.0))

pub invariant_of-self : goal.invariant_of-self
invariant_of-self c =
    let joins = rw (← c.self.view_is) at c.requires in
    let sides = Sides-kept _ _ _ _ _ c.args.merge c.self.invariant.0 joins in
    let size = size_read _ _ _ _ _ c.args.merge.went c.index-size.result.now c.self.invariant.0 sides.went_in c.index-size.ensures in
    let other = size_read _ _ _ _ _ c.args.merge.stayed c.index_mut.result.now c.self.invariant.0 sides.stayed_in c.index_mut.ensures.value in
    let items = rw c.unwrap.ensures at c.push.ensures.items in
    let number : c.len-number.result ≡ length c.self.inside.log.items = omega (arith, c.len-number.ensures, c.self.inside.log.ok.0) in
    let moved = c.move_items.ensures in
    (rw items (IsKept-join _ _ _ c.move_items.new.lists _ _ c.args.merge c.index-size.result.now c.index_mut.result.now c.len-number.result c.self.invariant.0 joins size other number (record { source = moved.from; target = moved.to; others = moved.others; list_count = moved.list_count; item_count = moved.item_count })), omega (arith, c.self.invariant.1, c.push.ensures.capacity), c.self.invariant.2)
