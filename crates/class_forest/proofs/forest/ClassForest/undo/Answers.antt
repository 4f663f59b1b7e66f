use Rattle.std.proofs.Common.{sym, subst, arith}
use Rattle.class_forest.specs.Kept.{IsKept}
use Rattle.std.specs.Prelude.{vec_len}
use Rattle.class_forest.proofs.Keeping.{size_read, IsKept-undo, LastSides-kept}
use Rattle.class_forest.proofs.forest.ClassForest.undo.Goals as goal

pub index-size-requires : goal.index-size-requires
index-size-requires c =
    let items = rw c.unwrap-merge.ensures at c.pop.ensures.items in
    let kept = subst (λ log. IsKept (vec_len c.self.inside.sizes) log c.self.inside.lists c.self.inside.sizes.items c.self.inside.gone.items) items c.self.invariant.0 in
    let sides = LastSides-kept _ c.pop.new.self.items _ _ _ c.unwrap-merge.result kept in
    sides.went_in

pub move_items-requires-clause-from_within : goal.move_items-requires-clause-from_within
move_items-requires-clause-from_within c =
    let items = rw c.unwrap-merge.ensures at c.pop.ensures.items in
    let kept = subst (λ log. IsKept (vec_len c.self.inside.sizes) log c.self.inside.lists c.self.inside.sizes.items c.self.inside.gone.items) items c.self.invariant.0 in
    let sides = LastSides-kept _ c.pop.new.self.items _ _ _ c.unwrap-merge.result kept in
    sides.stayed_list

pub move_items-requires-clause-to_within : goal.move_items-requires-clause-to_within
move_items-requires-clause-to_within c =
    let items = rw c.unwrap-merge.ensures at c.pop.ensures.items in
    let kept = subst (λ log. IsKept (vec_len c.self.inside.sizes) log c.self.inside.lists c.self.inside.sizes.items c.self.inside.gone.items) items c.self.invariant.0 in
    let sides = LastSides-kept _ c.pop.new.self.items _ _ _ c.unwrap-merge.result kept in
    sides.went_list

pub move_items-requires-clause-apart : goal.move_items-requires-clause-apart
move_items-requires-clause-apart c =
    let items = rw c.unwrap-merge.ensures at c.pop.ensures.items in
    let kept = subst (λ log. IsKept (vec_len c.self.inside.sizes) log c.self.inside.lists c.self.inside.sizes.items c.self.inside.gone.items) items c.self.invariant.0 in
    let sides = LastSides-kept _ c.pop.new.self.items _ _ _ c.unwrap-merge.result kept in
    λ same. sides.apart (sym same)

pub move_items-requires-clause-enough : goal.move_items-requires-clause-enough
move_items-requires-clause-enough c =
    let items = rw c.unwrap-merge.ensures at c.pop.ensures.items in
    let kept = subst (λ log. IsKept (vec_len c.self.inside.sizes) log c.self.inside.lists c.self.inside.sizes.items c.self.inside.gone.items) items c.self.invariant.0 in
    let sides = LastSides-kept _ c.pop.new.self.items _ _ _ c.unwrap-merge.result kept in
    let size = size_read _ _ _ _ _ c.unwrap-merge.result.went c.index-size.result.now kept sides.went_in c.index-size.ensures in
    omega (arith, sides.enough, sides.went_kept)

pub index_mut-requires : goal.index_mut-requires
index_mut-requires c =
    let items = rw c.unwrap-merge.ensures at c.pop.ensures.items in
    let kept = subst (λ log. IsKept (vec_len c.self.inside.sizes) log c.self.inside.lists c.self.inside.sizes.items c.self.inside.gone.items) items c.self.invariant.0 in
    let sides = LastSides-kept _ c.pop.new.self.items _ _ _ c.unwrap-merge.result kept in
    sides.stayed_in

pub overflow_sub-index_mut : goal.overflow_sub-index_mut
overflow_sub-index_mut c =
    let items = rw c.unwrap-merge.ensures at c.pop.ensures.items in
    let kept = subst (λ log. IsKept (vec_len c.self.inside.sizes) log c.self.inside.lists c.self.inside.sizes.items c.self.inside.gone.items) items c.self.invariant.0 in
    let sides = LastSides-kept _ c.pop.new.self.items _ _ _ c.unwrap-merge.result kept in
    let size = size_read _ _ _ _ _ c.unwrap-merge.result.went c.index-size.result.now kept sides.went_in c.index-size.ensures in
    let other = size_read _ _ _ _ _ c.unwrap-merge.result.stayed c.index_mut.result.now kept sides.stayed_in c.index_mut.ensures.value in
    omega (arith, sides.went_kept, sides.stayed_kept)

pub index_mut-requires-2 : goal.index_mut-requires-2
index_mut-requires-2 c =
    let items = rw c.unwrap-merge.ensures at c.pop.ensures.items in
    let kept = subst (λ log. IsKept (vec_len c.self.inside.sizes) log c.self.inside.lists c.self.inside.sizes.items c.self.inside.gone.items) items c.self.invariant.0 in
    let sides = LastSides-kept _ c.pop.new.self.items _ _ _ c.unwrap-merge.result kept in
    omega (arith, sides.went_in, kept.gone_count, c.self.inside.gone.ok.0)

pub invariant_of-self : goal.invariant_of-self
invariant_of-self c =
    let items = rw c.unwrap-merge.ensures at c.pop.ensures.items in
    let kept = subst (λ log. IsKept (vec_len c.self.inside.sizes) log c.self.inside.lists c.self.inside.sizes.items c.self.inside.gone.items) items c.self.invariant.0 in
    let sides = LastSides-kept _ c.pop.new.self.items _ _ _ c.unwrap-merge.result kept in
    let size = size_read _ _ _ _ _ c.unwrap-merge.result.went c.index-size.result.now kept sides.went_in c.index-size.ensures in
    let other = size_read _ _ _ _ _ c.unwrap-merge.result.stayed c.index_mut.result.now kept sides.stayed_in c.index_mut.ensures.value in
    let moved = c.move_items.ensures in
    (IsKept-undo _ _ _ c.move_items.new.lists _ _ c.unwrap-merge.result c.index-size.result.now c.index_mut.result.now kept size other (record { source = moved.from; target = moved.to; others = moved.others; list_count = moved.list_count; item_count = moved.item_count }), omega (arith, c.self.invariant.1, c.pop.ensures.capacity), c.self.invariant.2)
