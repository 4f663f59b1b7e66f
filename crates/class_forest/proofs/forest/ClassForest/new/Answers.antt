use Rattle.std.proofs.Common.{ap, arith, rules}
use Rattle.class_forest.proofs.Keeping.{IsKept-start}
use Rattle.class_forest.proofs.forest.ClassForest.new.Goals as goal

pub invariant_of-result : goal.invariant_of-result
invariant_of-result c =
    let lists = c.in_ok-lists.ensures in
    rw c.in_ok-sizes.ensures.len (IsKept-start c.args.nodes c.in_ok-log.log.items c.in_ok-lists.lists c.in_ok-sizes.sizes.items c.in_ok-gone.gone.items c.in_ok-log.ensures.items lists.lists lists.list_count lists.item_count (c.in_ok-sizes.ensures.items_if_clones_equal (λ y same. same)) (c.in_ok-gone.ensures.items_if_clones_equal (λ y cloned. search rules)), omega (arith, c.in_ok-log.ensures.capacity), ap (λ marks. marks.room) c.in_ok-marks.ensures)
