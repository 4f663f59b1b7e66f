use Rattle.std.proofs.Common.{sym, ◌∙◌, arith}
use Rattle.class_forest.proofs.Moved.{Moved-more, first_ahead}
use Rattle.class_forest.proofs.moving.move_items.Goals as goal
use Rattle.class_forest.proofs.moving.move_items.Goals.{in-Some, in_default}

pub loop-preserved : goal.loop-preserved
loop-preserved c =
    let invariant = c.loop.invariant in
    elim c.match-first.branch [
      | in-Some w ↦
          let after = w.lists-is ∙ w.move_to.ensures.lists in
          let more = Moved-more c.args.lists.now c.loop.lists c.match-first.lists c.loop.counter w.in-Some.item c.args.from c.args.to (record { source = invariant.source; target = invariant.target; others = invariant.others }) (omega (arith, c.requires.enough)) (omega arith) (omega arith) c.requires.apart w.in-Some.ensures.place (sym w.in-Some.ensures.value) after in
          record {
            list_count = rw w.lists-is (w.move_to.ensures.list_count ∙ invariant.list_count);
            item_count = rw w.lists-is (w.move_to.ensures.item_count ∙ invariant.item_count);
            source = more.source;
            target = more.target;
            others = more.others;
          }
      | in_default w ↦ absurd (first_ahead _ _ c.loop.counter (omega (arith, c.requires.enough)) invariant.source (sym w.in_default.ensures.value))
    ]
