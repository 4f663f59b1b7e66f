use Rattle.std.proofs.Common.{◌≡◌, ◌≢◌, ℕ, ◌++◌, length, reverse, take, drop}
use Rattle.index_lists.specs.Lists.{item_count, items_of}
use Rattle.class_forest.proofs.moving.move_items.Given as goal

abbrev pub invariant-loop : goal.invariant-loop
invariant-loop l = record {
  list_count : length l.lists ≡ length l.initial.lists;
  item_count : item_count l.lists ≡ item_count l.initial.lists;
  source : items_of l.lists l.from ≡ drop l.counter (items_of l.initial.lists l.from);
  target : items_of l.lists l.to ≡ reverse (take l.counter (items_of l.initial.lists l.from)) ++ items_of l.initial.lists l.to;
  others : (list : ℕ) → list ≢ l.from → list ≢ l.to → items_of l.lists list ≡ items_of l.initial.lists list;
}
