use Rattle.std.proofs.Common.{◌≡◌, ◌≤◌}
use Rattle.std.specs.Prelude.{vec_capacity, vec_len}
use Rattle.class_forest.specs.Marks.{AreMarks}
use Rattle.class_forest.proofs.marks.Marks.unmark_all.Given as goal

abbrev pub invariant-loop-number : goal.invariant-loop-number
invariant-loop-number l = record {
  marks : AreMarks l.self-inside.is_marked.items l.self-inside.marks.items;
  room : vec_len l.self-inside.is_marked ≤ vec_capacity l.self-inside.marks;
  length : vec_len l.self-inside.is_marked ≡ vec_len l.initial.self-inside.is_marked;
}

abbrev pub decreases-loop-number : goal.decreases-loop-number
decreases-loop-number l = vec_len l.self-inside.marks
