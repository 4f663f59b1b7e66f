use Rattle.std.proofs.Common.{length, ◌-◌, ◌≡◌, ◌≤◌, take}
use Rattle.mbqi_edge.specs.Told.{with_more}
use Rattle.mbqi_edge.proofs.put.put_all.Given as goal

abbrev pub invariant-loop-at : goal.invariant-loop-at
invariant-loop-at g l =
    let sink = g.W.Sink in
    record {
      within : l.at ≤ length l.piece;
      taken : sink.taken l.sink ≡ with_more (sink.taken l.initial.sink) (take l.at l.piece);
      faults : sink.faults l.initial.sink ≤ sink.faults l.sink;
      empty : length l.piece ≡ 0 → l.sink ≡ l.initial.sink;
    }

abbrev pub decreases-loop-at : goal.decreases-loop-at
decreases-loop-at g l = length l.piece - l.at
