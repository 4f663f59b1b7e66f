use Rattle.std.proofs.Common.{◌-◌, ◌≤◌}
use Rattle.mbqi_edge.specs.Reading.{Adds}
use Rattle.mbqi_edge.proofs.folder_shelf.read_pieces.Given as goal

abbrev pub invariant-loop-count : goal.invariant-loop-count
invariant-loop-count g l =
    let reader = g.F.Read in
    record {
      within : l.left ≤ l.limit;
      added : Adds (reader.remaining l.initial.file) (reader.remaining l.file) (l.limit - l.left) l.initial.into.items l.into.items;
    }

abbrev pub decreases-loop-count : goal.decreases-loop-count
decreases-loop-count g l = l.left
