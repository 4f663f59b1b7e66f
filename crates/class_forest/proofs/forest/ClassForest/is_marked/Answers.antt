use Rattle.std.proofs.Common.{arith}
use Rattle.class_forest.proofs.Rooms.{length-log}
use Rattle.class_forest.proofs.forest.ClassForest.is_marked.Goals as goal

pub is_marked-requires : goal.is_marked-requires
is_marked-requires c =
    let within = rw (← c.self.view_is) at c.requires in
    let most = length-log _ _ c.self.invariant.0.valid in
    let room = c.self.invariant.2 in
    omega arith
