use Rattle.std.proofs.Common.{◌<◌}
use Rattle.clause_search.specs.Rank.{rank_of}
use Rattle.clause_search.proofs.Growth.{rank-nearer}
use Rattle.clause_search.proofs.turns.run.Goals as goal

pub turns-smaller : goal.turns-smaller
turns-smaller g c =
    let rises : rank_of c.turns.trail < rank_of c.take_turn.new.trail = rw c.in-Turned.is at c.in_ok-take_turn.ensures.rises in
    rank-nearer c.turns.trail c.take_turn.new.trail c.take_turn.ensures.atoms rises
