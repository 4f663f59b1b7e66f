use Rattle.std.proofs.Common.{arith}
use Rattle.mbqi_edge.proofs.ReadBytes.{Adds-more, Adds-takes, TakesAtMost-more}
use Rattle.mbqi_edge.proofs.folder_shelf.read_pieces.Goals as goal

pub returns-in_err-count-clause-takes : goal.returns-in_err-count-clause-takes
returns-in_err-count-clause-takes g c =
    TakesAtMost-more _ _ _ _ _ _ _ _ c.loop-count.invariant.added c.read_piece.ensures.takes (omega arith)

pub returns-then-count-left-clause-too_long : goal.returns-then-count-left-clause-too_long
returns-then-count-left-clause-too_long g c _ =
    Adds-takes _ _ _ _ _ (Adds-more _ _ _ _ _ _ _ _ _ c.loop-count.invariant.added c.in_ok-count.ensures.adds (omega (arith, c.in_ok-count.ensures.within)))

pub returns-then-count-left-clause-takes : goal.returns-then-count-left-clause-takes
returns-then-count-left-clause-takes g c =
    TakesAtMost-more _ _ _ _ _ _ _ _ c.loop-count.invariant.added c.read_piece.ensures.takes (omega arith)
