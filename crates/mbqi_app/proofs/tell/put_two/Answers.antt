use Rattle.std.proofs.lemmas.Result.{err_from_is_err_and}
use Rattle.mbqi_app.proofs.Puts.{then_more, fault_first}
use Rattle.mbqi_app.proofs.tell.put_two.Goals as goal

pub returns-in_err-put_piece-clause-puts : goal.returns-in_err-put_piece-clause-puts
returns-in_err-put_piece-clause-puts g c =
    let p = err_from_is_err_and c.from_residual.result c.from_residual.ensures.1 in
    rw p.1 (fault_first (g.E.Sink.taken c.args.err.now) (g.E.Sink.taken c.put_piece.new.err) (g.E.Sink.faults c.args.err.now) (g.E.Sink.faults c.put_piece.new.err)
    c.args.first.now c.args.second.now c.in_err-put_piece.ensures.puts)

pub returns-clause-puts : goal.returns-clause-puts
returns-clause-puts g c =
    then_more c.put_piece-2.result (g.E.Sink.taken c.args.err.now) (g.E.Sink.taken c.put_piece.new.err) (g.E.Sink.taken c.put_piece-2.new.err)
    (g.E.Sink.faults c.args.err.now) (g.E.Sink.faults c.put_piece.new.err) (g.E.Sink.faults c.put_piece-2.new.err)
    c.args.first.now c.args.second.now c.in_ok-put_piece.ensures.puts c.put_piece.ensures.faults c.put_piece-2.ensures.puts
