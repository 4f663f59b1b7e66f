use Rattle.std.proofs.Common.{◌++◌}
use Rattle.std.proofs.lemmas.Result.{err_from_is_err_and}
use Rattle.std.specs.Prelude.{codes}
use Rattle.mbqi_values.specs.FaultKind.{name_of}
use Rattle.mbqi_app.proofs.Puts.{then_more, fault_first}
use Rattle.mbqi_app.proofs.tell.put_kind.Goals as goal

pub returns-in_err-put_name-clause-puts : goal.returns-in_err-put_name-clause-puts
returns-in_err-put_name-clause-puts g c =
    let p = err_from_is_err_and c.from_residual.result c.from_residual.ensures.1 in
    rw p.1 (fault_first (g.E.Sink.taken c.args.err.now) (g.E.Sink.taken c.put_name.new.err) (g.E.Sink.faults c.args.err.now) (g.E.Sink.faults c.put_name.new.err)
    (codes ": " ++ name_of c.args.kind) (codes "\n") c.in_err-put_name.ensures.puts)

pub returns-clause-puts : goal.returns-clause-puts
returns-clause-puts g c =
    then_more c.put_piece.result (g.E.Sink.taken c.args.err.now) (g.E.Sink.taken c.put_name.new.err) (g.E.Sink.taken c.put_piece.new.err)
    (g.E.Sink.faults c.args.err.now) (g.E.Sink.faults c.put_name.new.err) (g.E.Sink.faults c.put_piece.new.err)
    (codes ": " ++ name_of c.args.kind) (codes "\n") c.in_ok-put_name.ensures.puts c.put_name.ensures.faults c.put_piece.ensures.puts
