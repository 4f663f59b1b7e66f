use Rattle.std.proofs.Common.{◌++◌}
use Rattle.std.proofs.lemmas.Result.{err_from_is_err_and}
use Rattle.std.specs.Prelude.{codes, decimal}
use Rattle.mbqi_values.specs.FaultKind.{name_of}
use Rattle.mbqi_app.proofs.Puts.{then_more, fault_first}
use Rattle.mbqi_app.proofs.tell.put_refusal.Goals as goal

pub returns-in_err-put_number-clause-puts : goal.returns-in_err-put_number-clause-puts
returns-in_err-put_number-clause-puts g c =
    let p = err_from_is_err_and c.from_residual.result c.from_residual.ensures.1 in
    rw p.1 (fault_first (g.E.Sink.taken c.args.err.now) (g.E.Sink.taken c.put_number.new.err) (g.E.Sink.faults c.args.err.now) (g.E.Sink.faults c.put_number.new.err)
    (c.args.front.now ++ decimal c.args.refusal.now.at) (codes ": " ++ name_of c.args.refusal.now.kind ++ codes "\n") c.in_err-put_number.ensures.puts)

pub returns-clause-puts : goal.returns-clause-puts
returns-clause-puts g c =
    then_more c.put_kind.result (g.E.Sink.taken c.args.err.now) (g.E.Sink.taken c.put_number.new.err) (g.E.Sink.taken c.put_kind.new.err)
    (g.E.Sink.faults c.args.err.now) (g.E.Sink.faults c.put_number.new.err) (g.E.Sink.faults c.put_kind.new.err)
    (c.args.front.now ++ decimal c.args.refusal.now.at) (codes ": " ++ name_of c.args.refusal.now.kind ++ codes "\n") c.in_ok-put_number.ensures.puts c.put_number.ensures.faults c.put_kind.ensures.puts
