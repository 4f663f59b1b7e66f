use Rattle.std.proofs.lemmas.Result.{on_ok_weaker}
use Rattle.element_models.proofs.Filling.{put_at}
use Rattle.element_models.proofs.rows.put_row.Goals as goal

-- the table of the number, with the row put into it
pub returns : goal.returns
returns c =
    on_ok_weaker c.put_last.result
    (λ is. put_at c.args.tables.now.items c.args.at c.args.row c.index_mut.result.now c.put_last.new.table c.requires c.index_mut.ensures.value is)
    c.put_last.ensures
