use Rattle.std.proofs.Common.{map, string_bytes, refl}
use Rattle.mbqi_app.specs.Task.{command_of_task}
use Rattle.mbqi_app.proofs.Carrying.{fetched, not_fetched}
use Rattle.mbqi_app.proofs.program.carry_out.Goals as goal

pub returns-in-Ok : goal.returns-in-Ok
returns-in-Ok g c =
    let responds = rw c.as_slice.ensures.value at c.respond.ensures in
    fetched (map string_bytes c.args.words.now) (command_of_task c.in-Some.task) c.file.result.now c.in-Some.ensures c.file.ensures c.in-Ok.bytes.items _ _ _ _ _
    c.in-Ok.ensures.bytes c.in-Ok.ensures.short c.fetch_file.ensures.files c.in-Ok.ensures.all_asked responds

pub returns-in-Err : goal.returns-in-Err
returns-in-Err g c =
    not_fetched (map string_bytes c.args.words.now) (command_of_task c.in-Some.task) c.file.result.now c.in-Some.ensures c.file.ensures _ _ _ _ c.in-Err.status
    c.in-Err.ensures.comes c.in-Err.ensures.read_fault c.in-Err.ensures.too_long c.fetch_file.ensures.files c.fetch_file.ensures.asked refl refl
