use Rattle.std.proofs.Common.{◌≡◌, length, map, string_bytes, arith}
use Rattle.std.proofs.lemmas.List.{length-map}
use Rattle.mbqi_app.proofs.CommandForms.{only_two}
use Rattle.mbqi_app.proofs.command.task_of.Goals as goal

-- fewer or more than two words are no command that is built
pub returns-else-words-eq2 : goal.returns-else-words-eq2
returns-else-words-eq2 c =
    let same : length (map string_bytes c.args.words.now) ≡ length c.args.words.now = length-map c.args.words.now string_bytes in
    only_two (map string_bytes c.args.words.now) (λ two. omega arith)
