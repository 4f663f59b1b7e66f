use Rattle.std.proofs.Common.{subst, arith}
use Rattle.std.specs.List.{All}
use Rattle.mbqi_terms.specs.Form.{IsTermInForm}
use Rattle.mbqi_terms.proofs.Putting.{args_form}
use Rattle.mbqi_terms.proofs.store.laws.index_in_form.Goals as goal

pub returns : goal.returns
returns c =
    let all = subst (All (IsTermInForm c.args.lists.now)) c.requires.args (args_form c.args.lists.now c.args.read.now c.requires.form) in
    all 0 c.args.index.now (omega arith)
