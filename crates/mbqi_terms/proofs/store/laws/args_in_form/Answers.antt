use Rattle.std.proofs.Common.{subst}
use Rattle.std.specs.List.{All}
use Rattle.mbqi_terms.specs.Form.{IsTermInForm}
use Rattle.mbqi_terms.proofs.Putting.{args_form}
use Rattle.mbqi_terms.proofs.store.laws.args_in_form.Goals as goal

pub returns : goal.returns
returns c = subst (All (IsTermInForm c.args.lists.now)) c.requires.args (args_form c.args.lists.now c.args.whole.now c.requires.form)
