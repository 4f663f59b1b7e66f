use Rattle.mbqi_terms.proofs.Putting.{base_form, may_add, sum_form}
use Rattle.mbqi_terms.proofs.store.laws.sum_in_form.Goals as goal

pub returns : goal.returns
returns c =
    let form = sum_form c.args.lists.now c.args.sum.now c.args.base.now c.args.number c.requires.sum c.requires.form in
    record {
      base = form.0;
      form = base_form c.args.lists.now c.args.sum.now c.args.base.now c.args.number c.requires.sum c.requires.form;
      number = may_add c.args.lists.now c.args.base.now c.args.number form;
    }
