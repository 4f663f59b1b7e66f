use Rattle.mbqi_terms.proofs.SampleForms.{stored}
use Rattle.mbqi_terms.proofs.tests.comes_back.Goals as goal

pub tree-requires : goal.tree-requires
tree-requires c = stored c.put_term.new.self c.in_ok-id.id c.args.t.now c.in_ok-id.ensures.tree
