use Rattle.clause_region.proofs.InOrder.{AreInOrder-emptied, AreInOrder-without}
use Rattle.clause_region.proofs.region.ClauseRegion.drop_run.Goals as goal

pub returns-clause-others : goal.returns-clause-others
returns-clause-others c = record {
  without = λ before after h. AreInOrder-without _ _ before after c.args.run h;
  emptied = λ before after empty none h. AreInOrder-emptied _ _ before after empty none (AreInOrder-without _ _ before after c.args.run h);
}
