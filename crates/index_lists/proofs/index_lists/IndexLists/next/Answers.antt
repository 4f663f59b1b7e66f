use Rattle.index_lists.proofs.Calls.{answers_next}
use Rattle.index_lists.proofs.index_lists.IndexLists.next.Goals as goal

pub returns : goal.returns
returns c =
    let answer = answers_next _ _ c.self.invariant c.self.view_is c.args.item c.index.result.now c.requires c.index.ensures in
    record { value = answer.value; walk = answer.walk; place = answer.place; within = answer.within }
