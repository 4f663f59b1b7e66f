use Rattle.index_lists.proofs.Calls.{answers_first}
use Rattle.index_lists.proofs.index_lists.IndexLists.first.Goals as goal

pub returns : goal.returns
returns c =
    let answer = answers_first _ _ c.self.invariant c.self.view_is c.args.list c.index.result.now c.requires c.index.ensures in
    record { value = answer.value; walk = answer.walk; place = answer.place; within = answer.within }
