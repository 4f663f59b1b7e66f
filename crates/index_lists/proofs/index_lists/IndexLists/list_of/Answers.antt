use Rattle.index_lists.proofs.Calls.{answers_list_of}
use Rattle.index_lists.proofs.index_lists.IndexLists.list_of.Goals as goal

pub returns : goal.returns
returns c =
    let answer = answers_list_of _ _ c.self.invariant c.self.view_is c.args.item c.index.result.now c.requires c.index.ensures in
    record { value = answer.value; within = answer.within; disjoint = answer.disjoint }
