use Rattle.index_lists.proofs.Calls.{front_within, list_within, moves, next_within, previous_within}
use Rattle.index_lists.proofs.index_lists.IndexLists.move_to.Goals as goal

pub take_out-requires-clause-list : goal.take_out-requires-clause-list
take_out-requires-clause-list c =
    list_within _ _ c.self.invariant c.self.view_is c.args.item c.index.result.now c.requires.item_within c.index.ensures _ c.self.inside.links.first.ok.0

pub take_out-requires-clause-next : goal.take_out-requires-clause-next
take_out-requires-clause-next c = next_within _ _ c.self.invariant c.self.view_is c.args.item _ c.requires.item_within c.self.inside.links.next.ok.0

pub take_out-requires-clause-previous : goal.take_out-requires-clause-previous
take_out-requires-clause-previous c = previous_within _ _ c.self.invariant c.self.view_is c.args.item _ c.requires.item_within c.self.inside.links.next.ok.0

pub put_first-requires-clause-front : goal.put_first-requires-clause-front
put_first-requires-clause-front c =
    front_within _ _ c.self.invariant c.self.view_is c.args.item c.index.result.now c.requires.item_within c.index.ensures _ _ c.take_out.ensures.first c.take_out.ensures.next
    c.args.list _ c.take_out.new.self.next.ok.0

pub invariant_of-self : goal.invariant_of-self
invariant_of-self c =
    let moved =
    moves _ _ c.self.invariant c.self.view_is c.args.item c.args.list c.requires.item_within c.requires.list_within c.index.result.now _ _ _ _ _ _ c.index.ensures
    c.take_out.ensures.first c.take_out.ensures.next c.take_out.ensures.previous c.put_first.ensures.first c.put_first.ensures.next c.put_first.ensures.previous in
    moved.fit

pub returns : goal.returns
returns c =
    let moved =
    moves _ _ c.self.invariant c.self.view_is c.args.item c.args.list c.requires.item_within c.requires.list_within c.index.result.now _ _ _ _ _ _ c.index.ensures
    c.take_out.ensures.first c.take_out.ensures.next c.take_out.ensures.previous c.put_first.ensures.first c.put_first.ensures.next c.put_first.ensures.previous in
    record { lists = moved.lists; list_count = moved.list_count; item_count = moved.items; place = moved.place; others = moved.others }
