use Rattle.index_lists.proofs.Calls.{first_start}
use Rattle.index_lists.proofs.index_lists.IndexLists.new.Goals as goal

pub invariant_of-result : goal.invariant_of-result
invariant_of-result c =
    let links = c.in_ok-new.ensures in
    let zeros = c.in_ok-vec.ensures.items_if_clones_equal (λ y h. h) in
    let start = first_start c.args.lists c.args.items c.requires _ _ _ _ links.first links.next links.previous zeros in
    start.fit

pub returns-clause-lists : goal.returns-clause-lists
returns-clause-lists c =
    let links = c.in_ok-new.ensures in
    let zeros = c.in_ok-vec.ensures.items_if_clones_equal (λ y h. h) in
    let start = first_start c.args.lists c.args.items c.requires _ _ _ _ links.first links.next links.previous zeros in
    start.seen

pub returns-clause-item_count : goal.returns-clause-item_count
returns-clause-item_count c =
    let links = c.in_ok-new.ensures in
    let zeros = c.in_ok-vec.ensures.items_if_clones_equal (λ y h. h) in
    let start = first_start c.args.lists c.args.items c.requires _ _ _ _ links.first links.next links.previous zeros in
    start.items_seen
