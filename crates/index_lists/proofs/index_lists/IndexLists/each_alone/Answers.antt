use Rattle.index_lists.proofs.Calls.{alone_start}
use Rattle.index_lists.proofs.index_lists.IndexLists.each_alone.Goals as goal

pub invariant_of-result : goal.invariant_of-result
invariant_of-result c =
    let links = c.in_ok-each_alone.ensures in
    let start = alone_start c.args.count _ _ _ _ links.first links.next links.previous c.in_ok-numbers_below.ensures in
    start.fit

pub returns-clause-lists : goal.returns-clause-lists
returns-clause-lists c =
    let links = c.in_ok-each_alone.ensures in
    let start = alone_start c.args.count _ _ _ _ links.first links.next links.previous c.in_ok-numbers_below.ensures in
    start.seen

pub returns-clause-list_count : goal.returns-clause-list_count
returns-clause-list_count c =
    let links = c.in_ok-each_alone.ensures in
    let start = alone_start c.args.count _ _ _ _ links.first links.next links.previous c.in_ok-numbers_below.ensures in
    start.lists_seen

pub returns-clause-item_count : goal.returns-clause-item_count
returns-clause-item_count c =
    let links = c.in_ok-each_alone.ensures in
    let start = alone_start c.args.count _ _ _ _ links.first links.next links.previous c.in_ok-numbers_below.ensures in
    start.items_seen
