use Rattle.mbqi_loop.specs.Assigned.{truth_at}
use Rattle.mbqi_loop.proofs.Assigned.{clauses_made}
use Rattle.mbqi_loop.proofs.truths.truths_of.Goals as goal

pub returns-in-Found-clause-model : goal.returns-in-Found-clause-model
returns-in-Found-clause-model c =
    let once = rw c.in-Found.is at c.in_ok-trail.ensures.once in
    let makes = rw c.in-Found.is at c.in_ok-trail.ensures.model in
    let made = rw c.as_slice.ensures at c.in_ok-made_true-in-Found.ensures.made in
    clauses_made (truth_at c.in_ok-made_true-in-Found.field-0) c.args.atoms c.in-Found.trail c.args.clauses.now once made c.requires makes
