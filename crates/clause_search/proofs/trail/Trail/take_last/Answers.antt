use Rattle.std.proofs.Common.{vec_len, arith}
use Rattle.clause_search.proofs.TrailSteps.{front_fresh, last_free, last_within, undone_truths}
use Rattle.clause_search.proofs.trail.Trail.take_last.Goals as goal

pub index_mut-requires : goal.index_mut-requires
index_mut-requires c =
    last_within (vec_len c.self.inside.truths) c.self.inside.steps.items c.pop.new.self.items c.in_ok-step.step c.self.invariant.1
    c.in_ok-step.ensures.items

pub invariant_of-self-2 : goal.invariant_of-self-2
invariant_of-self-2 c =
    let truths = c.self.inside.truths in
    let steps = c.self.inside.steps.items in
    let front = c.pop.new.self.items in
    let step = c.in_ok-step.step in (
      undone_truths (vec_len truths) truths.items steps front step c.self.invariant.0 c.self.invariant.1 c.in_ok-step.ensures.items,
      front_fresh (vec_len truths) steps front step c.self.invariant.1 c.in_ok-step.ensures.items,
      omega (arith, c.self.invariant.2, c.in_ok-step.ensures.capacity),
    )

pub returns-clause-within : goal.returns-clause-within
returns-clause-within c =
    last_within (vec_len c.self.inside.truths) c.self.inside.steps.items c.pop.new.self.items c.in_ok-step.step c.self.invariant.1
    c.in_ok-step.ensures.items

pub returns-clause-free : goal.returns-clause-free
returns-clause-free c =
    last_free (vec_len c.self.inside.truths) c.self.inside.steps.items c.pop.new.self.items c.in_ok-step.step c.self.invariant.1
    c.in_ok-step.ensures.items
