use Rattle.std.proofs.Common.{vec_len, arith}
use Rattle.clause_search.specs.declared.step.Step.{Step}
use Rattle.clause_search.proofs.FreshSteps.{step_fits}
use Rattle.clause_search.proofs.TrailSteps.{added_fresh, added_truths}
use Rattle.clause_search.proofs.trail.Trail.add.Goals as goal

pub unwrap-requires : goal.unwrap-requires
unwrap-requires c =
    let steps = c.self.inside.steps in
    let within = rw (← c.self.view_is) at c.requires.within in
    let free = rw (← c.self.view_is) at c.requires.free in
    let fits = step_fits (vec_len c.self.inside.truths) steps.items c.args.lit.atom c.self.invariant.1 within free in
    c.push.ensures.succeeds (omega (arith, fits, c.self.invariant.2, steps.ok.0))

pub invariant_of-self : goal.invariant_of-self
invariant_of-self c =
    let truths = c.self.inside.truths in
    let steps = c.self.inside.steps.items in
    let step : Step = record { lit = c.args.lit; reason = c.args.reason } in
    let items = rw c.unwrap.ensures at c.push.ensures.items in
    let within = rw (← c.self.view_is) at c.requires.within in
    let free = rw (← c.self.view_is) at c.requires.free in (
      rw items (added_truths (vec_len truths) truths.items steps step c.self.invariant.0),
      rw items (added_fresh (vec_len truths) steps step c.self.invariant.1 within free),
      omega (arith, c.self.invariant.2, c.push.ensures.capacity),
    )
