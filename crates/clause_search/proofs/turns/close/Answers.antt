use Rattle.std.proofs.Common.{sym, ap, ◌∙◌}
use Rattle.clause_search.proofs.Endings.{frames-kept, frames-popped}
use Rattle.clause_search.proofs.turns.close.Goals as goal
use Rattle.clause_search.proofs.turns.close.Goals.{then-is_chosen, else-is_chosen}

pub steps-preserved-after-is_chosen : goal.steps-preserved-after-is_chosen
steps-preserved-after-is_chosen g c =
    let theory = g.T.Theory in
    let frames = theory.frames c.steps.theory in
    let old = c.steps.trail.steps in
    let front = c.take_last.new.self.steps in
    let last = c.in-Some.step in
    elim c.if-is_chosen.branch [
      | then-is_chosen w ↦ record {
        same = ap theory.problem w.theory-is ∙ (w.pop.ensures.problem ∙ c.steps.invariant.same);
        frames = ap theory.frames w.theory-is
            ∙ frames-popped frames (theory.frames w.pop.new.self) old front last c.steps.invariant.frames c.in-Some.ensures.last
            (sym c.is_chosen.ensures ∙ w.if-is_chosen.true) w.pop.ensures.frames;
      }
      | else-is_chosen w ↦ record {
        same = ap theory.problem w.theory-is ∙ c.steps.invariant.same;
        frames = ap theory.frames w.theory-is
            ∙ frames-kept frames old front last c.steps.invariant.frames c.in-Some.ensures.last
            (sym c.is_chosen.ensures ∙ w.if-is_chosen.false);
      }
    ]

pub steps-preserved : goal.steps-preserved
steps-preserved g c =
    let theory = g.T.Theory in
    let frames = theory.frames c.steps.theory in
    let old = c.steps.trail.steps in
    let front = c.take_last.new.self.steps in
    let last = c.in-Some.step in
    elim c.if-is_chosen.branch [
      | then-is_chosen w ↦ record {
        same = ap theory.problem w.theory-is ∙ (w.pop.ensures.problem ∙ c.steps.invariant.same);
        frames = ap theory.frames w.theory-is
            ∙ frames-popped frames (theory.frames w.pop.new.self) old front last c.steps.invariant.frames c.in-Some.ensures.last
            (sym c.is_chosen.ensures ∙ w.if-is_chosen.true) w.pop.ensures.frames;
      }
      | else-is_chosen w ↦ record {
        same = ap theory.problem w.theory-is ∙ c.steps.invariant.same;
        frames = ap theory.frames w.theory-is
            ∙ frames-kept frames old front last c.steps.invariant.frames c.in-Some.ensures.last
            (sym c.is_chosen.ensures ∙ w.if-is_chosen.false);
      }
    ]
