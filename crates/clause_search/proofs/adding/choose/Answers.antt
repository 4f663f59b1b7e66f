use Rattle.std.proofs.Common.{◌≡◌, ◌<◌, sym, ap, true≢false, arith, rules}
use Rattle.clause_search.specs.Course.{with_step, Course}
use Rattle.clause_search.specs.declared.step.Reason.TheVariants.{Chosen, Derived}
use Rattle.clause_search.proofs.Growth.{decided_by_step, step_decides, IsSound-step}
use Rattle.clause_search.proofs.Members.{IsSound-moved}
use Rattle.clause_search.proofs.adding.choose.Goals as goal

pub returns-in_default-clause-sound : goal.returns-in_default-clause-sound
returns-in_default-clause-sound g c =
    let theory = g.T.Theory in
    let old = theory.problem c.args.theory.now in
    let new = theory.problem c.try_choice.new.theory in
    let clauses = c.args.clauses.now in
    let trail = c.try_choice.new.trail in
    let added : trail ≡ with_step c.args.trail.now c.args.lit Chosen = search rules in
    IsSound-moved theory.lawful clauses trail old new (sym c.try_choice.ensures.problem)
    (IsSound-step (theory.lawful old) clauses c.args.trail.now trail c.args.lit Chosen added c.requires.sound
    (λ chosen. absurd (true≢false chosen)))

pub returns-in_default-clause-decided : goal.returns-in_default-clause-decided
returns-in_default-clause-decided g c =
    let added : c.try_choice.new.trail ≡ with_step c.args.trail.now c.args.lit Chosen = search rules in
    step_decides c.args.trail.now c.try_choice.new.trail c.args.lit Chosen added c.requires.within

pub returns-clause-decided : goal.returns-clause-decided
returns-clause-decided g c =
    let before = c.try_choice.new.trail in
    let kept : before ≡ c.args.trail.now = search rules in
    let atoms = ap (λ (t : Course). t.atoms) kept in
    let same : c.negated.result.atom ≡ c.args.lit.atom = search rules in
    let within : c.negated.result.atom < before.atoms = omega (arith, atoms, same, c.requires.within) in
    decided_by_step c.imply.result before c.imply.new.trail c.negated.result (Derived c.in-Some.refusal) c.args.lit.atom same within
    c.imply.ensures.added
