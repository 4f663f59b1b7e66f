use Rattle.std.proofs.Common.{rules}
use Rattle.clause_search.specs.Course.{no_truths, truths_of}
use Rattle.clause_search.specs.Standing.{IsFull}
use Rattle.clause_search.proofs.FreshSteps.{AtomsDiffer-lits}
use Rattle.clause_search.proofs.Fullness.{all_given, all_model}
use Rattle.clause_search.proofs.turns.search_from.Goals as goal

pub returns-clause-once : goal.returns-clause-once
returns-clause-once g c =
    let trail = c.run.new.trail in
    rw c.in_ok-lits.ensures (AtomsDiffer-lits (no_truths trail.atoms) trail.steps c.is_fresh.ensures)

pub returns-clause-all : goal.returns-clause-all
returns-clause-all g c =
    let trail = c.run.new.trail in
    let clauses = c.args.clauses.now in
    let full : IsFull clauses (truths_of trail) = search rules in
    rw c.in_ok-lits.ensures (all_given trail clauses c.is_fresh.ensures full.decided)

pub returns-clause-model : goal.returns-clause-model
returns-clause-model g c =
    let trail = c.run.new.trail in
    let clauses = c.args.clauses.now in
    let full : IsFull clauses (truths_of trail) = search rules in
    rw c.in_ok-lits.ensures (all_model trail clauses c.is_fresh.ensures full.holds)
