use Rattle.std.proofs.Common.{List, sym, subst, ap₂}
use Rattle.mbqi_values.specs.declared.lit.Lit.{Lit}
use Rattle.clause_search.specs.Course.{truths_of}
use Rattle.clause_search.specs.Following.{IsConflict}
use Rattle.clause_search.specs.Resolvent.{resolvent_of}
use Rattle.clause_search.proofs.Conflicts.{refuted_conflict, IfOk-at}
use Rattle.clause_search.proofs.adding.refuted.Goals as goal

pub lits-requires : goal.lits-requires
lits-requires g c = c.requires.implied.numbered

pub returns : goal.returns
returns g c =
    let theory = g.T.Theory in
    let lawful = theory.lawful (theory.problem c.args.theory.now) in
    let clauses = c.args.clauses.now in
    let trail = c.args.trail.now in
    let lit = c.args.lit in
    let refusal = c.in_ok-clause in
    let parts = ap₂ (λ (left right : List Lit). resolvent_of left right lit.atom) c.as_slice.ensures c.lits.ensures in
    IfOk-at c.resolvent.result (resolvent_of c.as_slice.result.now c.lits.result.now lit.atom) (IsConflict lawful clauses (truths_of trail))
    c.resolvent.ensures
    (subst (IsConflict lawful clauses (truths_of trail)) (sym parts)
    (refuted_conflict lawful clauses trail lit c.args.reason refusal.clause c.requires.within refusal.ensures.lemma
    refusal.ensures.is_false c.requires.implied))
