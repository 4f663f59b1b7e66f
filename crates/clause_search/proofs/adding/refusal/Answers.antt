use Rattle.std.proofs.Common.{◌≡◌, true, map, List}
use Rattle.mbqi_values.specs.declared.lit.Lit.{Lit}
use Rattle.clause_search.specs.Course.{truths_of, with_lit}
use Rattle.clause_search.specs.Following.{IsLemma}
use Rattle.clause_search.specs.Resolvent.{negation}
use Rattle.clause_search.specs.Truths.{false_on}
use Rattle.clause_search.proofs.Conflicts.{refusal_fails, refusal_holds, IfOk-at}
use Rattle.clause_search.proofs.adding.refusal.Goals as goal

pub returns-clause-lemma : goal.returns-clause-lemma
returns-clause-lemma g c =
    let theory = g.T.Theory in
    let state = c.args.theory.now in
    let lawful = theory.lawful (theory.problem state) in
    let lent = c.clash.result.now in
    IfOk-at c.negations.result (map negation lent) (IsLemma lawful) c.negations.ensures
    (refusal_holds lawful (theory.clashed state) c.args.lit lent c.requires.clashed c.clash.ensures.none)

pub returns-clause-is_false : goal.returns-clause-is_false
returns-clause-is_false g c =
    let theory = g.T.Theory in
    let state = c.args.theory.now in
    let trail = c.args.trail.now in
    let lent = c.clash.result.now in
    IfOk-at c.negations.result (map negation lent) (λ (clause : List Lit). false_on (with_lit (truths_of trail) c.args.lit) clause ≡ true)
    c.negations.ensures
    (refusal_fails trail (theory.clashed state) c.args.lit (theory.content state) lent c.is_fresh.ensures c.requires.within c.requires.free
    c.requires.content c.requires.clashed c.clash.ensures.part)
