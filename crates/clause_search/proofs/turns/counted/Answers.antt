use Rattle.std.proofs.Common.{◌≡◌, ◌<◌, ◌≤◌, All, List, false, get_or, subst, arith}
use Rattle.std.proofs.lemmas.List.{get_or_default, take_all}
use Rattle.mbqi_values.specs.declared.lit.Lit.{Lit}
use Rattle.clause_search.proofs.Passing.{lit_within, within_more}
use Rattle.clause_search.proofs.turns.counted.Goals as goal

pub loop-lit-preserved : goal.loop-lit-preserved
loop-lit-preserved c =
    let clause = c.args.clause.now in
    let at = c.loop-lit.lit-index in
    let count = c.loop-lit.count in
    let next = c.max-count.result in
    let lit : Lit = get_or clause at (record { atom = 0; yes = false }) in
    let is : lit ≡ get_or clause at lit = get_or_default clause at (record { atom = 0; yes = false }) lit c.loop-lit-test.true in
    let more : count ≤ next = omega arith in
    let here : lit.atom < next = omega (arith, c.in_ok-checked_add.ensures) in
    record {
      above = omega arith;
      below = within_more clause count next at lit c.loop-lit-test.true is more here c.loop-lit.invariant.below;
      least = λ limit from each.
          let before = c.loop-lit.invariant.least limit from each in
          let within = lit_within clause limit at lit c.loop-lit-test.true is each in
          omega (arith, c.in_ok-checked_add.ensures, before, within);
    }

pub returns-clause-below : goal.returns-clause-below
returns-clause-below c =
    let clause = c.args.clause.now in
    subst (λ (lits : List Lit). All (λ (l : Lit). l.atom < c.loop-lit.count) lits)
    (take_all c.loop-lit.lit-index clause c.loop-lit-test.false) c.loop-lit.invariant.below
