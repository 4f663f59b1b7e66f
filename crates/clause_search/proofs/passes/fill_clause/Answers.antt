use Rattle.std.proofs.Common.{◌≡◌, ◌∙◌, true, false, get_or, is_some}
use Rattle.std.proofs.lemmas.List.{get_or_default}
use Rattle.mbqi_values.specs.declared.lit.Lit.{Lit}
use Rattle.clause_search.specs.Course.{truths_of}
use Rattle.clause_search.specs.Truths.{lit_on}
use Rattle.clause_search.proofs.Growth.{Extends-trans}
use Rattle.clause_search.proofs.Passing.{decided_turn}
use Rattle.clause_search.proofs.passes.fill_clause.Goals as goal

pub loop-lit-preserved : goal.loop-lit-preserved
loop-lit-preserved g c =
    let old = c.loop-lit.trail in
    let new = c.fill_atom.new.trail in
    let clause = c.args.clause.now in
    let lit : Lit = get_or clause c.loop-lit.lit-index (record { atom = 0; yes = false }) in
    let here : is_some (lit_on (truths_of new) lit) ≡ true = rw c.in_default.is at c.in_ok-conflict.ensures.decided in
    record {
      same = c.fill_atom.ensures.problem ∙ c.loop-lit.invariant.same;
      stands = c.fill_atom.ensures.stands;
      sound = c.fill_atom.ensures.sound;
      extends = Extends-trans c.args.trail.now old new c.loop-lit.invariant.extends c.fill_atom.ensures.extends;
      decided = decided_turn old new clause c.loop-lit.lit-index lit c.fill_atom.ensures.extends c.is_fresh.ensures c.loop-lit-test.true
          (get_or_default clause c.loop-lit.lit-index (record { atom = 0; yes = false }) lit c.loop-lit-test.true)
          c.loop-lit.invariant.decided here;
    }
