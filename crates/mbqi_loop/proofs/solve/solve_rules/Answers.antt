use Rattle.std.proofs.Common.{◌++◌, List, sym, ap, subst, ◌∙◌}
use Rattle.mbqi_terms.specs.declared.instance.InstanceLine.{InstanceLine}
use Rattle.mbqi_loop.specs.Refuted.{AreInstances}
use Rattle.mbqi_loop.proofs.Listing.{empty_listed}
use Rattle.mbqi_loop.proofs.solve.solve_rules.Goals as goal

pub list-requires-clause-listed : goal.list-requires-clause-listed
list-requires-clause-listed g c =
    let none = c.nothing_listed-none in
    empty_listed _ c.in_ok-pool.pool.terms none.result none.ensures.lines none.ensures.table none.ensures.clauses

pub list-requires-clause-ground : goal.list-requires-clause-ground
list-requires-clause-ground g c = rw (c.as_slice-2.ensures) c.in_ok-first.ensures.ground

pub rounds-requires-clause-instances : goal.rounds-requires-clause-instances
rounds-requires-clause-instances g c =
    let from_none = ap (λ (lines : List InstanceLine). lines ++ c.in_ok-first.first) c.nothing_listed-none.ensures.lines in
    subst (AreInstances c.args.script.now) (sym (c.in_ok-listed.ensures.lines ∙ from_none)) c.in_ok-first.ensures.instances
