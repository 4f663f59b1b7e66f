use Rattle.std.proofs.Common.{◌≡◌, true, rules}
use Rattle.std.specs.List.{list_all}
use Rattle.clause_search.specs.Course.{truths_of}
use Rattle.clause_search.specs.Truths.{decided_on}
use Rattle.clause_search.proofs.Fullness.{all_true-extends}
use Rattle.clause_search.proofs.passes.finish.Goals as goal

pub returns-in-None-clause-full : goal.returns-in-None-clause-full
returns-in-None-clause-full g c =
    let clauses = c.args.clauses.now in
    let new = c.fill.new.trail in
    let decided : list_all (decided_on (truths_of new)) clauses ≡ true = search rules in
    record {
      holds = all_true-extends c.args.trail.now new clauses c.fill.ensures.extends c.is_fresh.ensures c.requires.holds;
      decided =
          decided;
    }
