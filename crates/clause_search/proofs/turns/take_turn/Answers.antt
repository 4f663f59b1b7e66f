use Rattle.std.proofs.Common.{◌<◌, length, rules, arith}
use Rattle.clause_search.specs.Rank.{rank_of}
use Rattle.clause_search.proofs.Growth.{rank-extends, rank-grows}
use Rattle.clause_search.proofs.turns.take_turn.Goals as goal

pub returns-in-Grown-clause-rises : goal.returns-in-Grown-clause-rises
returns-in-Grown-clause-rises g c =
    let old = c.args.trail.now in
    let new = c.advance.new.trail in
    let more : length old.steps < length new.steps = search rules in
    rank-grows old new c.advance.ensures.extends c.is_fresh.ensures more

pub returns-then-turned-clause-rises : goal.returns-then-turned-clause-rises
returns-then-turned-clause-rises g c =
    let grown = c.advance.new.trail in
    let rises : rank_of grown < rank_of c.go_back.new.trail = search rules in
    let least = rank-extends c.args.trail.now grown c.advance.ensures.extends in
    omega (arith, rises, least)
