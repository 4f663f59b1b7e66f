use Rattle.clause_search.proofs.SoleTruths.{lent}
use Rattle.clause_search.proofs.tests.at_most_one.AtMostOneTheory.clash.Goals as goal

pub returns-then-self-clause-part : goal.returns-then-self-clause-part
returns-then-self-clause-part c =
    let theory = c.args.self.now in
    lent theory.clashed theory.literals.content theory.pair c.if-self.true theory.kept
