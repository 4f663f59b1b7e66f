use Rattle.theory_trait.proofs.Contents.{freely_true}
use Rattle.clause_search.proofs.SoleTruths.{sole_settled}
use Rattle.clause_search.proofs.tests.at_most_one.AtMostOneTheory.settle.Goals as goal

pub returns : goal.returns
returns c =
    let theory = c.args.self.now in
    let atoms = theory.literals.atoms in
    let content = theory.literals.content in
    sole_settled atoms content c.new.result c.new.ensures theory.one (freely_true atoms content c.content-content.ensures.differ)
