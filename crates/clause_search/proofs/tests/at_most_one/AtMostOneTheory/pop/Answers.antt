use Rattle.std.proofs.Common.{refl}
use Rattle.theory_trait.specs.Frames.{last_frame}
use Rattle.clause_search.proofs.SoleTruths.{at_most_one-take}
use Rattle.clause_search.proofs.tests.at_most_one.AtMostOneTheory.pop.Goals as goal

pub invariant_of-self : goal.invariant_of-self
invariant_of-self c =
    let literals = c.args.self.now.literals in
    record {
      one = rw c.pop.ensures.content (at_most_one-take (last_frame literals.frames) literals.content c.args.self.now.one);
      kept =
          refl;
    }
