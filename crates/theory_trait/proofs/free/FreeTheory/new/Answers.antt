use Rattle.std.proofs.Common.{[]}
use Rattle.theory_trait.proofs.Contents.{freely_true}
use Rattle.theory_trait.proofs.free.FreeTheory.new.Goals as goal

pub returns-clause-has : goal.returns-clause-has
returns-clause-has c = freely_true c.args.atoms [] tt
