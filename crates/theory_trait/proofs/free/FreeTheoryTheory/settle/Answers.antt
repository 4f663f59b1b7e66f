use Rattle.theory_trait.proofs.Contents.{settled}
use Rattle.theory_trait.proofs.free.FreeTheoryTheory.settle.Goals as goal

pub returns : goal.returns
returns c =
    rw (← c.self.view_is) (settled c.self.inside.atoms c.self.inside.content.items c.new.result c.new.ensures c.self.invariant.0.differ)
