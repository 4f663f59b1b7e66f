use Rattle.mbqi_terms.proofs.Growth.{sound-first}
use Rattle.mbqi_terms.proofs.store.term_store.TermStore.release.Goals as goal

pub invariant_of-self : goal.invariant_of-self
invariant_of-self c = rw c.truncate.ensures (sound-first c.self.inside.lists c.self.inside.nodes c.self.invariant c.args.mark)
