use Rattle.std.proofs.Common.{[], ◌∷◌}
use Rattle.mbqi_terms.proofs.store.term_store.TermStore.put_term.Goals as goal

pub returns-in-Ok-clause-known : goal.returns-in-Ok-clause-known
returns-in-Ok-clause-known c id e = c.put_tree.ensures.grows.known (id ∷ []) (e, tt)
