-- The numbers so far are those of the terms as far as the loop has come.
use Rattle.std.proofs.Common.{take}
use Rattle.std.specs.List.{AllZip}
use Rattle.mbqi_terms.specs.Store.{HasTree}
use Rattle.mbqi_terms.proofs.store.term_store.TermStore.+find.Given as goal

abbrev pub invariant-find_all-loop-t : goal.invariant-find_all-loop-t
invariant-find_all-loop-t l = AllZip (HasTree l.fn.self) l.ids (take l.t-index l.terms)
