-- The store has grown by the terms as far as the loop has come, and the numbers are theirs.
use Rattle.std.proofs.Common.{take}
use Rattle.std.specs.List.{AllZip}
use Rattle.mbqi_terms.specs.Store.{HasTree, Grows}
use Rattle.mbqi_terms.proofs.store.term_store.TermStore.+put.Given as goal

abbrev pub invariant-put_all-loop-t : goal.invariant-put_all-loop-t
invariant-put_all-loop-t l =
    Grows l.fn.self (take l.t-index l.terms) l.self × AllZip (HasTree l.self) l.ids (take l.t-index l.terms)
