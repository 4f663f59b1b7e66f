use Rattle.clause_search.proofs.turns.search.Goals as goal

pub returns-clause-all : goal.returns-clause-all
returns-clause-all g c = rw c.as_slice-2.ensures at c.search_from-searched.ensures.all

pub returns-clause-model : goal.returns-clause-model
returns-clause-model g c = rw c.as_slice-2.ensures at c.search_from-searched.ensures.model
