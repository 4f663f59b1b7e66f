use Rattle.element_atoms.proofs.tests.atoms_are_numbered_as_they_come.Goals as goal

pub clauses_of-requires-clause-clauses : goal.clauses_of-requires-clause-clauses
clauses_of-requires-clause-clauses g c = rw (c.as_slice.ensures) c.in_ok-lines.ensures
