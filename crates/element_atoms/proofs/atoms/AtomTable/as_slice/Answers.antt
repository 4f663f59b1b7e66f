use Rattle.mbqi_terms.proofs.Places.{places_distinct}
use Rattle.element_atoms.specs.contracts.atoms.GroundAtomPartialEq.TheImpl as atom
use Rattle.element_atoms.proofs.AtomTest.{same_atoms, own_atom}
use Rattle.element_atoms.proofs.atoms.AtomTable.as_slice.Goals as goal

pub returns-clause-distinct : goal.returns-clause-distinct
returns-clause-distinct c = rw (← c.self.view_is) (places_distinct atom.ghosts.eq same_atoms own_atom _ c.as_slice.ensures.unique)
