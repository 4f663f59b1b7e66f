use Rattle.mbqi_terms.proofs.Places.{inserted}
use Rattle.element_atoms.specs.contracts.atoms.GroundAtomPartialEq.TheImpl as atom
use Rattle.element_atoms.proofs.AtomTest.{same_atoms, own_atom}
use Rattle.element_atoms.proofs.atoms.AtomTable.number.Goals as goal

pub returns-clause-ok : goal.returns-clause-ok
returns-clause-ok c =
    let put = c.in_ok-place.ensures in
    rw (← c.self.view_is) (inserted atom.ghosts.eq same_atoms own_atom _ _ c.args.atom put.stored.0 _ put.keys put.stored.1 put.stored.2 put.unique)
