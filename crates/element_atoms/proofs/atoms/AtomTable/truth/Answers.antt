use Rattle.std.proofs.Common.{sym, ap, ◌∙◌, is_some}
use Rattle.element_atoms.proofs.AtomTest.{truth_found, truth_missing}
use Rattle.element_atoms.proofs.atoms.AtomTable.truth.Goals as goal

pub returns-in-Some : goal.returns-in-Some
returns-in-Some c =
    rw (← c.self.view_is)
    (truth_found c.args.atom.now c.self.inside.atoms.keys c.args.truths.now c.in-Some.place (rw (c.self.view_is) c.requires) (sym c.get_index_of.ensures.index ∙ c.in-Some.is))

pub returns-in-None : goal.returns-in-None
returns-in-None c =
    rw (← c.self.view_is) (truth_missing c.args.atom.now c.self.inside.atoms.keys c.args.truths.now (sym c.get_index_of.ensures.found ∙ ap is_some c.in-None.is))
