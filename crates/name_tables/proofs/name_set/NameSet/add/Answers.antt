use Rattle.name_tables.proofs.Texts.{added}
use Rattle.name_tables.proofs.name_set.NameSet.add.Goals as goal

pub returns-clause-ok : goal.returns-clause-ok
returns-clause-ok c =
    rw (← c.self.view_is, c.in_ok-insert.ensures.keys) (added (λ v. v.items) c.args.name.now c.self.inside.names.keys _ c.in_ok-from_slice.ensures.items (rw c.self.view_is c.requires))
