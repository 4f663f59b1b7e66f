use Rattle.std.proofs.Common.{◌∙◌}
use Rattle.name_tables.proofs.Texts.{found_by_text}
use Rattle.name_tables.proofs.name_set.NameSet.contains.Goals as goal

pub returns : goal.returns
returns c = rw (← c.self.view_is) (c.contains.ensures ∙ found_by_text _ c.args.name.now c.self.inside.names.keys)
