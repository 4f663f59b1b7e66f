use Rattle.std.proofs.Common.{sym}
use Rattle.std.proofs.lemmas.List.{take-map}
use Rattle.name_tables.proofs.name_set.NameSet.truncate.Goals as goal

pub returns : goal.returns
returns c = rw (← c.self.view_is, c.truncate.ensures.keys) (sym (take-map (λ v. v.items) c.args.len c.self.inside.names.keys))
