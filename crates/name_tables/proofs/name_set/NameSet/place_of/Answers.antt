use Rattle.std.proofs.Common.{◌∙◌, sym}
use Rattle.name_tables.proofs.Texts.{position-map, found_at, found_by_text, only_there, distinct-map}
use Rattle.name_tables.proofs.name_set.NameSet.place_of.Goals as goal

pub returns-clause-value : goal.returns-clause-value
returns-clause-value c = rw (← c.self.view_is) (c.get_index_of.ensures.index ∙ sym (position-map _ _ c.self.inside.names.keys))

pub returns-clause-found : goal.returns-clause-found
returns-clause-found c = found_at c.args.self.now c.args.name.now c.get_index_of.result (returns-clause-value c)

pub returns-clause-only : goal.returns-clause-only
returns-clause-only c =
    let distinct = distinct-map (λ v. v.items) c.self.inside.names.keys c.self.invariant in
    only_there c.args.self.now c.args.name.now c.get_index_of.result (rw (← c.self.view_is) distinct) (returns-clause-value c)

pub returns-clause-there : goal.returns-clause-there
returns-clause-there c = rw (← c.self.view_is) (c.get_index_of.ensures.found ∙ found_by_text _ c.args.name.now c.self.inside.names.keys)
