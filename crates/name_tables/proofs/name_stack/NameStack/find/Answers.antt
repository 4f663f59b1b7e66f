use Rattle.std.proofs.Common.{◌∙◌, reverse, sym, arith}
use Rattle.std.proofs.lemmas.List.{length-reverse}
use Rattle.name_tables.proofs.Stacks.{found_value, no_top, no_name, top_within, top_read}
use Rattle.name_tables.proofs.name_stack.NameStack.find.Goals as goal

pub returns-in_err-slot : goal.returns-in_err-slot
returns-in_err-slot g c =
    rw (c.from_residual.ensures, ← c.self.view_is) (sym (no_name _ c.args.name.now (sym c.in_err-slot.ensures.there) _ c.self.invariant.linked))

pub returns-in_err-top : goal.returns-in_err-top
returns-in_err-top g c =
    let stack = c.self.invariant in
    let found = c.in_ok-slot.ensures.found in
    let top = top_read _ _ (reverse c.self.inside.entries.items) c.in_ok-slot.slot c.args.name.now stack found c.index.result.now c.index.ensures ∙ c.in_err-top.was in
    rw (c.from_residual-in_err-top.ensures, ← c.self.view_is) (sym (no_top _ c.args.name.now c.in_ok-slot.slot found c.in_ok-slot.ensures.only _ stack.linked top))

pub index-requires-2 : goal.index-requires-2
index-requires-2 g c =
    let found = c.in_ok-slot.ensures.found in
    let top = top_read _ _ (reverse c.self.inside.entries.items) c.in_ok-slot.slot c.args.name.now c.self.invariant found c.index.result.now c.index.ensures ∙ c.in_ok-top.was in
    let within = top_within c.in_ok-slot.slot (reverse c.self.inside.entries.items) c.in_ok-top.top top in
    omega (arith, within, length-reverse c.self.inside.entries.items, c.self.inside.entries.ok.0)

pub returns : goal.returns
returns g c =
    let found = c.in_ok-slot.ensures.found in
    let top = top_read _ _ (reverse c.self.inside.entries.items) c.in_ok-slot.slot c.args.name.now c.self.invariant found c.index.result.now c.index.ensures ∙ c.in_ok-top.was in
    rw (← c.self.view_is)
    (found_value _ c.args.name.now c.in_ok-slot.slot found c.in_ok-slot.ensures.only c.self.inside.entries.items c.self.invariant.linked c.in_ok-top.top top c.index-2.result.now c.index-2.ensures)
