use Rattle.std.proofs.Common.{◌≡◌, ◌<◌, ◌∙◌, [], ◌∷◌, None, Result, Ok, Err, OnErr, length, reverse, arith}
use Rattle.std.proofs.lemmas.Option.{slice_get_within, get_or_from_slice_get}
use Rattle.std.proofs.lemmas.List.{get_or_read, length-reverse}
use Rattle.name_tables.proofs.Stacks.{grown, grown_view, pushed, reversed_push}
use Rattle.name_tables.proofs.name_stack.NameStack.push.Goals as goal

on_err : {T E P : Type 0} (r : Result T E) → P → OnErr r P
on_err (Ok x) p = tt
on_err (Err e) p = p

pub invariant_of-self : goal.invariant_of-self
invariant_of-self g c =
    let slots = c.slot_of.ensures in
    grown _ _ _ _ _ slots.names slots.room slots.tops c.self.invariant

pub returns-in_err-slot-clause-err : goal.returns-in_err-slot-clause-err
returns-in_err-slot-clause-err g c =
    on_err _ (grown_view _ _ _ c.slot_of.ensures.names c.self.invariant.linked ∙ c.self.view_is)

pub index-shadowed-requires : goal.index-shadowed-requires
index-shadowed-requires g c =
    let within = slice_get_within c.slot_of.new.names c.in_ok-slot.slot c.args.name.now c.in_ok-slot.ensures.slot in
    omega (arith, within, c.slot_of.ensures.room, c.slot_of.new.tops.ok.0)

pub invariant_of-self-in_err-push : goal.invariant_of-self-in_err-push
invariant_of-self-in_err-push g c =
    let slots = c.slot_of.ensures in
    rw c.in_err-push.ensures.items (grown _ _ _ _ _ slots.names slots.room slots.tops c.self.invariant)

pub returns-in_err-push-clause-err : goal.returns-in_err-push-clause-err
returns-in_err-push-clause-err g c =
    rw c.in_err-push.ensures.items (on_err _ (grown_view _ _ _ c.slot_of.ensures.names c.self.invariant.linked ∙ c.self.view_is))

pub index_mut-requires : goal.index_mut-requires
index_mut-requires g c =
    let within = slice_get_within c.slot_of.new.names c.in_ok-slot.slot c.args.name.now c.in_ok-slot.ensures.slot in
    omega (arith, within, c.slot_of.ensures.room, c.slot_of.new.tops.ok.0)

pub invariant_of-self-2 : goal.invariant_of-self-2
invariant_of-self-2 g c =
    let slots = c.slot_of.ensures in
    let es = reverse c.self.inside.entries.items in
    let stack = grown c.self.inside.names c.slot_of.new.names c.self.inside.tops.items c.slot_of.new.tops.items es slots.names slots.room slots.tops c.self.invariant in
    let within = slice_get_within c.slot_of.new.names c.in_ok-slot.slot c.args.name.now c.in_ok-slot.ensures.slot in
    let in_tops : c.in_ok-slot.slot < length c.slot_of.new.tops.items = omega (arith, within, slots.room) in
    let shadowed = get_or_read c.slot_of.new.tops.items c.in_ok-slot.slot c.index-shadowed.result.now in_tops c.index-shadowed.ensures None in
    let place : c.len-place.result ≡ length es = omega (arith, c.len-place.ensures, length-reverse c.self.inside.entries.items, c.self.inside.entries.ok.0) in
    rw (c.in_ok-push.ensures.items, reversed_push, place) (pushed _ c.slot_of.new.tops.items es _ stack within shadowed)

pub returns-clause-ok : goal.returns-clause-ok
returns-clause-ok g c =
    let slots = c.slot_of.ensures in
    let name = get_or_from_slice_get c.slot_of.new.names c.in_ok-slot.slot c.args.name.now [] c.in_ok-slot.ensures.slot in
    rw (c.in_ok-push.ensures.items, reversed_push) (λ i. (name i, c.args.value) ∷ (grown_view _ _ _ slots.names c.self.invariant.linked ∙ c.self.view_is) i)
