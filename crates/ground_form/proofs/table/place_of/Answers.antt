use Rattle.std.proofs.Common.{◌≢◌, ◌<◌, length, refl, sym, ◌∙◌, rules, true≢false}
use Rattle.std.proofs.lemmas.Option.{slice_get_read}
use Rattle.ground_form.specs.Chains.{formulas_of}
use Rattle.ground_form.specs.Digests.{digest_of}
use Rattle.ground_form.proofs.Chains.{chain_step, earlier_is, found_at, last_within, never_there, room_shrinks}
use Rattle.ground_form.proofs.table.place_of.Goals as goal
use Rattle.ground_form.proofs.table.place_of.Goals.{In-Some}

-- the place is one of the table's
within : (c : In-Some) → c.in-Some.place < length c.args.entries.now
within c =
    let left = c.loop-next.invariant in
    last_within c.args.entries.now c.args.f.now left.0 c.in-Some.place left.1 (sym left.2 ∙ c.in-Some.is)

pub offset_bounds-entries-place : goal.offset_bounds-entries-place
offset_bounds-entries-place c = let below = within c in search rules

pub bounds-entries-place : goal.bounds-entries-place
bounds-entries-place c = within c

pub returns-then-same_formula-clause-found : goal.returns-then-same_formula-clause-found
returns-then-same_formula-clause-found c =
    let left = c.loop-next.invariant in
    let below = last_within c.args.entries.now c.args.f.now left.0 c.in-Some.place left.1 (sym left.2 ∙ c.in-Some.is) in
    let at = slice_get_read c.args.entries.now (length c.args.entries.now) c.in-Some.place c.index-entries-place.result refl below
    c.index-entries-place.is in
    found_at c.args.entries.now c.args.f.now c.in-Some.place c.index-entries-place.result at (c.same_formula.ensures.0
    c.if-same_formula.true)

pub loop-next-preserved : goal.loop-next-preserved
loop-next-preserved c =
    let left = c.loop-next.invariant in
    let other : c.index-entries-place.result.formula ≢ c.args.f.now = λ same. absurd (true≢false (sym (c.same_formula.ensures.1 same) ∙
    c.if-same_formula.false)) in
    let below = last_within c.args.entries.now c.args.f.now left.0 c.in-Some.place left.1 (sym left.2 ∙ c.in-Some.is) in
    let at = slice_get_read c.args.entries.now (length c.args.entries.now) c.in-Some.place c.index-entries-place.result refl below
    c.index-entries-place.is in
    chain_step c.args.entries.now c.args.f.now c.requires.table.0 left.0 c.in-Some.place c.index-entries-place.result c.requires.table.1
    left.1
    (sym left.2 ∙ c.in-Some.is) left.3 at other

pub loop-next-smaller : goal.loop-next-smaller
loop-next-smaller c =
    let left = c.loop-next.invariant in
    let below = last_within c.args.entries.now c.args.f.now left.0 c.in-Some.place left.1 (sym left.2 ∙ c.in-Some.is) in
    let at = slice_get_read c.args.entries.now (length c.args.entries.now) c.in-Some.place c.index-entries-place.result refl below
    c.index-entries-place.is in
    room_shrinks (formulas_of c.args.entries.now) (digest_of c.args.f.now) c.in-Some.place c.index-entries-place.result.earlier
    c.loop-next.next c.in-Some.is
    (earlier_is c.args.entries.now c.args.f.now c.requires.table.0 left.0 c.in-Some.place c.index-entries-place.result c.requires.table.1
    (sym left.2 ∙ c.in-Some.is) at)

pub returns-clause-absent : goal.returns-clause-absent
returns-clause-absent c =
    let left = c.loop-next.invariant in
    never_there c.args.entries.now c.args.f.now left.0 (sym left.2 ∙ c.in_default.is) left.3
