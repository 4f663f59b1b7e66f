use Rattle.std.proofs.Common.{length, refl, sym, ap, subst, arith, ◌+◌, take}
use Rattle.std.specs.List.{AllZip}
use Rattle.std.proofs.lemmas.Option.{slice_get_read}
use Rattle.std.proofs.lemmas.List.{length_push}
use Rattle.ground_form.specs.Clauses.{IsLitOf}
use Rattle.ground_form.specs.Definitions.{parts_in}
use Rattle.ground_form.proofs.Growth.{lits_stay, next_zip}
use Rattle.ground_form.proofs.Parts.{grows_at}
use Rattle.ground_form.proofs.clauses.lits_of.Goals as goal

pub returns-in_err-lit_of-clause-grows : goal.returns-in_err-lit_of-clause-grows
returns-in_err-lit_of-clause-grows c =
    let parts = c.args.parts.now in
    let i = c.loop-part.part-index in
    let here = slice_get_read parts (length parts) i c.part-item.result refl c.loop-part-test.true c.part-item.is in
    grows_at parts i c.part-item.result here c.args.table.now c.loop-part.table c.lit_of.new.table c.loop-part.invariant.grows
    c.lit_of.ensures.grows

pub returns-in_err-push-clause-grows : goal.returns-in_err-push-clause-grows
returns-in_err-push-clause-grows c =
    let parts = c.args.parts.now in
    let i = c.loop-part.part-index in
    let here = slice_get_read parts (length parts) i c.part-item.result refl c.loop-part-test.true c.part-item.is in
    grows_at parts i c.part-item.result here c.args.table.now c.loop-part.table c.lit_of.new.table c.loop-part.invariant.grows
    c.lit_of.ensures.grows

pub loop-part-preserved : goal.loop-part-preserved
loop-part-preserved c =
    let parts = c.args.parts.now in
    let i = c.loop-part.part-index in
    let before = c.loop-part.table in
    let after = c.lit_of.new.table in
    let here = slice_get_read parts (length parts) i c.part-item.result refl c.loop-part-test.true c.part-item.is in
    let so_far = lits_stay (parts_in c.part-item.result) before after c.lit_of.ensures.grows c.loop-part.lits (take i parts)
    c.loop-part.invariant.lits in
    let more = length_push c.loop-part.lits c.in_ok-lit_of.field-0 in
    let pushed = ap length c.in_ok-push.ensures.ok in
    record {
      grows = grows_at parts i c.part-item.result here c.args.table.now before after c.loop-part.invariant.grows c.lit_of.ensures.grows;
      lits = subst (λ lits. AllZip (IsLitOf after) lits (take (i + 1) parts)) (sym c.in_ok-push.ensures.ok)
          (next_zip (IsLitOf after) c.loop-part.lits parts i c.in_ok-lit_of.field-0 c.part-item.result here so_far
          c.in_ok-lit_of.ensures.lit);
      count = omega (arith, pushed, more, c.loop-part.invariant.count);
    }
