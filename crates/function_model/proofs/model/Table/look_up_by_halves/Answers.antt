use Rattle.std.proofs.Common.{◌≡◌, length, ap, arith, sym, take_all, ◌∙◌}
use Rattle.function_model.specs.Narrowing.{first_value, rows_for}
use Rattle.function_model.proofs.Narrowing.{found_first, found_none, rows_first}
use Rattle.function_model.proofs.model.Table.look_up_by_halves.Goals as goal

pub returns-then-args-len : goal.returns-then-args-len
returns-then-args-len c = found_none c.args.self.now c.requires c.args.args.now (λ e. omega (arith, e))

pub loop-place-init : goal.loop-place-init
loop-place-init c = c.as_slice-rows.ensures ∙ sym (rows_first c.args.self.now)

pub returns : goal.returns
returns c =
    let table = c.args.self.now in
    let args = c.args.args.now in
    let end : c.loop-place.place ≡ length args = omega (arith, c.loop-place.auto.place-end, c.loop-place-test.false) in
    let long : length args ≡ length table.knots = omega arith in
    let rows = c.loop-place.invariant ∙ ap (rows_for table) (take_all c.loop-place.place args (omega (arith, end))) in
    c.first_value.ensures ∙ (ap (λ some. first_value some table.default) rows ∙ found_first table c.requires args long)
