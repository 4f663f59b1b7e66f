use Rattle.std.proofs.Common.{◌≡◌, length, map, take_all, arith, ap, subst, sym, ◌∙◌}
use Rattle.std.proofs.lemmas.Int.{ints}
use Rattle.std.proofs.lemmas.List.{length-map}
use Rattle.mbqi_values.specs.Value.{plus_number}
use Rattle.mbqi_values.specs.declared.value.Value.{Value}
use Rattle.mbqi_terms.specs.declared.term.Term.{Term}
use Rattle.mbqi_terms.specs.declared.term.Term.TheVariants as term
use mir.Val.{to_z, of_z}
use mir.Syntax.{w128}
use Rattle.function_model.specs.Fits.{IsSmall}
use Rattle.function_model.specs.Lookup.{looked_up_in}
use Rattle.function_model.specs.Narrowing.{first_value, rows_for}
use Rattle.function_model.specs.Points.{point_of}
use Rattle.function_model.specs.Tabled.{given_or, untabled}
use Rattle.function_model.specs.ValueOf.{Point, array_of, value_of}
use Rattle.function_model.proofs.Narrowing.{found_first, found_none, rows_first}
use Rattle.function_model.proofs.PointValues.{point_small}
use Rattle.function_model.proofs.SmallValues.{base_small}
use Rattle.function_model.proofs.SymbolTables.{value_by_table}
use Rattle.function_model.proofs.TermParts.{no_default}
use Rattle.function_model.proofs.Values.{value_number, value_read, value_sum, value_truth, value_variable}
use Rattle.function_model.proofs.eval.+value.Goals as goal

pub value_at-plus_number-requires-clause-value : goal.value_at-plus_number-requires-clause-value
value_at-plus_number-requires-clause-value t c =
    let bs = c.args.binders.now in
    let vs = c.args.point.now in
    subst IsSmall (sym c.value_at.ensures)
    (base_small c.args.model.now c.requires.sound (point_of bs vs) (point_small bs vs c.requires.point) c.get-base.result.now c.sum_parts.ensures.base c.sum_parts.ensures.term)

pub value_at-unreachable-requires : goal.value_at-unreachable-requires
value_at-unreachable-requires t c = no_default c.args.t.now c.in-Default.field-0 c.in-Default.is c.requires.term

pub value_at-returns-in-Num : goal.value_at-returns-in-Num
value_at-returns-in-Num t c =
    let p : Point = point_of c.args.binders.now c.args.point.now in
    let n = c.in-Num.number in
    let back : to_z w128 (of_z w128 n) ≡ n = omega (arith, ints) in
    let value = value_number c.args.model.now p n in
    let whole = ap (λ u. value_of c.args.model.now u p) c.in-Num.is in
    cc

pub value_at-returns-in-Plus : goal.value_at-returns-in-Plus
value_at-returns-in-Plus t c =
    let m = c.args.model.now in
    let p : Point = point_of c.args.binders.now c.args.point.now in
    let base = c.get-base.result.now in
    let n = c.in-Plus.number in
    let back : to_z w128 (of_z w128 n) ≡ n = omega (arith, ints) in
    let whole : c.args.t.now ≡ term.Plus base n = c.in-Plus.is ∙ ap (λ u. term.Plus u n) (sym c.get-base.ensures) in
    c.plus_number.ensures
    ∙ ((λ i. plus_number (c.value_at.ensures i) (back i)) ∙ (sym (value_sum m p base n) ∙ ap (λ u. value_of m u p) (sym whole)))

pub value_at-returns-in-Var : goal.value_at-returns-in-Var
value_at-returns-in-Var t c =
    let m = c.args.model.now in
    let p : Point = point_of c.args.binders.now c.args.point.now in
    c.value_of_place.ensures ∙ sym (ap (λ u. value_of m u p) c.in-Var.is ∙ value_variable m p c.in-Var.place)

pub value_at-returns-in-Truth : goal.value_at-returns-in-Truth
value_at-returns-in-Truth t c =
    let m = c.args.model.now in
    let p : Point = point_of c.args.binders.now c.args.point.now in
    sym (ap (λ u. value_of m u p) c.in-Truth.is ∙ value_truth m p c.in-Truth.truth)

pub value_at-returns-in-Some : goal.value_at-returns-in-Some
value_at-returns-in-Some t c =
    let m = c.args.model.now in
    let p : Point = point_of c.args.binders.now c.args.point.now in
    let f = c.in-Apply.symbol in
    let args = c.in-Apply.args in
    c.value_of_table.ensures
    ∙ (ap (λ us. looked_up_in c.in-Some.table.now (map (λ u. value_of m u p) us)) c.as_slice-args.ensures
    ∙ (ap (λ o. given_or o (untabled m f) (map (λ u. value_of m u p) args)) c.in-Some.ensures.table
    ∙ (sym (value_by_table m p f args) ∙ ap (λ u. value_of m u p) (sym c.in-Apply.is))))

pub value_at-returns-in-None : goal.value_at-returns-in-None
value_at-returns-in-None t c =
    let m = c.args.model.now in
    let p : Point = point_of c.args.binders.now c.args.point.now in
    let f = c.in-Apply.symbol in
    let args = c.in-Apply.args in
    c.untabled.ensures
    ∙ (ap (λ o. given_or o (untabled m f) (map (λ u. value_of m u p) args)) c.in-None.ensures.table
    ∙ (sym (value_by_table m p f args) ∙ ap (λ u. value_of m u p) (sym c.in-Apply.is)))

pub value_at-returns-in-Read : goal.value_at-returns-in-Read
value_at-returns-in-Read t c =
    let m = c.args.model.now in
    let p : Point = point_of c.args.binders.now c.args.point.now in
    let a = c.get-array.result.now in
    let i = c.get-index.result.now in
    let whole : c.args.t.now ≡ term.Read a i = c.in-Read.is ∙ (λ k. term.Read (sym c.get-array.ensures k) (sym c.get-index.ensures k)) in
    c.read_name.ensures p
    ∙ (ap (λ v. (array_of m a p).read v) c.value_at-in-Read.ensures ∙ (sym (value_read m p a i) ∙ ap (λ u. value_of m u p) (sym whole)))

pub value_of_table-returns-then-args-len : goal.value_of_table-returns-then-args-len
value_of_table-returns-then-args-len t c =
    let f : Term → Value = λ u. value_of c.args.model.now u (point_of c.args.binders.now c.args.point.now) in
    found_none c.args.table.now c.requires.table (map f c.args.args.now) (λ e. omega (arith, e, length-map c.args.args.now f))

pub value_of_table-loop-place-init : goal.value_of_table-loop-place-init
value_of_table-loop-place-init t c = c.as_slice-rows.ensures ∙ sym (rows_first c.args.table.now)

pub value_of_table-returns : goal.value_of_table-returns
value_of_table-returns t c =
    let table = c.args.table.now in
    let args = c.args.args.now in
    let f : Term → Value = λ u. value_of c.args.model.now u (point_of c.args.binders.now c.args.point.now) in
    let end : c.loop-place.place ≡ length args = omega (arith, c.loop-place.auto.place-end, c.loop-place-test.false) in
    let long : length (map f args) ≡ length table.knots = omega (arith, length-map args f) in
    let rows = c.loop-place.invariant ∙ ap (λ us. rows_for table (map f us)) (take_all c.loop-place.place args (omega (arith, end))) in
    c.first_value.ensures ∙ (ap (λ some. first_value some table.default) rows ∙ found_first table c.requires.table (map f args) long)
