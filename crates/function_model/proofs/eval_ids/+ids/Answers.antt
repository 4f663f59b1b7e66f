use Rattle.std.proofs.Common.{◌≡◌, ◌<◌, ℤ, length, map, take_all, All, arith, ap, subst, sym, ◌∙◌}
use Rattle.std.proofs.lemmas.Int.{ints}
use Rattle.std.proofs.lemmas.List.{length-map}
use mir.Val.{to_z, of_z}
use mir.Syntax.{w128}
use Rattle.mbqi_values.specs.Sum.{IsBelow}
use Rattle.mbqi_values.specs.Value.{plus_number}
use Rattle.mbqi_values.specs.declared.value.Value.TheVariants.{Num}
use Rattle.mbqi_terms.specs.declared.term_id.TermId.{TermId}
use Rattle.function_model.specs.Evaluable.{IsEvaluable}
use Rattle.function_model.specs.Fits.{IsSmall}
use Rattle.function_model.specs.Narrowing.{first_value, rows_for}
use Rattle.function_model.specs.Tabled.{head_gives, stored_tree, stored_value}
use Rattle.function_model.proofs.Narrowing.{found_first, found_none, rows_first}
use Rattle.function_model.proofs.StoreValues.{head_small, node_args, node_head, node_number, node_value, numeral_value}
use Rattle.function_model.proofs.eval_ids.+ids.Goals as goal

pub value_of_args-returns-then-args-len : goal.value_of_args-returns-then-args-len
value_of_args-returns-then-args-len t c =
    let f = stored_value c.args.model.now c.args.store.now in
    found_none c.args.table.now c.requires.table (map f c.args.args.now) (λ e. omega (arith, e, length-map c.args.args.now f))

pub value_of_args-loop-place-init : goal.value_of_args-loop-place-init
value_of_args-loop-place-init t c = c.as_slice-rows.ensures ∙ sym (rows_first c.args.table.now)

pub value_of_args-returns : goal.value_of_args-returns
value_of_args-returns t c =
    let table = c.args.table.now in
    let args = c.args.args.now in
    let f = stored_value c.args.model.now c.args.store.now in
    let end : c.loop-place.place ≡ length args = omega (arith, c.loop-place.auto.place-end, c.loop-place-test.false) in
    let long : length (map f args) ≡ length table.knots = omega (arith, length-map args f) in
    let rows = c.loop-place.invariant ∙ ap (λ ids. rows_for table (map f ids)) (take_all c.loop-place.place args (omega (arith, end))) in
    c.first_value.ensures ∙ (ap (λ some. first_value some table.default) rows ∙ found_first table c.requires.table (map f args) long)

pub value_of_id-value_of_head-base-requires : goal.value_of_id-value_of_head-base-requires
value_of_id-value_of_head-base-requires t c =
    let s = c.args.store.now in
    let node = c.node-node.result.now in
    let tree = c.node-node.ensures.tree in
    let shape = c.node-node.ensures.form.shape in
    let items = sym c.as_slice.ensures in (
      omega (arith, c.decreases),
      (
        c.requires.sound,
        (
          node_head s c.args.id node tree shape c.in_default.not-Zero c.requires.term,
          (
            subst (All (λ (arg : TermId). arg.0 < c.args.id.0)) items c.node-node.ensures.before,
            (
              subst (All (λ (arg : TermId). arg.0 < length s.nodes)) items c.node-node.ensures.form.stored,
              subst (All (λ (arg : TermId). IsEvaluable (stored_tree s arg))) items
                  (node_args s c.args.id node tree shape c.in_default.not-Zero c.requires.term),
            ),
          ),
        ),
      ),
    )

pub value_of_id-plus_number-requires-clause-value : goal.value_of_id-plus_number-requires-clause-value
value_of_id-plus_number-requires-clause-value t c =
    let s = c.args.store.now in
    subst IsSmall (sym c.value_of_head-base.ensures)
    (head_small c.args.model.now s.lists c.requires.sound c.node-node.result.now.head (map (stored_value c.args.model.now s) c.as_slice.result.now))

pub value_of_id-plus_number-requires-clause-number : goal.value_of_id-plus_number-requires-clause-number
value_of_id-plus_number-requires-clause-number t c =
    let n = c.node-node.result.now.plus in
    let back : to_z w128 (of_z w128 n) ≡ n = omega (arith, ints) in
    subst (λ (number : ℤ). IsBelow number 124) (sym back)
    (node_number c.args.store.now c.args.id c.node-node.result.now c.node-node.ensures.tree c.node-node.ensures.form.shape c.in_default.not-Zero c.requires.term)

pub value_of_id-returns-in-Zero : goal.value_of_id-returns-in-Zero
value_of_id-returns-in-Zero t c =
    let n = c.node-node.result.now.plus in
    let back : to_z w128 (of_z w128 n) ≡ n = omega (arith, ints) in
    ap Num back
    ∙ numeral_value c.args.store.now c.args.id c.node-node.result.now c.node-node.ensures.tree c.node-node.ensures.form.shape c.args.model.now c.in-Zero.is

pub value_of_id-returns-in_default : goal.value_of_id-returns-in_default
value_of_id-returns-in_default t c =
    let m = c.args.model.now in
    let s = c.args.store.now in
    let node = c.node-node.result.now in
    let base = c.value_of_head-base.ensures ∙ ap (λ ids. head_gives m s.lists node.head (map (stored_value m s) ids)) c.as_slice.ensures in
    let back : to_z w128 (of_z w128 node.plus) ≡ node.plus = omega (arith, ints) in
    c.plus_number.ensures
    ∙ ((λ i. plus_number (base i) (back i))
    ∙ node_value s c.args.id node c.node-node.ensures.tree c.node-node.ensures.form.shape c.in_default.not-Zero m c.requires.term)
