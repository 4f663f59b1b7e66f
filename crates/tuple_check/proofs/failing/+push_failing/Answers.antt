use Rattle.std.proofs.Common.{◌≡◌, ◌+◌, ◌-◌, ◌<◌, All, [], ◌∷◌, ◌++◌, length, map, sym, ap, subst, ◌∙◌, arith, length-append}
use Rattle.std.proofs.lemmas.List.Elements.{All-nil, All-cons, All-append}
use Rattle.element_atoms.specs.Profile.{IsArgument, IsClause}
use Rattle.tuple_check.specs.Failing.{choice_of, fails_at}
use Rattle.tuple_check.specs.Tuples.{joined_below, tuples_where}
use Rattle.tuple_check.proofs.TupleLists.{one_more}
use Rattle.tuple_check.proofs.failing.+push_failing.Goals as goal

pub push_where_false-requires-clause-clause : goal.push_where_false-requires-clause-clause
push_where_false-requires-clause-clause t c =
    let none : c.args.more ≡ 0 = omega (arith, c.if-more-eq0.true) in
    let n : length c.args.tuple.now.items + c.args.more ≡ length c.as_slice.result.now = omega (arith, none, ap length c.as_slice.ensures.value) in
    subst (λ k. IsClause c.args.functions.now (IsArgument c.args.functions.now k) c.args.clause.now) n c.requires.clause

pub push_failing-requires : goal.push_failing-requires
push_failing-requires t c =
    let size = length c.args.pool.now.terms in
    let items = c.in_ok-push.ensures.items ∙ ap (λ xs. xs ++ c.loop-number.number ∷ []) c.loop-number.invariant.tuple in
    let long = ap length items ∙ length-append c.args.tuple.now.items (c.loop-number.number ∷ []) in
    let n : length c.args.tuple.now.items + c.args.more ≡ length c.push.new.self.items + (c.args.more - 1) = omega (arith, long, c.if-more-eq0.false) in
    let below : c.loop-number.number < size = omega (arith, c.loop-number-test.true, c.len-number-end.ensures) in
    let within : All (λ i. i < size) (c.args.tuple.now.items ++ c.loop-number.number ∷ []) =
    All-append (λ i. i < size) c.args.tuple.now.items (c.loop-number.number ∷ []) c.requires.within (All-cons (λ i. i < size) c.loop-number.number [] below (All-nil (λ i. i < size))) in (
      omega (arith, c.decreases, c.if-more-eq0.false),
      (
        c.requires.pool,
        (
          subst (λ k. IsClause c.args.functions.now (IsArgument c.args.functions.now k) c.args.clause.now) n c.requires.clause,
          (
            c.requires.truths,
            subst (All (λ i. i < size)) (sym items) within,
          ),
        ),
      ),
    )

pub returns-clause-choices : goal.returns-clause-choices
returns-clause-choices t c =
    let size = length c.args.pool.now.terms in
    let passes = fails_at c.args.pool.now c.args.table.now c.args.truths.now c.args.clause.now in
    let last : c.loop-number.number ≡ size = omega (arith, c.loop-number-test.false, c.len-number-end.ensures, c.loop-number.auto) in
    c.loop-number.invariant.choices
    ∙ ap (λ tuples. c.args.into.now ++ map (choice_of c.args.pool.now.terms c.args.rule) tuples)
    (ap (joined_below (λ i. tuples_where passes size (c.args.more - 1) (c.args.tuple.now.items ++ i ∷ []))) last
    ∙ sym (one_more passes size c.args.more c.args.tuple.now.items (omega (arith, c.if-more-eq0.false))))
