use Rattle.std.proofs.Common.{get_or, length, ap, arith, subst, sym, ◌∙◌}
use Rattle.std.specs.Prelude.{filter}
use Rattle.mbqi_values.specs.Value.{is_same}
use Rattle.function_model.specs.Lookup.{projected}
use Rattle.function_model.specs.Narrowing.{NeverFallAt, passes_at, rows_for}
use Rattle.function_model.proofs.Narrowing.{never_fall, rows_more}
use Rattle.function_model.proofs.model.Table.narrowed.Goals as goal

pub returns : goal.returns
returns c args long so_far =
    let table = c.args.self.now in
    let rows = c.args.rows.now in
    let arg = c.args.arg in
    let knots = c.index-as_slice-place.result in
    let w = c.projected_by_halves.result in
    let never = subst (λ n. NeverFallAt n rows) long (subst (NeverFallAt (length args)) (sym so_far) (never_fall table c.requires.sound args (omega (arith, long, c.requires.place)))) in
    let there = c.index-as_slice-place.is ∙ (ap (λ kss. get_or kss c.args.place knots) c.as_slice.ensures ∙ ap (λ n. get_or table.knots n knots) (sym long)) in
    let knot = c.projected_by_halves.ensures ∙ ap (λ ks. projected ks arg) (c.as_slice-2.ensures ∙ there) in
    let back = sym long in
    c.rows_with.ensures never
    ∙ (ap (λ rs. filter (passes_at c.args.place (λ own. is_same own w)) rs) so_far
    ∙ ((λ i. filter (passes_at (back i) (λ own. is_same own (knot i))) (rows_for table args))
    ∙ rows_more table args arg knots (omega (arith, long, c.requires.place))))
