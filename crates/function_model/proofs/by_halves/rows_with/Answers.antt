use Rattle.std.proofs.Common.{◌≡◌, ◌≤◌, true, false, length, take, ap, subst, ◌∙◌}
use Rattle.std.specs.List.Sorted.{IsPartitionPoint}
use Rattle.std.proofs.lemmas.List.{take_rest}
use Rattle.function_model.specs.Narrowing.{NeverFallAt, is_up_to, passes_at}
use Rattle.function_model.proofs.RowSearch.{falls_nowhere_behind, rows_between}
use Rattle.function_model.proofs.by_halves.rows_with.Goals as goal

pub returns : goal.returns
returns c never =
    let rows = c.args.rows.now in
    let place = c.args.place in
    let w = c.args.value in
    let n = c.count_below.result in
    let m = c.count_up_to.result in
    let whole = take_rest rows n in
    let within = subst (λ xs. m ≤ length xs) whole c.count_up_to.ensures.within in
    let second = subst (λ xs. NeverFallAt place xs → IsPartitionPoint (λ row. passes_at place (is_up_to w) row ≡ true) (λ row. passes_at place (is_up_to w) row ≡ false) xs m) whole c.count_up_to.ensures.split in
    ap (take m) whole
    ∙ rows_between place w rows n m (c.count_below.ensures.split never) within (second (falls_nowhere_behind place n rows never))
