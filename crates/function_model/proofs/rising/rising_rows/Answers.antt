use Rattle.std.proofs.Common.{rules}
use Rattle.std.specs.Ordering.{is_lt}
use Rattle.std.proofs.lemmas.Fn.{always_returns_same}
use Rattle.std.proofs.lemmas.List.Sorted.{ranks_by}
use Rattle.function_model.specs.Rising.{rank_of_rows}
use Rattle.function_model.proofs.PlaceRanks.{rows_total}
use Rattle.function_model.proofs.RowLookups.{same_values}
use Rattle.function_model.proofs.RowOrder.{once_rises, once_contains}
use Rattle.function_model.proofs.rising.rising_rows.Goals as goal

pub returns-clause-rising : goal.returns-clause-rising
returns-clause-rising c =
    let sorted = c.sort_unstable_by.ensures.sorted (λ a b. is_lt (rank_of_rows a b)) (ranks_by rows_total (λ row. row)) (always_returns_same _ _ _ (λ a r f k. search rules)) in
    rw (c.from_vec.ensures, c.keep_each_once.ensures) (once_rises _ sorted)

pub returns-clause-given : goal.returns-clause-given
returns-clause-given c =
    rw (c.from_vec.ensures, c.keep_each_once.ensures) (once_contains _ _ c.requires c.sort_unstable_by.ensures.permutation)

pub returns-clause-same : goal.returns-clause-same
returns-clause-same c knots args default =
    rw (c.from_vec.ensures, c.keep_each_once.ensures)
    (same_values knots args default _ _ c.requires (once_contains _ _ c.requires c.sort_unstable_by.ensures.permutation))
