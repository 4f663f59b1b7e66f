-- The terms and the number so far, with those of the integers that are left, are those of all.
use Rattle.std.proofs.Common.{◌≡◌, ◌++◌, map, length}
use Rattle.std.specs.Prelude.{◌+ℤ◌}
use Rattle.std.specs.List.{fold}
use Rattle.smtlib_terms.specs.Number.{Sum, bases_of, sum_of, total_of}
use Rattle.formula_operators.proofs.sums.totalled.Given as goal

abbrev pub invariant-loop-t : goal.invariant-loop-t
invariant-loop-t l =
    (l.total.bases ++ bases_of (map sum_of l.integers) ≡ bases_of (map sum_of l.fn.integers))
    × (fold (λ n (s : Sum). n +ℤ s.number) l.total.number (map sum_of l.integers) ≡ total_of (map sum_of l.fn.integers))

abbrev pub decreases-loop-t : goal.decreases-loop-t
decreases-loop-t l = length l.integers
