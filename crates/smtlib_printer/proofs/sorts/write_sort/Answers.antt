-- The last of three pieces before the call that fails is behind what was held.
use Rattle.smtlib_printer.proofs.Fronts.{behind_three}
use Rattle.smtlib_printer.proofs.sorts.write_sort.Goals as goal

pub returns-in_err-write_plain-in-Array-2-clause-err : goal.returns-in_err-write_plain-in-Array-2-clause-err
returns-in_err-write_plain-in-Array-2-clause-err c =
    behind_three c.from_residual-in_err-write_plain-in-Array-2.result _ _ _ _ _ _ _ _
    c.in_ok-extend_from_slice-in-Array.ensures.items c.in_ok-write_plain-in-Array.ensures.ok c.in_ok-extend_from_slice-in-Array-2.ensures.items
    c.in_err-write_plain-in-Array-2.ensures.err
