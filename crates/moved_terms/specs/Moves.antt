-- The parts of terms with their variables moved, beside the terms and formulas of `smtlib_terms` (this project's own).
use Rattle.std.specs.Prelude.{ℕ}
use Rattle.mbqi_terms.specs.declared.term.ArrayTerm.{ArrayTerm}
use Rattle.mbqi_terms.specs.declared.term.ArrayTerm.TheFolds.{fold-ArrayTerm, fold-Symbol}
use Rattle.mbqi_terms.specs.declared.term.ArrayTerm.TheViews.{roll-ArrayTerm, roll-Symbol}
use Rattle.mbqi_terms.specs.declared.term.Symbol.{Symbol}
use Rattle.mbqi_terms.specs.declared.term.Term.{Term}
use Rattle.smtlib_terms.specs.Meaning.{shift_term}

-- The array term with the variables in it moved.
unfoldable pub shifted_array : ℕ → ℕ → ArrayTerm → ArrayTerm
shifted_array from by a = fold-ArrayTerm ArrayTerm Symbol Term roll-ArrayTerm roll-Symbol (shift_term from by) a

-- The symbol with the variables in its parts moved.
unfoldable pub shifted_symbol : ℕ → ℕ → Symbol → Symbol
shifted_symbol from by s = fold-Symbol ArrayTerm Symbol Term roll-ArrayTerm roll-Symbol (shift_term from by) s
