-- The measures that a formula, a term or an array term is kept with, beside those of `smtlib_terms`.
use Rattle.std.specs.Prelude.{ℕ, Bool, false}
use Rattle.mbqi_terms.specs.declared.formula.Formula.{Formula}
use Rattle.mbqi_terms.specs.declared.formula.Formula.TheVariants as formula
use Rattle.mbqi_terms.specs.declared.term.ArrayTerm.TheFolds.{fold-Symbol}
use Rattle.mbqi_terms.specs.declared.term.Symbol.{Symbol}
use Rattle.mbqi_terms.specs.Depth.{array_depth, symbol_depth, term_depth}
use Rattle.mbqi_terms.specs.Varies.{array_varies, symbol_varies, term_varies, varies_term}

-- How deep the parts of a symbol are: 0 without parts.
unfoldable pub depth_of_symbol : Symbol → ℕ
depth_of_symbol s = fold-Symbol ℕ ℕ ℕ array_depth symbol_depth term_depth s

-- Whether a variable stands in a part of a symbol.
unfoldable pub varies_symbol : Symbol → Bool
varies_symbol s = fold-Symbol Bool Bool Bool array_varies symbol_varies term_varies s

-- Whether a formula is an atom in whose term a variable stands.
unfoldable pub atom_varies : Formula → Bool
atom_varies (formula.Atom t) = varies_term t
atom_varies other = false
