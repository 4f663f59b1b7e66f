-- Trees with terms in the places of their variables (this project's own).
use Rattle.std.specs.Prelude.{ℕ}
use Rattle.mbqi_terms.specs.Tree.{plus_of}
use Rattle.mbqi_terms.specs.declared.formula.Formula.{Formula}
use Rattle.mbqi_terms.specs.declared.formula.Formula.TheFolds.{fold-Formula}
use Rattle.mbqi_terms.specs.declared.formula.Formula.TheOpen.{Formula-F}
use Rattle.mbqi_terms.specs.declared.formula.Formula.TheVariants as formula
use Rattle.mbqi_terms.specs.declared.term.ArrayTerm.{ArrayTerm}
use Rattle.mbqi_terms.specs.declared.term.ArrayTerm.TheFolds.{fold-ArrayTerm, fold-Term}
use Rattle.mbqi_terms.specs.declared.term.ArrayTerm.TheOpen.{Term-F}
use Rattle.mbqi_terms.specs.declared.term.ArrayTerm.TheViews.{roll-ArrayTerm, roll-Symbol, roll-Term}
use Rattle.mbqi_terms.specs.declared.term.Symbol.{Symbol}
use Rattle.mbqi_terms.specs.declared.term.Term.{Term}

-- A number is added to the term that comes in the place of a variable as to any term: numerals and sums take it up.
abbrev pub put_layer : (ℕ → Term) → Term-F ArrayTerm Symbol Term → Term
put_layer at (Term-F.Var place) = at place
put_layer at (Term-F.Plus t n) = plus_of t n
put_layer at (Term-F.Num n) = roll-Term (Term-F.Num n)
put_layer at (Term-F.Truth t) = roll-Term (Term-F.Truth t)
put_layer at (Term-F.Apply symbol args) = roll-Term (Term-F.Apply symbol args)
put_layer at (Term-F.Read a i) = roll-Term (Term-F.Read a i)
put_layer at (Term-F.Default a) = roll-Term (Term-F.Default a)

unfoldable pub put_into : (ℕ → Term) → Term → Term
put_into at t = fold-Term ArrayTerm Symbol Term roll-ArrayTerm roll-Symbol (put_layer at) t

unfoldable pub put_into_array : (ℕ → Term) → ArrayTerm → ArrayTerm
put_into_array at a = fold-ArrayTerm ArrayTerm Symbol Term roll-ArrayTerm roll-Symbol (put_layer at) a

-- A formula without quantifiers with these terms in it.
abbrev pub put_formula_layer : (ℕ → Term) → Formula-F Formula → Formula
put_formula_layer at (Formula-F.Truth t) = formula.Truth t
put_formula_layer at (Formula-F.Atom t) = formula.Atom (put_into at t)
put_formula_layer at (Formula-F.Equal s t) = formula.Equal (put_into at s) (put_into at t)
put_formula_layer at (Formula-F.AtMost s t) = formula.AtMost (put_into at s) (put_into at t)
put_formula_layer at (Formula-F.SameArray a b) = formula.SameArray (put_into_array at a) (put_into_array at b)
put_formula_layer at (Formula-F.Not f) = formula.Not f
put_formula_layer at (Formula-F.All parts) = formula.All parts
put_formula_layer at (Formula-F.Any parts) = formula.Any parts
put_formula_layer at (Formula-F.Iff f g) = formula.Iff f g
put_formula_layer at (Formula-F.Choose c f g) = formula.Choose c f g
put_formula_layer at (Formula-F.Forall binders f) = formula.Forall binders f
put_formula_layer at (Formula-F.Exists binders f) = formula.Exists binders f

unfoldable pub put_into_formula : (ℕ → Term) → Formula → Formula
put_into_formula at f = fold-Formula Formula (put_formula_layer at) f
