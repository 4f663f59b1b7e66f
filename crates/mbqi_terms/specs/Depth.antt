-- How deep trees are (this project's own): 1 without parts of their kinds, else one more than the deepest part.
use Rattle.std.specs.Prelude.{ℕ, ◌+◌, max, List}
use Rattle.std.specs.List.{fold}
use Rattle.mbqi_terms.specs.declared.formula.Formula.{Formula}
use Rattle.mbqi_terms.specs.declared.formula.Formula.TheFolds.{fold-Formula}
use Rattle.mbqi_terms.specs.declared.formula.Formula.TheOpen.{Formula-F}
use Rattle.mbqi_terms.specs.declared.term.ArrayTerm.{ArrayTerm}
use Rattle.mbqi_terms.specs.declared.term.ArrayTerm.TheFolds.{fold-ArrayTerm, fold-Term}
use Rattle.mbqi_terms.specs.declared.term.ArrayTerm.TheOpen.{ArrayTerm-F, Symbol-F, Term-F}
use Rattle.mbqi_terms.specs.declared.term.Term.{Term}

abbrev pub deepest : List ℕ → ℕ
deepest depths = fold max 0 depths

abbrev pub array_depth : ArrayTerm-F ℕ ℕ ℕ → ℕ
array_depth (ArrayTerm-F.Name f) = 1
array_depth (ArrayTerm-F.Store a i v) = max a (max i v) + 1
array_depth (ArrayTerm-F.Const s v) = v + 1
array_depth (ArrayTerm-F.Map f parts) = deepest parts + 1

abbrev pub symbol_depth : Symbol-F ℕ ℕ ℕ → ℕ
symbol_depth (Symbol-F.Diff a b) = max a b
symbol_depth (Symbol-F.Declared f) = 0
symbol_depth (Symbol-F.Skolem assertion place) = 0
symbol_depth (Symbol-F.Seed s) = 0
symbol_depth Symbol-F.Far = 0

abbrev pub term_depth : Term-F ℕ ℕ ℕ → ℕ
term_depth (Term-F.Num n) = 1
term_depth (Term-F.Plus t n) = t + 1
term_depth (Term-F.Var place) = 1
term_depth (Term-F.Truth b) = 1
term_depth (Term-F.Apply symbol args) = max symbol (deepest args) + 1
term_depth (Term-F.Read a i) = max a i + 1
term_depth (Term-F.Default a) = a + 1

unfoldable pub depth_of_term : Term → ℕ
depth_of_term t = fold-Term ℕ ℕ ℕ array_depth symbol_depth term_depth t

unfoldable pub depth_of_array : ArrayTerm → ℕ
depth_of_array a = fold-ArrayTerm ℕ ℕ ℕ array_depth symbol_depth term_depth a

-- An atom is as deep as its term.
abbrev pub formula_depth : Formula-F ℕ → ℕ
formula_depth (Formula-F.Truth b) = 1
formula_depth (Formula-F.Atom t) = depth_of_term t
formula_depth (Formula-F.Equal s t) = max (depth_of_term s) (depth_of_term t) + 1
formula_depth (Formula-F.AtMost s t) = max (depth_of_term s) (depth_of_term t) + 1
formula_depth (Formula-F.SameArray a b) = max (depth_of_array a) (depth_of_array b) + 1
formula_depth (Formula-F.Not f) = f + 1
formula_depth (Formula-F.All parts) = deepest parts + 1
formula_depth (Formula-F.Any parts) = deepest parts + 1
formula_depth (Formula-F.Iff f g) = max f g + 1
formula_depth (Formula-F.Choose c f g) = max c (max f g) + 1
formula_depth (Formula-F.Forall binders f) = f + 1
formula_depth (Formula-F.Exists binders f) = f + 1

unfoldable pub depth_of_formula : Formula → ℕ
depth_of_formula f = fold-Formula ℕ formula_depth f
