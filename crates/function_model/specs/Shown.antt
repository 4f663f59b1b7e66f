-- The part of a full model that is shown (this project's own).
use Rattle.std.specs.Prelude.{Bool, true, false, ◌&&◌, filter}
use Rattle.std.specs.List.{list_all}
use Rattle.mbqi_terms.specs.declared.formula.Formula.{Formula}
use Rattle.mbqi_terms.specs.declared.formula.Formula.TheFolds.{fold-Formula}
use Rattle.mbqi_terms.specs.declared.formula.Formula.TheOpen.{Formula-F}
use Rattle.mbqi_terms.specs.declared.term.ArrayTerm.TheFolds.{fold-Term}
use Rattle.mbqi_terms.specs.declared.term.ArrayTerm.TheOpen.{ArrayTerm-F, Symbol-F, Term-F}
use Rattle.mbqi_terms.specs.declared.term.Term.{Term}
use Rattle.function_model.specs.declared.model.FunctionModel.{FunctionModel}
use Rattle.function_model.specs.declared.model.TableName.{TableName}
use Rattle.function_model.specs.declared.model.TableName.TheVariants.{Declared, Skolem, Seed, Far, Diff, Default, Read, Same}

-- Declared functions and Skolem symbols are shown; the other names are hidden.
abbrev pub is_shown : TableName → Bool
is_shown (Declared f) = true
is_shown (Skolem assertion place) = true
is_shown (Seed s) = false
is_shown Far = false
is_shown (Diff a b) = false
is_shown (Default a) = false
is_shown (Read a) = false
is_shown (Same a b) = false

-- The model with the tables of shown names alone, in their order.
abbrev pub shown_of : FunctionModel → FunctionModel
shown_of model = record { sizes = model.sizes; tables = filter (λ table. is_shown table.name) model.tables }

-- Whether a term has its value from shown tables alone, in a full model too: no seed, no far integer, no index at which arrays differ, no
-- compound array term and no default stands in it.
abbrev pub array_rests : ArrayTerm-F Bool Bool Bool → Bool
array_rests (ArrayTerm-F.Name f) = true
array_rests (ArrayTerm-F.Store a i v) = false
array_rests (ArrayTerm-F.Const sort v) = false
array_rests (ArrayTerm-F.Map f parts) = false

abbrev pub symbol_rests : Symbol-F Bool Bool Bool → Bool
symbol_rests (Symbol-F.Declared f) = true
symbol_rests (Symbol-F.Skolem assertion place) = true
symbol_rests (Symbol-F.Seed sort) = false
symbol_rests Symbol-F.Far = false
symbol_rests (Symbol-F.Diff a b) = false

abbrev pub term_rests : Term-F Bool Bool Bool → Bool
term_rests (Term-F.Num n) = true
term_rests (Term-F.Plus t n) = t
term_rests (Term-F.Var place) = true
term_rests (Term-F.Truth t) = true
term_rests (Term-F.Apply symbol args) = symbol && list_all (λ arg. arg) args
term_rests (Term-F.Read a i) = a && i
term_rests (Term-F.Default a) = false

unfoldable pub rests_on_shown : Term → Bool
rests_on_shown t = fold-Term Bool Bool Bool array_rests symbol_rests term_rests t

-- Whether all terms of a formula do, and no equality of arrays stands in it.
abbrev pub formula_rests : Formula-F Bool → Bool
formula_rests (Formula-F.Truth t) = true
formula_rests (Formula-F.Atom t) = rests_on_shown t
formula_rests (Formula-F.Equal s t) = rests_on_shown s && rests_on_shown t
formula_rests (Formula-F.AtMost s t) = rests_on_shown s && rests_on_shown t
formula_rests (Formula-F.SameArray a b) = false
formula_rests (Formula-F.Not f) = f
formula_rests (Formula-F.All parts) = list_all (λ part. part) parts
formula_rests (Formula-F.Any parts) = list_all (λ part. part) parts
formula_rests (Formula-F.Iff f g) = f && g
formula_rests (Formula-F.Choose c f g) = c && (f && g)
formula_rests (Formula-F.Forall binders f) = f
formula_rests (Formula-F.Exists binders f) = f

unfoldable pub formula_rests_on_shown : Formula → Bool
formula_rests_on_shown f = fold-Formula Bool formula_rests f
