-- Whether a variable, or a hidden name, stands anywhere in a term or an array term: in array terms that are read, and in pairs of arrays,
-- too (this project's own).
use Rattle.std.specs.Prelude.{Bool, true, false, ◌&&◌, ◌||◌, not}
use Rattle.std.specs.List.{list_any}
use Rattle.mbqi_terms.specs.declared.term.ArrayTerm.{ArrayTerm}
use Rattle.mbqi_terms.specs.declared.term.ArrayTerm.TheFolds.{fold-ArrayTerm, fold-Term}
use Rattle.mbqi_terms.specs.declared.term.ArrayTerm.TheOpen.{ArrayTerm-F, Symbol-F, Term-F}
use Rattle.mbqi_terms.specs.declared.term.Term.{Term}

abbrev pub array_varies : ArrayTerm-F Bool Bool Bool → Bool
array_varies (ArrayTerm-F.Name f) = false
array_varies (ArrayTerm-F.Store a i v) = a || (i || v)
array_varies (ArrayTerm-F.Const s v) = v
array_varies (ArrayTerm-F.Map f parts) = list_any (λ v. v) parts

abbrev pub symbol_varies : Symbol-F Bool Bool Bool → Bool
symbol_varies (Symbol-F.Diff a b) = a || b
symbol_varies (Symbol-F.Declared f) = false
symbol_varies (Symbol-F.Skolem assertion place) = false
symbol_varies (Symbol-F.Seed s) = false
symbol_varies Symbol-F.Far = false

abbrev pub term_varies : Term-F Bool Bool Bool → Bool
term_varies (Term-F.Num n) = false
term_varies (Term-F.Plus t n) = t
term_varies (Term-F.Var place) = true
term_varies (Term-F.Truth b) = false
term_varies (Term-F.Apply symbol args) = symbol || list_any (λ v. v) args
term_varies (Term-F.Read a i) = a || i
term_varies (Term-F.Default a) = a

unfoldable pub varies_term : Term → Bool
varies_term t = fold-Term Bool Bool Bool array_varies symbol_varies term_varies t

unfoldable pub varies : ArrayTerm → Bool
varies a = fold-ArrayTerm Bool Bool Bool array_varies symbol_varies term_varies a

-- Hidden names are all symbols but those that a script declares.
abbrev pub array_hides : ArrayTerm-F Bool Bool Bool → Bool
array_hides (ArrayTerm-F.Name f) = false
array_hides (ArrayTerm-F.Store a i v) = a || (i || v)
array_hides (ArrayTerm-F.Const s v) = v
array_hides (ArrayTerm-F.Map f parts) = list_any (λ v. v) parts

abbrev pub symbol_hides : Symbol-F Bool Bool Bool → Bool
symbol_hides (Symbol-F.Declared f) = false
symbol_hides (Symbol-F.Skolem assertion place) = true
symbol_hides (Symbol-F.Seed s) = true
symbol_hides Symbol-F.Far = true
symbol_hides (Symbol-F.Diff a b) = true

abbrev pub term_hides : Term-F Bool Bool Bool → Bool
term_hides (Term-F.Num n) = false
term_hides (Term-F.Plus t n) = t
term_hides (Term-F.Var place) = false
term_hides (Term-F.Truth b) = false
term_hides (Term-F.Apply symbol args) = symbol || list_any (λ v. v) args
term_hides (Term-F.Read a i) = a || i
term_hides (Term-F.Default a) = a

unfoldable pub hides_term : Term → Bool
hides_term t = fold-Term Bool Bool Bool array_hides symbol_hides term_hides t

unfoldable pub hides : ArrayTerm → Bool
hides a = fold-ArrayTerm Bool Bool Bool array_hides symbol_hides term_hides a

-- A plain array term: no variable and no hidden name stands in it. The laws of arrays are for these alone.
abbrev pub is_plain_array : ArrayTerm → Bool
is_plain_array a = not (varies a) && not (hides a)
