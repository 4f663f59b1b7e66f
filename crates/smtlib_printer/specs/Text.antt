use Rattle.std.specs.Prelude.{ℕ, ℤ, pos, negsuc, suc, Bool, true, false, List, [], ◌∷◌, ◌++◌, map, codes, decimal}
use Rattle.std.specs.List.{flat_map}
use Rattle.mbqi_terms.specs.declared.formula.Formula.{Formula}
use Rattle.mbqi_terms.specs.declared.formula.Formula.TheFolds.{fold-Formula}
use Rattle.mbqi_terms.specs.declared.formula.Formula.TheOpen.{Formula-F}
use Rattle.mbqi_terms.specs.declared.script.Script.{Script}
use Rattle.mbqi_terms.specs.declared.sort.Binder.{Binder}
use Rattle.mbqi_terms.specs.declared.sort.Plain.{Plain}
use Rattle.mbqi_terms.specs.declared.sort.Plain.TheVariants as plain
use Rattle.mbqi_terms.specs.declared.sort.Sort.{Sort}
use Rattle.mbqi_terms.specs.declared.sort.Sort.TheVariants as sort
use Rattle.mbqi_terms.specs.declared.term.ArrayTerm.{ArrayTerm}
use Rattle.mbqi_terms.specs.declared.term.ArrayTerm.TheOpen.{ArrayTerm-F, Symbol-F, Term-F}
use Rattle.mbqi_terms.specs.declared.term.ArrayTerm.TheFolds.{fold-ArrayTerm, fold-Symbol, fold-Term}
use Rattle.mbqi_terms.specs.declared.term.MapOp.{MapOp}
use Rattle.mbqi_terms.specs.declared.term.MapOp.TheVariants as op
use Rattle.mbqi_terms.specs.declared.term.Symbol.{Symbol}
use Rattle.mbqi_terms.specs.declared.term.Term.{Term}
use Rattle.smtlib_printer.specs.Names.{sort_name, function_name, marks_of, variable_text}

-- The canonical text of terms and formulas (this project's own choice among those of SMT-LIB 2.6): parts in brackets
-- are separated by one blank, and numbers that name nothing print as the empty name.

-- A number as SMT-LIB 2.6 writes it: -n is `(- n)`.
abbrev pub number_text : ℤ → List ℕ
number_text (pos n) = decimal n
number_text (negsuc n) = codes "(- " ++ (decimal (suc n) ++ codes ")")

abbrev pub truth_text : Bool → List ℕ
truth_text true = codes "true"
truth_text false = codes "false"

-- Further parts, each behind a blank.
abbrev pub spaced_rest : List (List ℕ) → List ℕ
spaced_rest parts = flat_map (λ part. codes " " ++ part) parts

abbrev pub spaced : List (List ℕ) → List ℕ
spaced [] = []
spaced (part ∷ parts) = part ++ spaced_rest parts

abbrev pub list_text : List (List ℕ) → List ℕ
list_text parts = codes "(" ++ (spaced parts ++ codes ")")

-- A word with its arguments, in brackets; a word without arguments stands alone.
abbrev pub applied_text : List ℕ → List (List ℕ) → List ℕ
applied_text word [] = word
applied_text word (arg ∷ args) = list_text (word ∷ arg ∷ args)

abbrev pub is_nothing : {A : Type 0} → List A → Bool
is_nothing [] = true
is_nothing (part ∷ parts) = false

abbrev pub plain_text : Script → Plain → List ℕ
plain_text script plain.Truth = codes "Bool"
plain_text script plain.Int = codes "Int"
plain_text script (plain.Elem s) = sort_name script s

abbrev pub sort_text : Script → Sort → List ℕ
sort_text script sort.Truth = codes "Bool"
sort_text script sort.Int = codes "Int"
sort_text script (sort.Elem s) = sort_name script s
sort_text script (sort.Array index element) =
    list_text (codes "Array" ∷ plain_text script index ∷ plain_text script element ∷ [])

-- The function or connective of a pointwise map (de Moura and Bjørner 2009).
abbrev pub map_text : Script → MapOp → List ℕ
map_text script (op.Declared f) = function_name script f
map_text script op.And = codes "and"
map_text script op.Or = codes "or"
map_text script op.Not = codes "not"

-- A symbol is a word and arguments of its own, which stand before those of the term. Those that no script has are
-- hidden names (this project's own): Skolem symbols, the seeds of sorts, the far index, and the index at which two
-- arrays differ.
pub record SymbolText : Type 0 where
  pub word : List ℕ
  pub own : List (List ℕ)

-- Below, each part of a tree is given by its text.
abbrev pub symbol_layer : Script → Symbol-F (List ℕ) SymbolText (List ℕ) → SymbolText
symbol_layer script (Symbol-F.Declared f) = record { word = function_name script f; own = [] }
symbol_layer script (Symbol-F.Skolem assertion place) = record { word = codes "@sk"; own = decimal assertion ∷ decimal place ∷ [] }
symbol_layer script (Symbol-F.Seed s) = record { word = codes "@seed"; own = sort_name script s ∷ [] }
symbol_layer script Symbol-F.Far = record { word = codes "@far"; own = [] }
symbol_layer script (Symbol-F.Diff a b) = record { word = codes "@diff"; own = a ∷ b ∷ [] }

abbrev pub term_layer : Script → ℕ → Term-F (List ℕ) SymbolText (List ℕ) → List ℕ
term_layer script marks (Term-F.Num n) = number_text n
term_layer script marks (Term-F.Plus t n) = list_text (codes "+" ∷ t ∷ number_text n ∷ [])
term_layer script marks (Term-F.Var place) = variable_text marks place
term_layer script marks (Term-F.Truth truth) = truth_text truth
term_layer script marks (Term-F.Apply symbol args) = applied_text symbol.word (symbol.own ++ args)
term_layer script marks (Term-F.Read a i) = list_text (codes "select" ∷ a ∷ i ∷ [])
term_layer script marks (Term-F.Default a) = list_text (codes "default" ∷ a ∷ [])

abbrev pub array_layer : Script → ArrayTerm-F (List ℕ) SymbolText (List ℕ) → List ℕ
array_layer script (ArrayTerm-F.Name f) = function_name script f
array_layer script (ArrayTerm-F.Store a i v) = list_text (codes "store" ∷ a ∷ i ∷ v ∷ [])
array_layer script (ArrayTerm-F.Const s v) = list_text (list_text (codes "as" ∷ codes "const" ∷ sort_text script s ∷ []) ∷ v ∷ [])
array_layer script (ArrayTerm-F.Map f parts) = list_text (list_text (codes "_" ∷ codes "map" ∷ map_text script f ∷ []) ∷ parts)

-- The texts of trees where variables have so many question marks.
abbrev pub term_text_with : Script → ℕ → Term → List ℕ
term_text_with script marks t = fold-Term (List ℕ) SymbolText (List ℕ) (array_layer script) (symbol_layer script) (term_layer script marks) t

abbrev pub symbol_text_with : Script → ℕ → Symbol → SymbolText
symbol_text_with script marks s = fold-Symbol (List ℕ) SymbolText (List ℕ) (array_layer script) (symbol_layer script) (term_layer script marks) s

abbrev pub array_text_with : Script → ℕ → ArrayTerm → List ℕ
array_text_with script marks a = fold-ArrayTerm (List ℕ) SymbolText (List ℕ) (array_layer script) (symbol_layer script) (term_layer script marks) a

abbrev pub terms_text_with : Script → ℕ → List Term → List ℕ
terms_text_with script marks terms = list_text (map (term_text_with script marks) terms)

-- `(?k S)`
abbrev pub binder_text : Script → ℕ → Binder → List ℕ
binder_text script marks binder = list_text (variable_text marks binder.place ∷ sort_text script binder.sort ∷ [])

abbrev pub binders_text : Script → ℕ → List Binder → List ℕ
binders_text script marks binders = list_text (map (binder_text script marks) binders)

abbrev pub formula_layer : Script → ℕ → Formula-F (List ℕ) → List ℕ
formula_layer script marks (Formula-F.Truth truth) = truth_text truth
formula_layer script marks (Formula-F.Atom t) = term_text_with script marks t
formula_layer script marks (Formula-F.Equal s t) = list_text (codes "=" ∷ term_text_with script marks s ∷ term_text_with script marks t ∷ [])
formula_layer script marks (Formula-F.AtMost s t) = list_text (codes "<=" ∷ term_text_with script marks s ∷ term_text_with script marks t ∷ [])
formula_layer script marks (Formula-F.SameArray a b) = list_text (codes "=" ∷ array_text_with script marks a ∷ array_text_with script marks b ∷ [])
formula_layer script marks (Formula-F.Not f) = list_text (codes "not" ∷ f ∷ [])
formula_layer script marks (Formula-F.All fs) = list_text (codes "and" ∷ fs)
formula_layer script marks (Formula-F.Any fs) = list_text (codes "or" ∷ fs)
formula_layer script marks (Formula-F.Iff f g) = list_text (codes "=" ∷ f ∷ g ∷ [])
formula_layer script marks (Formula-F.Choose c f g) = list_text (codes "ite" ∷ c ∷ f ∷ g ∷ [])
formula_layer script marks (Formula-F.Forall binders f) = list_text (codes "forall" ∷ binders_text script marks binders ∷ f ∷ [])
formula_layer script marks (Formula-F.Exists binders f) = list_text (codes "exists" ∷ binders_text script marks binders ∷ f ∷ [])

abbrev pub formula_text_with : Script → ℕ → Formula → List ℕ
formula_text_with script marks f = fold-Formula (List ℕ) (formula_layer script marks) f

-- The texts of a script's trees.
abbrev pub term_text : Script → Term → List ℕ
term_text script t = term_text_with script (marks_of script) t

abbrev pub array_text : Script → ArrayTerm → List ℕ
array_text script a = array_text_with script (marks_of script) a

abbrev pub formula_text : Script → Formula → List ℕ
formula_text script f = formula_text_with script (marks_of script) f
