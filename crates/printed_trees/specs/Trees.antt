use Rattle.std.specs.Prelude.{ℕ, ℤ, pos, negsuc, suc, Bool, true, false, List, [], ◌∷◌, ◌++◌, map, codes, decimal, Option, None, Some, slice_get, unwrap_or}
use Rattle.mbqi_terms.specs.declared.formula.Formula.{Formula}
use Rattle.mbqi_terms.specs.declared.formula.Formula.TheFolds.{fold-Formula}
use Rattle.mbqi_terms.specs.declared.formula.Formula.TheOpen.{Formula-F}
use Rattle.mbqi_terms.specs.declared.script.Assertion.{Assertion}
use Rattle.mbqi_terms.specs.declared.script.Function.{Function}
use Rattle.mbqi_terms.specs.declared.script.Script.{Script}
use Rattle.mbqi_terms.specs.declared.sort.Binder.{Binder}
use Rattle.mbqi_terms.specs.declared.sort.Plain.{Plain}
use Rattle.mbqi_terms.specs.declared.sort.Plain.TheVariants as plain
use Rattle.mbqi_terms.specs.declared.sort.Sort.{Sort}
use Rattle.mbqi_terms.specs.declared.sort.Sort.TheVariants as sort
use Rattle.mbqi_terms.specs.declared.term.ArrayTerm.{ArrayTerm}
use Rattle.mbqi_terms.specs.declared.term.ArrayTerm.TheFolds.{fold-ArrayTerm, fold-Symbol, fold-Term}
use Rattle.mbqi_terms.specs.declared.term.ArrayTerm.TheOpen.{ArrayTerm-F, Symbol-F, Term-F}
use Rattle.mbqi_terms.specs.declared.term.MapOp.{MapOp}
use Rattle.mbqi_terms.specs.declared.term.MapOp.TheVariants as op
use Rattle.mbqi_terms.specs.declared.term.Symbol.{Symbol}
use Rattle.mbqi_terms.specs.declared.term.Term.{Term}
use Rattle.sexpr_text.specs.declared.tree.Sexpr.{Sexpr}
use Rattle.sexpr_text.specs.declared.tree.Sexpr.TheVariants as tree
use Rattle.smtlib_printer.specs.Names.{marks_of, name_in, variable_text}

-- The S-expressions that the canonical text of a script spells (SMT-LIB 2.6, section 3). A number that names nothing is the
-- empty symbol.

-- A word of the standard, as a symbol.
abbrev pub word_tree : List ℕ → Sexpr
word_tree word = tree.Symbol word

-- The names of declared sorts and functions.
abbrev pub sort_name_tree : Script → ℕ → Sexpr
sort_name_tree script sort = tree.Symbol (unwrap_or (slice_get script.sorts sort) [])

abbrev pub function_name_tree : Script → ℕ → Sexpr
function_name_tree script function = tree.Symbol (name_in (slice_get script.functions function))

-- The variable of a place.
abbrev pub variable_tree : ℕ → ℕ → Sexpr
variable_tree marks place = tree.Symbol (variable_text marks place)

-- A number: -n is `(- n)`.
abbrev pub number_tree : ℤ → Sexpr
number_tree (pos n) = tree.Numeral (decimal n)
number_tree (negsuc n) = tree.List (word_tree (codes "-") ∷ tree.Numeral (decimal (suc n)) ∷ [])

abbrev pub truth_tree : Bool → Sexpr
truth_tree true = word_tree (codes "true")
truth_tree false = word_tree (codes "false")

-- A head with its arguments, in a list; a head without arguments stands alone.
abbrev pub applied_tree : Sexpr → List Sexpr → Sexpr
applied_tree head [] = head
applied_tree head (arg ∷ args) = tree.List (head ∷ arg ∷ args)

abbrev pub plain_tree : Script → Plain → Sexpr
plain_tree script plain.Truth = word_tree (codes "Bool")
plain_tree script plain.Int = word_tree (codes "Int")
plain_tree script (plain.Elem s) = sort_name_tree script s

abbrev pub sort_tree : Script → Sort → Sexpr
sort_tree script sort.Truth = word_tree (codes "Bool")
sort_tree script sort.Int = word_tree (codes "Int")
sort_tree script (sort.Elem s) = sort_name_tree script s
sort_tree script (sort.Array index element) =
    tree.List (word_tree (codes "Array") ∷ plain_tree script index ∷ plain_tree script element ∷ [])

-- The function or connective of a pointwise map.
abbrev pub map_tree : Script → MapOp → Sexpr
map_tree script (op.Declared f) = function_name_tree script f
map_tree script op.And = word_tree (codes "and")
map_tree script op.Or = word_tree (codes "or")
map_tree script op.Not = word_tree (codes "not")

-- A symbol is a word and arguments of its own.
pub record SymbolTree : Type 0 where
  pub word : Sexpr
  pub own : List Sexpr

-- Below, each part of a tree is given by its S-expression.
abbrev pub symbol_layer : Script → Symbol-F Sexpr SymbolTree Sexpr → SymbolTree
symbol_layer script (Symbol-F.Declared f) = record { word = function_name_tree script f; own = [] }
symbol_layer script (Symbol-F.Skolem assertion place) =
    record { word = word_tree (codes "@sk"); own = tree.Numeral (decimal assertion) ∷ tree.Numeral (decimal place) ∷ [] }
symbol_layer script (Symbol-F.Seed s) = record { word = word_tree (codes "@seed"); own = sort_name_tree script s ∷ [] }
symbol_layer script Symbol-F.Far = record { word = word_tree (codes "@far"); own = [] }
symbol_layer script (Symbol-F.Diff a b) = record { word = word_tree (codes "@diff"); own = a ∷ b ∷ [] }

abbrev pub term_layer : Script → ℕ → Term-F Sexpr SymbolTree Sexpr → Sexpr
term_layer script marks (Term-F.Num n) = number_tree n
term_layer script marks (Term-F.Plus t n) = tree.List (word_tree (codes "+") ∷ t ∷ number_tree n ∷ [])
term_layer script marks (Term-F.Var place) = variable_tree marks place
term_layer script marks (Term-F.Truth truth) = truth_tree truth
term_layer script marks (Term-F.Apply symbol args) = applied_tree symbol.word (symbol.own ++ args)
term_layer script marks (Term-F.Read a i) = tree.List (word_tree (codes "select") ∷ a ∷ i ∷ [])
term_layer script marks (Term-F.Default a) = tree.List (word_tree (codes "default") ∷ a ∷ [])

abbrev pub array_layer : Script → ArrayTerm-F Sexpr SymbolTree Sexpr → Sexpr
array_layer script (ArrayTerm-F.Name f) = function_name_tree script f
array_layer script (ArrayTerm-F.Store a i v) = tree.List (word_tree (codes "store") ∷ a ∷ i ∷ v ∷ [])
array_layer script (ArrayTerm-F.Const s v) =
    tree.List (tree.List (word_tree (codes "as") ∷ word_tree (codes "const") ∷ sort_tree script s ∷ []) ∷ v ∷ [])
array_layer script (ArrayTerm-F.Map f parts) =
    tree.List (tree.List (word_tree (codes "_") ∷ word_tree (codes "map") ∷ map_tree script f ∷ []) ∷ parts)

-- The S-expressions of trees where variables have so many question marks.
abbrev pub term_tree : Script → ℕ → Term → Sexpr
term_tree script marks t = fold-Term Sexpr SymbolTree Sexpr (array_layer script) (symbol_layer script) (term_layer script marks) t

abbrev pub symbol_tree : Script → ℕ → Symbol → SymbolTree
symbol_tree script marks s = fold-Symbol Sexpr SymbolTree Sexpr (array_layer script) (symbol_layer script) (term_layer script marks) s

abbrev pub array_tree : Script → ℕ → ArrayTerm → Sexpr
array_tree script marks a = fold-ArrayTerm Sexpr SymbolTree Sexpr (array_layer script) (symbol_layer script) (term_layer script marks) a

-- `(?k S)`
abbrev pub binder_tree : Script → ℕ → Binder → Sexpr
binder_tree script marks b = tree.List (variable_tree marks b.place ∷ sort_tree script b.sort ∷ [])

abbrev pub binders_tree : Script → ℕ → List Binder → Sexpr
binders_tree script marks bs = tree.List (map (binder_tree script marks) bs)

abbrev pub formula_layer : Script → ℕ → Formula-F Sexpr → Sexpr
formula_layer script marks (Formula-F.Truth truth) = truth_tree truth
formula_layer script marks (Formula-F.Atom t) = term_tree script marks t
formula_layer script marks (Formula-F.Equal s t) = tree.List (word_tree (codes "=") ∷ term_tree script marks s ∷ term_tree script marks t ∷ [])
formula_layer script marks (Formula-F.AtMost s t) = tree.List (word_tree (codes "<=") ∷ term_tree script marks s ∷ term_tree script marks t ∷ [])
formula_layer script marks (Formula-F.SameArray a b) = tree.List (word_tree (codes "=") ∷ array_tree script marks a ∷ array_tree script marks b ∷ [])
formula_layer script marks (Formula-F.Not f) = tree.List (word_tree (codes "not") ∷ f ∷ [])
formula_layer script marks (Formula-F.All fs) = tree.List (word_tree (codes "and") ∷ fs)
formula_layer script marks (Formula-F.Any fs) = tree.List (word_tree (codes "or") ∷ fs)
formula_layer script marks (Formula-F.Iff f g) = tree.List (word_tree (codes "=") ∷ f ∷ g ∷ [])
formula_layer script marks (Formula-F.Choose c f g) = tree.List (word_tree (codes "ite") ∷ c ∷ f ∷ g ∷ [])
formula_layer script marks (Formula-F.Forall bs f) = tree.List (word_tree (codes "forall") ∷ binders_tree script marks bs ∷ f ∷ [])
formula_layer script marks (Formula-F.Exists bs f) = tree.List (word_tree (codes "exists") ∷ binders_tree script marks bs ∷ f ∷ [])

abbrev pub formula_tree : Script → ℕ → Formula → Sexpr
formula_tree script marks f = fold-Formula Sexpr (formula_layer script marks) f

-- The commands of a script.
abbrev pub sort_command : List ℕ → Sexpr
sort_command name = tree.List (word_tree (codes "declare-sort") ∷ tree.Symbol name ∷ tree.Numeral (codes "0") ∷ [])

abbrev pub function_command : Script → Function → Sexpr
function_command script f =
    tree.List (word_tree (codes "declare-fun") ∷ tree.Symbol f.name ∷ tree.List (map (sort_tree script) f.args) ∷ sort_tree script f.result ∷ [])

-- A formula, and one with a label: `(! t :named l)`.
abbrev pub labelled_tree : Option (List ℕ) → Sexpr → Sexpr
labelled_tree None t = t
labelled_tree (Some label) t = tree.List (word_tree (codes "!") ∷ t ∷ tree.Keyword (codes "named") ∷ tree.Symbol label ∷ [])

abbrev pub assertion_command : Script → ℕ → Assertion → Sexpr
assertion_command script marks a =
    tree.List (word_tree (codes "assert") ∷ labelled_tree a.label (formula_tree script marks a.formula) ∷ [])

abbrev pub question_commands : Bool → List Sexpr
question_commands true = tree.List (word_tree (codes "check-sat") ∷ []) ∷ []
question_commands false = []

abbrev pub script_trees : Script → List Sexpr
script_trees script =
    map sort_command script.sorts
    ++ (map (function_command script) script.functions
    ++ (map (assertion_command script (marks_of script)) script.assertions
    ++ question_commands script.asks))
