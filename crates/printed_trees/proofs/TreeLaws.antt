-- The S-expressions of terms, array terms and formulas, by their kinds.
use Rattle.std.proofs.Common.{◌≡◌, ℕ, ℤ, Bool, List, [], ◌∷◌, map, codes, sym, ap, ◌∙◌}
use Rattle.mbqi_terms.specs.declared.formula.Formula.{Formula}
use Rattle.mbqi_terms.specs.declared.formula.Formula.TheFolds.{fold-roll-Formula}
use Rattle.mbqi_terms.specs.declared.formula.Formula.TheOpen.{Formula-F}
use Rattle.mbqi_terms.specs.declared.formula.Formula.TheVariants as formula
use Rattle.mbqi_terms.specs.declared.script.Script.{Script}
use Rattle.mbqi_terms.specs.declared.sort.Binder.{Binder}
use Rattle.mbqi_terms.specs.declared.sort.Sort.{Sort}
use Rattle.mbqi_terms.specs.declared.term.ArrayTerm.{ArrayTerm}
use Rattle.mbqi_terms.specs.declared.term.ArrayTerm.TheFolds.{fold-roll-ArrayTerm, fold-roll-Symbol, fold-roll-Term}
use Rattle.mbqi_terms.specs.declared.term.ArrayTerm.TheOpen.{ArrayTerm-F, Symbol-F, Term-F}
use Rattle.mbqi_terms.specs.declared.term.ArrayTerm.TheVariants as array
use Rattle.mbqi_terms.specs.declared.term.MapOp.{MapOp}
use Rattle.mbqi_terms.specs.declared.term.Symbol.TheVariants as symbol
use Rattle.mbqi_terms.specs.declared.term.Term.{Term}
use Rattle.mbqi_terms.specs.declared.term.Term.TheVariants as term
use Rattle.sexpr_text.specs.declared.tree.Sexpr.{Sexpr}
use Rattle.sexpr_text.specs.declared.tree.Sexpr.TheVariants as tree
use Rattle.printed_trees.specs.Trees.{SymbolTree, applied_tree, array_layer, array_tree, binders_tree, formula_layer, formula_tree, function_name_tree, map_tree, number_tree, sort_tree, symbol_layer, symbol_tree, term_layer, term_tree, truth_tree, variable_tree, word_tree}

pub term-Num : (script : Script) (marks : ℕ) (n : ℤ) → term_tree script marks (term.Num n) ≡ number_tree n
term-Num script marks n =
    ap (term_tree script marks) (sym (term.rolls-Num n)) ∙ fold-roll-Term Sexpr SymbolTree Sexpr (array_layer script) (symbol_layer script) (term_layer script marks) (Term-F.Num n)

pub term-Plus : (script : Script) (marks : ℕ) (t : Term) (n : ℤ) → term_tree script marks (term.Plus t n) ≡ tree.List (word_tree (codes "+") ∷ term_tree script marks t ∷ number_tree n ∷ [])
term-Plus script marks t n =
    ap (term_tree script marks) (sym (term.rolls-Plus t n)) ∙ fold-roll-Term Sexpr SymbolTree Sexpr (array_layer script) (symbol_layer script) (term_layer script marks) (Term-F.Plus t n)

pub term-Var : (script : Script) (marks : ℕ) (place : ℕ) → term_tree script marks (term.Var place) ≡ variable_tree marks place
term-Var script marks place =
    ap (term_tree script marks) (sym (term.rolls-Var place)) ∙ fold-roll-Term Sexpr SymbolTree Sexpr (array_layer script) (symbol_layer script) (term_layer script marks) (Term-F.Var place)

pub term-Truth : (script : Script) (marks : ℕ) (b : Bool) → term_tree script marks (term.Truth b) ≡ truth_tree b
term-Truth script marks b =
    ap (term_tree script marks) (sym (term.rolls-Truth b)) ∙ fold-roll-Term Sexpr SymbolTree Sexpr (array_layer script) (symbol_layer script) (term_layer script marks) (Term-F.Truth b)

pub symbol-Declared : (script : Script) (marks : ℕ) (f : ℕ) → symbol_tree script marks (symbol.Declared f) ≡ record { word = function_name_tree script f; own = [] }
symbol-Declared script marks f =
    ap (symbol_tree script marks) (sym (symbol.rolls-Declared f)) ∙ fold-roll-Symbol Sexpr SymbolTree Sexpr (array_layer script) (symbol_layer script) (term_layer script marks) (Symbol-F.Declared f)

pub term-Apply : (script : Script) (marks : ℕ) (f : ℕ) (ts : List Term) → term_tree script marks (term.Apply (symbol.Declared f) ts) ≡ applied_tree (function_name_tree script f) (map (term_tree script marks) ts)
term-Apply script marks f ts =
    ap (term_tree script marks) (sym (term.rolls-Apply (symbol.Declared f) ts))
    ∙ (fold-roll-Term Sexpr SymbolTree Sexpr (array_layer script) (symbol_layer script) (term_layer script marks) (Term-F.Apply (symbol.Declared f) ts)
    ∙ ap (λ (s : SymbolTree). term_layer script marks (Term-F.Apply s (map (term_tree script marks) ts))) (symbol-Declared script marks f))

pub term-Read : (script : Script) (marks : ℕ) (a : ArrayTerm) (i : Term) → term_tree script marks (term.Read a i) ≡ tree.List (word_tree (codes "select") ∷ array_tree script marks a ∷ term_tree script marks i ∷ [])
term-Read script marks a i =
    ap (term_tree script marks) (sym (term.rolls-Read a i)) ∙ fold-roll-Term Sexpr SymbolTree Sexpr (array_layer script) (symbol_layer script) (term_layer script marks) (Term-F.Read a i)

pub term-Default : (script : Script) (marks : ℕ) (a : ArrayTerm) → term_tree script marks (term.Default a) ≡ tree.List (word_tree (codes "default") ∷ array_tree script marks a ∷ [])
term-Default script marks a =
    ap (term_tree script marks) (sym (term.rolls-Default a)) ∙ fold-roll-Term Sexpr SymbolTree Sexpr (array_layer script) (symbol_layer script) (term_layer script marks) (Term-F.Default a)

pub array-Name : (script : Script) (marks : ℕ) (f : ℕ) → array_tree script marks (array.Name f) ≡ function_name_tree script f
array-Name script marks f =
    ap (array_tree script marks) (sym (array.rolls-Name f)) ∙ fold-roll-ArrayTerm Sexpr SymbolTree Sexpr (array_layer script) (symbol_layer script) (term_layer script marks) (ArrayTerm-F.Name f)

pub array-Store : (script : Script) (marks : ℕ) (a : ArrayTerm) (i v : Term) → array_tree script marks (array.Store a i v) ≡ tree.List (word_tree (codes "store") ∷ array_tree script marks a ∷ term_tree script marks i ∷ term_tree script marks v ∷ [])
array-Store script marks a i v =
    ap (array_tree script marks) (sym (array.rolls-Store a i v)) ∙ fold-roll-ArrayTerm Sexpr SymbolTree Sexpr (array_layer script) (symbol_layer script) (term_layer script marks) (ArrayTerm-F.Store a i v)

pub array-Const : (script : Script) (marks : ℕ) (s : Sort) (v : Term) → array_tree script marks (array.Const s v) ≡ tree.List (tree.List (word_tree (codes "as") ∷ word_tree (codes "const") ∷ sort_tree script s ∷ []) ∷ term_tree script marks v ∷ [])
array-Const script marks s v =
    ap (array_tree script marks) (sym (array.rolls-Const s v)) ∙ fold-roll-ArrayTerm Sexpr SymbolTree Sexpr (array_layer script) (symbol_layer script) (term_layer script marks) (ArrayTerm-F.Const s v)

pub array-Map : (script : Script) (marks : ℕ) (f : MapOp) (arrays : List ArrayTerm) → array_tree script marks (array.Map f arrays) ≡ tree.List (tree.List (word_tree (codes "_") ∷ word_tree (codes "map") ∷ map_tree script f ∷ []) ∷ map (array_tree script marks) arrays)
array-Map script marks f arrays =
    ap (array_tree script marks) (sym (array.rolls-Map f arrays)) ∙ fold-roll-ArrayTerm Sexpr SymbolTree Sexpr (array_layer script) (symbol_layer script) (term_layer script marks) (ArrayTerm-F.Map f arrays)

pub formula-Truth : (script : Script) (marks : ℕ) (b : Bool) → formula_tree script marks (formula.Truth b) ≡ truth_tree b
formula-Truth script marks b =
    ap (formula_tree script marks) (sym (formula.rolls-Truth b)) ∙ fold-roll-Formula Sexpr (formula_layer script marks) (Formula-F.Truth b)

pub formula-Atom : (script : Script) (marks : ℕ) (t : Term) → formula_tree script marks (formula.Atom t) ≡ term_tree script marks t
formula-Atom script marks t =
    ap (formula_tree script marks) (sym (formula.rolls-Atom t)) ∙ fold-roll-Formula Sexpr (formula_layer script marks) (Formula-F.Atom t)

pub formula-Equal : (script : Script) (marks : ℕ) (s t : Term) → formula_tree script marks (formula.Equal s t) ≡ tree.List (word_tree (codes "=") ∷ term_tree script marks s ∷ term_tree script marks t ∷ [])
formula-Equal script marks s t =
    ap (formula_tree script marks) (sym (formula.rolls-Equal s t)) ∙ fold-roll-Formula Sexpr (formula_layer script marks) (Formula-F.Equal s t)

pub formula-AtMost : (script : Script) (marks : ℕ) (s t : Term) → formula_tree script marks (formula.AtMost s t) ≡ tree.List (word_tree (codes "<=") ∷ term_tree script marks s ∷ term_tree script marks t ∷ [])
formula-AtMost script marks s t =
    ap (formula_tree script marks) (sym (formula.rolls-AtMost s t)) ∙ fold-roll-Formula Sexpr (formula_layer script marks) (Formula-F.AtMost s t)

pub formula-SameArray : (script : Script) (marks : ℕ) (a b : ArrayTerm) → formula_tree script marks (formula.SameArray a b) ≡ tree.List (word_tree (codes "=") ∷ array_tree script marks a ∷ array_tree script marks b ∷ [])
formula-SameArray script marks a b =
    ap (formula_tree script marks) (sym (formula.rolls-SameArray a b)) ∙ fold-roll-Formula Sexpr (formula_layer script marks) (Formula-F.SameArray a b)

pub formula-Not : (script : Script) (marks : ℕ) (f : Formula) → formula_tree script marks (formula.Not f) ≡ tree.List (word_tree (codes "not") ∷ formula_tree script marks f ∷ [])
formula-Not script marks f =
    ap (formula_tree script marks) (sym (formula.rolls-Not f)) ∙ fold-roll-Formula Sexpr (formula_layer script marks) (Formula-F.Not f)

pub formula-All : (script : Script) (marks : ℕ) (fs : List Formula) → formula_tree script marks (formula.All fs) ≡ tree.List (word_tree (codes "and") ∷ map (formula_tree script marks) fs)
formula-All script marks fs =
    ap (formula_tree script marks) (sym (formula.rolls-All fs)) ∙ fold-roll-Formula Sexpr (formula_layer script marks) (Formula-F.All fs)

pub formula-Any : (script : Script) (marks : ℕ) (fs : List Formula) → formula_tree script marks (formula.Any fs) ≡ tree.List (word_tree (codes "or") ∷ map (formula_tree script marks) fs)
formula-Any script marks fs =
    ap (formula_tree script marks) (sym (formula.rolls-Any fs)) ∙ fold-roll-Formula Sexpr (formula_layer script marks) (Formula-F.Any fs)

pub formula-Iff : (script : Script) (marks : ℕ) (f g : Formula) → formula_tree script marks (formula.Iff f g) ≡ tree.List (word_tree (codes "=") ∷ formula_tree script marks f ∷ formula_tree script marks g ∷ [])
formula-Iff script marks f g =
    ap (formula_tree script marks) (sym (formula.rolls-Iff f g)) ∙ fold-roll-Formula Sexpr (formula_layer script marks) (Formula-F.Iff f g)

pub formula-Choose : (script : Script) (marks : ℕ) (c f g : Formula) → formula_tree script marks (formula.Choose c f g) ≡ tree.List (word_tree (codes "ite") ∷ formula_tree script marks c ∷ formula_tree script marks f ∷ formula_tree script marks g ∷ [])
formula-Choose script marks c f g =
    ap (formula_tree script marks) (sym (formula.rolls-Choose c f g)) ∙ fold-roll-Formula Sexpr (formula_layer script marks) (Formula-F.Choose c f g)

pub formula-Forall : (script : Script) (marks : ℕ) (bs : List Binder) (f : Formula) → formula_tree script marks (formula.Forall bs f) ≡ tree.List (word_tree (codes "forall") ∷ binders_tree script marks bs ∷ formula_tree script marks f ∷ [])
formula-Forall script marks bs f =
    ap (formula_tree script marks) (sym (formula.rolls-Forall bs f)) ∙ fold-roll-Formula Sexpr (formula_layer script marks) (Formula-F.Forall bs f)

pub formula-Exists : (script : Script) (marks : ℕ) (bs : List Binder) (f : Formula) → formula_tree script marks (formula.Exists bs f) ≡ tree.List (word_tree (codes "exists") ∷ binders_tree script marks bs ∷ formula_tree script marks f ∷ [])
formula-Exists script marks bs f =
    ap (formula_tree script marks) (sym (formula.rolls-Exists bs f)) ∙ fold-roll-Formula Sexpr (formula_layer script marks) (Formula-F.Exists bs f)
