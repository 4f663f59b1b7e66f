-- The canonical texts of terms, array terms and formulas by their kinds, each as a list of its parts' texts.
use Rattle.std.proofs.Common.{◌≡◌, ℕ, ℤ, Bool, List, [], ◌∷◌, map, codes, sym, ap, ◌∙◌}
use Rattle.mbqi_terms.specs.declared.formula.Formula.{Formula}
use Rattle.mbqi_terms.specs.declared.formula.Formula.TheFolds.{fold-roll-Formula}
use Rattle.mbqi_terms.specs.declared.formula.Formula.TheOpen.{Formula-F}
use Rattle.mbqi_terms.specs.declared.formula.Formula.TheVariants as formula
use Rattle.mbqi_terms.specs.declared.script.Script.{Script}
use Rattle.mbqi_terms.specs.declared.sort.Binder.{Binder}
use Rattle.mbqi_terms.specs.declared.sort.Sort.{Sort}
use Rattle.mbqi_terms.specs.declared.term.ArrayTerm.{ArrayTerm}
use Rattle.mbqi_terms.specs.declared.term.ArrayTerm.TheFolds.{fold-roll-ArrayTerm, fold-roll-Symbol, fold-roll-Term}
use Rattle.mbqi_terms.specs.declared.term.ArrayTerm.TheOpen.{ArrayTerm-F, Symbol-F, Term-F}
use Rattle.mbqi_terms.specs.declared.term.ArrayTerm.TheVariants as array
use Rattle.mbqi_terms.specs.declared.term.MapOp.{MapOp}
use Rattle.mbqi_terms.specs.declared.term.Symbol.TheVariants as symbol
use Rattle.mbqi_terms.specs.declared.term.Term.{Term}
use Rattle.mbqi_terms.specs.declared.term.Term.TheVariants as term
use Rattle.smtlib_printer.specs.Names.{function_name, variable_text}
use Rattle.smtlib_printer.specs.Text.{SymbolText, applied_text, array_layer, array_text_with, binders_text, formula_layer, formula_text_with, list_text, map_text, number_text, sort_text, symbol_layer, symbol_text_with, term_layer, term_text_with, truth_text}

pub term-Num : (script : Script) (marks : ℕ) (n : ℤ) → term_text_with script marks (term.Num n) ≡ number_text n
term-Num script marks n =
    ap (term_text_with script marks) (sym (term.rolls-Num n)) ∙ fold-roll-Term (List ℕ) SymbolText (List ℕ) (array_layer script) (symbol_layer script) (term_layer script marks) (Term-F.Num n)

pub term-Plus : (script : Script) (marks : ℕ) (t : Term) (n : ℤ) → term_text_with script marks (term.Plus t n) ≡ list_text (codes "+" ∷ term_text_with script marks t ∷ number_text n ∷ [])
term-Plus script marks t n =
    ap (term_text_with script marks) (sym (term.rolls-Plus t n)) ∙ fold-roll-Term (List ℕ) SymbolText (List ℕ) (array_layer script) (symbol_layer script) (term_layer script marks) (Term-F.Plus t n)

pub term-Var : (script : Script) (marks : ℕ) (place : ℕ) → term_text_with script marks (term.Var place) ≡ variable_text marks place
term-Var script marks place =
    ap (term_text_with script marks) (sym (term.rolls-Var place)) ∙ fold-roll-Term (List ℕ) SymbolText (List ℕ) (array_layer script) (symbol_layer script) (term_layer script marks) (Term-F.Var place)

pub term-Truth : (script : Script) (marks : ℕ) (b : Bool) → term_text_with script marks (term.Truth b) ≡ truth_text b
term-Truth script marks b =
    ap (term_text_with script marks) (sym (term.rolls-Truth b)) ∙ fold-roll-Term (List ℕ) SymbolText (List ℕ) (array_layer script) (symbol_layer script) (term_layer script marks) (Term-F.Truth b)

pub symbol-Declared : (script : Script) (marks : ℕ) (f : ℕ) → symbol_text_with script marks (symbol.Declared f) ≡ record { word = function_name script f; own = [] }
symbol-Declared script marks f =
    ap (symbol_text_with script marks) (sym (symbol.rolls-Declared f)) ∙ fold-roll-Symbol (List ℕ) SymbolText (List ℕ) (array_layer script) (symbol_layer script) (term_layer script marks) (Symbol-F.Declared f)

pub term-Apply : (script : Script) (marks : ℕ) (f : ℕ) (ts : List Term) → term_text_with script marks (term.Apply (symbol.Declared f) ts) ≡ applied_text (function_name script f) (map (term_text_with script marks) ts)
term-Apply script marks f ts =
    ap (term_text_with script marks) (sym (term.rolls-Apply (symbol.Declared f) ts))
    ∙ (fold-roll-Term (List ℕ) SymbolText (List ℕ) (array_layer script) (symbol_layer script) (term_layer script marks) (Term-F.Apply (symbol.Declared f) ts)
    ∙ ap (λ (s : SymbolText). term_layer script marks (Term-F.Apply s (map (term_text_with script marks) ts))) (symbol-Declared script marks f))

pub term-Read : (script : Script) (marks : ℕ) (a : ArrayTerm) (i : Term) → term_text_with script marks (term.Read a i) ≡ list_text (codes "select" ∷ array_text_with script marks a ∷ term_text_with script marks i ∷ [])
term-Read script marks a i =
    ap (term_text_with script marks) (sym (term.rolls-Read a i)) ∙ fold-roll-Term (List ℕ) SymbolText (List ℕ) (array_layer script) (symbol_layer script) (term_layer script marks) (Term-F.Read a i)

pub term-Default : (script : Script) (marks : ℕ) (a : ArrayTerm) → term_text_with script marks (term.Default a) ≡ list_text (codes "default" ∷ array_text_with script marks a ∷ [])
term-Default script marks a =
    ap (term_text_with script marks) (sym (term.rolls-Default a)) ∙ fold-roll-Term (List ℕ) SymbolText (List ℕ) (array_layer script) (symbol_layer script) (term_layer script marks) (Term-F.Default a)

pub array-Name : (script : Script) (marks : ℕ) (f : ℕ) → array_text_with script marks (array.Name f) ≡ function_name script f
array-Name script marks f =
    ap (array_text_with script marks) (sym (array.rolls-Name f)) ∙ fold-roll-ArrayTerm (List ℕ) SymbolText (List ℕ) (array_layer script) (symbol_layer script) (term_layer script marks) (ArrayTerm-F.Name f)

pub array-Store : (script : Script) (marks : ℕ) (a : ArrayTerm) (i v : Term) → array_text_with script marks (array.Store a i v) ≡ list_text (codes "store" ∷ array_text_with script marks a ∷ term_text_with script marks i ∷ term_text_with script marks v ∷ [])
array-Store script marks a i v =
    ap (array_text_with script marks) (sym (array.rolls-Store a i v)) ∙ fold-roll-ArrayTerm (List ℕ) SymbolText (List ℕ) (array_layer script) (symbol_layer script) (term_layer script marks) (ArrayTerm-F.Store a i v)

pub array-Const : (script : Script) (marks : ℕ) (s : Sort) (v : Term) → array_text_with script marks (array.Const s v) ≡ list_text (list_text (codes "as" ∷ codes "const" ∷ sort_text script s ∷ []) ∷ term_text_with script marks v ∷ [])
array-Const script marks s v =
    ap (array_text_with script marks) (sym (array.rolls-Const s v)) ∙ fold-roll-ArrayTerm (List ℕ) SymbolText (List ℕ) (array_layer script) (symbol_layer script) (term_layer script marks) (ArrayTerm-F.Const s v)

pub array-Map : (script : Script) (marks : ℕ) (f : MapOp) (arrays : List ArrayTerm) → array_text_with script marks (array.Map f arrays) ≡ list_text (list_text (codes "_" ∷ codes "map" ∷ map_text script f ∷ []) ∷ map (array_text_with script marks) arrays)
array-Map script marks f arrays =
    ap (array_text_with script marks) (sym (array.rolls-Map f arrays)) ∙ fold-roll-ArrayTerm (List ℕ) SymbolText (List ℕ) (array_layer script) (symbol_layer script) (term_layer script marks) (ArrayTerm-F.Map f arrays)

pub formula-Truth : (script : Script) (marks : ℕ) (b : Bool) → formula_text_with script marks (formula.Truth b) ≡ truth_text b
formula-Truth script marks b =
    ap (formula_text_with script marks) (sym (formula.rolls-Truth b)) ∙ fold-roll-Formula (List ℕ) (formula_layer script marks) (Formula-F.Truth b)

pub formula-Atom : (script : Script) (marks : ℕ) (t : Term) → formula_text_with script marks (formula.Atom t) ≡ term_text_with script marks t
formula-Atom script marks t =
    ap (formula_text_with script marks) (sym (formula.rolls-Atom t)) ∙ fold-roll-Formula (List ℕ) (formula_layer script marks) (Formula-F.Atom t)

pub formula-Equal : (script : Script) (marks : ℕ) (s t : Term) → formula_text_with script marks (formula.Equal s t) ≡ list_text (codes "=" ∷ term_text_with script marks s ∷ term_text_with script marks t ∷ [])
formula-Equal script marks s t =
    ap (formula_text_with script marks) (sym (formula.rolls-Equal s t)) ∙ fold-roll-Formula (List ℕ) (formula_layer script marks) (Formula-F.Equal s t)

pub formula-AtMost : (script : Script) (marks : ℕ) (s t : Term) → formula_text_with script marks (formula.AtMost s t) ≡ list_text (codes "<=" ∷ term_text_with script marks s ∷ term_text_with script marks t ∷ [])
formula-AtMost script marks s t =
    ap (formula_text_with script marks) (sym (formula.rolls-AtMost s t)) ∙ fold-roll-Formula (List ℕ) (formula_layer script marks) (Formula-F.AtMost s t)

pub formula-SameArray : (script : Script) (marks : ℕ) (a b : ArrayTerm) → formula_text_with script marks (formula.SameArray a b) ≡ list_text (codes "=" ∷ array_text_with script marks a ∷ array_text_with script marks b ∷ [])
formula-SameArray script marks a b =
    ap (formula_text_with script marks) (sym (formula.rolls-SameArray a b)) ∙ fold-roll-Formula (List ℕ) (formula_layer script marks) (Formula-F.SameArray a b)

pub formula-Not : (script : Script) (marks : ℕ) (f : Formula) → formula_text_with script marks (formula.Not f) ≡ list_text (codes "not" ∷ formula_text_with script marks f ∷ [])
formula-Not script marks f =
    ap (formula_text_with script marks) (sym (formula.rolls-Not f)) ∙ fold-roll-Formula (List ℕ) (formula_layer script marks) (Formula-F.Not f)

pub formula-All : (script : Script) (marks : ℕ) (fs : List Formula) → formula_text_with script marks (formula.All fs) ≡ list_text (codes "and" ∷ map (formula_text_with script marks) fs)
formula-All script marks fs =
    ap (formula_text_with script marks) (sym (formula.rolls-All fs)) ∙ fold-roll-Formula (List ℕ) (formula_layer script marks) (Formula-F.All fs)

pub formula-Any : (script : Script) (marks : ℕ) (fs : List Formula) → formula_text_with script marks (formula.Any fs) ≡ list_text (codes "or" ∷ map (formula_text_with script marks) fs)
formula-Any script marks fs =
    ap (formula_text_with script marks) (sym (formula.rolls-Any fs)) ∙ fold-roll-Formula (List ℕ) (formula_layer script marks) (Formula-F.Any fs)

pub formula-Iff : (script : Script) (marks : ℕ) (f g : Formula) → formula_text_with script marks (formula.Iff f g) ≡ list_text (codes "=" ∷ formula_text_with script marks f ∷ formula_text_with script marks g ∷ [])
formula-Iff script marks f g =
    ap (formula_text_with script marks) (sym (formula.rolls-Iff f g)) ∙ fold-roll-Formula (List ℕ) (formula_layer script marks) (Formula-F.Iff f g)

pub formula-Choose : (script : Script) (marks : ℕ) (c f g : Formula) → formula_text_with script marks (formula.Choose c f g) ≡ list_text (codes "ite" ∷ formula_text_with script marks c ∷ formula_text_with script marks f ∷ formula_text_with script marks g ∷ [])
formula-Choose script marks c f g =
    ap (formula_text_with script marks) (sym (formula.rolls-Choose c f g)) ∙ fold-roll-Formula (List ℕ) (formula_layer script marks) (Formula-F.Choose c f g)

pub formula-Forall : (script : Script) (marks : ℕ) (bs : List Binder) (f : Formula) → formula_text_with script marks (formula.Forall bs f) ≡ list_text (codes "forall" ∷ binders_text script marks bs ∷ formula_text_with script marks f ∷ [])
formula-Forall script marks bs f =
    ap (formula_text_with script marks) (sym (formula.rolls-Forall bs f)) ∙ fold-roll-Formula (List ℕ) (formula_layer script marks) (Formula-F.Forall bs f)

pub formula-Exists : (script : Script) (marks : ℕ) (bs : List Binder) (f : Formula) → formula_text_with script marks (formula.Exists bs f) ≡ list_text (codes "exists" ∷ binders_text script marks bs ∷ formula_text_with script marks f ∷ [])
formula-Exists script marks bs f =
    ap (formula_text_with script marks) (sym (formula.rolls-Exists bs f)) ∙ fold-roll-Formula (List ℕ) (formula_layer script marks) (Formula-F.Exists bs f)
