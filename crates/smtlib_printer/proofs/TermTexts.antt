-- The texts of terms and array terms by their kinds, as the pieces that are written one behind the other.
use Rattle.std.proofs.Common.{◌≡◌, ℕ, ℤ, Bool, true, false, ◌&&◌, List, ◌∷◌, ◌++◌, map, codes, sym, ap, ◌∙◌}
use Rattle.mbqi_terms.specs.declared.script.Script.{Script}
use Rattle.mbqi_terms.specs.declared.sort.Sort.{Sort}
use Rattle.mbqi_terms.specs.declared.term.ArrayTerm.{ArrayTerm}
use Rattle.mbqi_terms.specs.declared.term.ArrayTerm.TheFolds.{fold-roll-ArrayTerm, fold-roll-Term}
use Rattle.mbqi_terms.specs.declared.term.ArrayTerm.TheOpen.{ArrayTerm-F, Term-F}
use Rattle.mbqi_terms.specs.declared.term.ArrayTerm.TheVariants as array
use Rattle.mbqi_terms.specs.declared.term.MapOp.{MapOp}
use Rattle.mbqi_terms.specs.declared.term.Symbol.{Symbol}
use Rattle.mbqi_terms.specs.declared.term.Term.{Term}
use Rattle.mbqi_terms.specs.declared.term.Term.TheVariants as term
use Rattle.smtlib_printer.specs.Text.{SymbolText, array_layer, array_text_with, is_nothing, map_text, number_text, sort_text, spaced, spaced_rest, symbol_layer, symbol_text_with, term_layer, term_text_with}
use Rattle.smtlib_printer.proofs.Pieces.{alone, const_parts, in_brackets, map_parts, nothing-map, one_part, three_parts, two_parts}

pub plus_text : (script : Script) (marks : ℕ) (t : Term) (n : ℤ) → term_text_with script marks (term.Plus t n) ≡ codes "(+ " ++ (term_text_with script marks t ++ (codes " " ++ (number_text n ++ codes ")")))
plus_text script marks t n =
    ap (term_text_with script marks) (sym (term.rolls-Plus t n))
    ∙ (fold-roll-Term (List ℕ) SymbolText (List ℕ) (array_layer script) (symbol_layer script) (term_layer script marks) (Term-F.Plus t n)
    ∙ two_parts (codes "+") (term_text_with script marks t) (number_text n))

pub alone_text : (script : Script) (marks : ℕ) (f : Symbol) (ts : List Term) → (is_nothing (symbol_text_with script marks f).own && is_nothing ts) ≡ true → term_text_with script marks (term.Apply f ts) ≡ spaced ((symbol_text_with script marks f).word ∷ (symbol_text_with script marks f).own)
alone_text script marks f ts e =
    let symbol = symbol_text_with script marks f in
    let args = map (term_text_with script marks) ts in
    ap (term_text_with script marks) (sym (term.rolls-Apply f ts))
    ∙ (fold-roll-Term (List ℕ) SymbolText (List ℕ) (array_layer script) (symbol_layer script) (term_layer script marks) (Term-F.Apply f ts)
    ∙ alone symbol.word symbol.own args (ap (λ (b : Bool). is_nothing symbol.own && b) (nothing-map (term_text_with script marks) ts) ∙ e))

pub apply_text : (script : Script) (marks : ℕ) (f : Symbol) (ts : List Term) → (is_nothing (symbol_text_with script marks f).own && is_nothing ts) ≡ false → term_text_with script marks (term.Apply f ts) ≡ codes "(" ++ (spaced ((symbol_text_with script marks f).word ∷ (symbol_text_with script marks f).own) ++ (spaced_rest (map (term_text_with script marks) ts) ++ codes ")"))
apply_text script marks f ts e =
    let symbol = symbol_text_with script marks f in
    let args = map (term_text_with script marks) ts in
    ap (term_text_with script marks) (sym (term.rolls-Apply f ts))
    ∙ (fold-roll-Term (List ℕ) SymbolText (List ℕ) (array_layer script) (symbol_layer script) (term_layer script marks) (Term-F.Apply f ts)
    ∙ in_brackets symbol.word symbol.own args (ap (λ (b : Bool). is_nothing symbol.own && b) (nothing-map (term_text_with script marks) ts) ∙ e))

pub read_text : (script : Script) (marks : ℕ) (a : ArrayTerm) (i : Term) → term_text_with script marks (term.Read a i) ≡ codes "(select " ++ (array_text_with script marks a ++ (codes " " ++ (term_text_with script marks i ++ codes ")")))
read_text script marks a i =
    ap (term_text_with script marks) (sym (term.rolls-Read a i))
    ∙ (fold-roll-Term (List ℕ) SymbolText (List ℕ) (array_layer script) (symbol_layer script) (term_layer script marks) (Term-F.Read a i)
    ∙ two_parts (codes "select") (array_text_with script marks a) (term_text_with script marks i))

pub default_text : (script : Script) (marks : ℕ) (a : ArrayTerm) → term_text_with script marks (term.Default a) ≡ codes "(default " ++ (array_text_with script marks a ++ codes ")")
default_text script marks a =
    ap (term_text_with script marks) (sym (term.rolls-Default a))
    ∙ (fold-roll-Term (List ℕ) SymbolText (List ℕ) (array_layer script) (symbol_layer script) (term_layer script marks) (Term-F.Default a)
    ∙ one_part (codes "default") (array_text_with script marks a))

pub store_text : (script : Script) (marks : ℕ) (a : ArrayTerm) (i v : Term) → array_text_with script marks (array.Store a i v) ≡ codes "(store " ++ (array_text_with script marks a ++ (codes " " ++ (term_text_with script marks i ++ (codes " " ++ (term_text_with script marks v ++ codes ")")))))
store_text script marks a i v =
    ap (array_text_with script marks) (sym (array.rolls-Store a i v))
    ∙ (fold-roll-ArrayTerm (List ℕ) SymbolText (List ℕ) (array_layer script) (symbol_layer script) (term_layer script marks) (ArrayTerm-F.Store a i v)
    ∙ three_parts (codes "store") (array_text_with script marks a) (term_text_with script marks i) (term_text_with script marks v))

pub const_text : (script : Script) (marks : ℕ) (s : Sort) (v : Term) → array_text_with script marks (array.Const s v) ≡ codes "((as const " ++ (sort_text script s ++ (codes ") " ++ (term_text_with script marks v ++ codes ")")))
const_text script marks s v =
    ap (array_text_with script marks) (sym (array.rolls-Const s v))
    ∙ (fold-roll-ArrayTerm (List ℕ) SymbolText (List ℕ) (array_layer script) (symbol_layer script) (term_layer script marks) (ArrayTerm-F.Const s v)
    ∙ const_parts (sort_text script s) (term_text_with script marks v))

pub map_is_text : (script : Script) (marks : ℕ) (f : MapOp) (arrays : List ArrayTerm) → array_text_with script marks (array.Map f arrays) ≡ codes "((_ map " ++ (map_text script f ++ (codes ")" ++ (spaced_rest (map (array_text_with script marks) arrays) ++ codes ")")))
map_is_text script marks f arrays =
    ap (array_text_with script marks) (sym (array.rolls-Map f arrays))
    ∙ (fold-roll-ArrayTerm (List ℕ) SymbolText (List ℕ) (array_layer script) (symbol_layer script) (term_layer script marks) (ArrayTerm-F.Map f arrays)
    ∙ map_parts (map_text script f) (map (array_text_with script marks) arrays))
