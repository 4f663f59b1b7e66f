-- Worked rows: the definitions compute the texts.
use Rattle.std.proofs.Common.{◌≡◌, ℕ, List, [], ◌∷◌, refl, pos, negsuc, false, rules}
use Rattle.std.specs.Prelude.{codes}
use Rattle.std.specs.Fmt.{digits}
use Rattle.mbqi_terms.specs.declared.formula.Formula as formulas
use Rattle.mbqi_terms.specs.declared.formula.Formula.TheVariants.{All, AtMost, Equal, Forall, Not}
use Rattle.mbqi_terms.specs.declared.script.Script.{Script}
use Rattle.mbqi_terms.specs.declared.sort.Plain.TheVariants as plain
use Rattle.mbqi_terms.specs.declared.sort.Sort.TheVariants as sort
use Rattle.mbqi_terms.specs.declared.term.MapOp.TheVariants as op
use Rattle.mbqi_terms.specs.declared.term.Symbol.TheVariants.{Declared, Far, Seed, Skolem}
use Rattle.mbqi_terms.specs.declared.term.ArrayTerm.TheVariants.{Const, Map, Name, Store}
use Rattle.mbqi_terms.specs.declared.term.Term as terms
use Rattle.mbqi_terms.specs.declared.term.Term.{Term}
use Rattle.mbqi_terms.specs.declared.term.Term.TheVariants.{Apply, Num, Plus, Var}
use Rattle.sexpr_text.specs.Bytes.{is_symbol_byte}
use Rattle.sexpr_text.specs.Text.{is_simple}
use Rattle.smtlib_terms.specs.Words.{is_reserved_word}
use Rattle.smtlib_printer.specs.Names.{is_begun, marks_of, name_text}
use Rattle.smtlib_printer.specs.Text.{array_text, formula_text, term_text}

-- a sort, and a function of the name
abbrev with_name : List ℕ → Script
with_name name = record {
  sorts = codes "S" ∷ [];
  functions = record { name = name; args = []; result = sort.Int } ∷ [];
  assertions = [];
  asks = false;
}

abbrev script : Script
script = with_name (codes "x")

abbrev constant : ℕ → Term
constant k = Apply (Declared k) []

simple_name : name_text (codes "x!1") ≡ codes "x!1"
unfolding is_simple is_symbol_byte is_reserved_word
simple_name = refl

name_with_blank : name_text (codes "two words") ≡ codes "|two words|"
unfolding is_simple is_symbol_byte is_reserved_word
name_with_blank = refl

reserved_name : name_text (codes "and") ≡ codes "|and|"
unfolding is_simple is_symbol_byte is_reserved_word
reserved_name = refl

negative_number : term_text script (Num (negsuc 2)) ≡ codes "(- 3)"
unfolding marks_of is_begun is_simple is_symbol_byte is_reserved_word digits
negative_number = search (rules, terms.the_lemmas)

sum : term_text script (Plus (constant 0) (negsuc 0)) ≡ codes "(+ x (- 1))"
unfolding marks_of is_begun is_simple is_symbol_byte is_reserved_word digits
sum = search (rules, terms.the_lemmas)

function_that_is_not_there : term_text script (constant 1) ≡ codes "||"
unfolding marks_of is_begun is_simple is_symbol_byte is_reserved_word digits
function_that_is_not_there = search (rules, terms.the_lemmas)

skolem_term : term_text script (Apply (Skolem 0 1) (Var 0 ∷ [])) ≡ codes "(@sk 0 1 ?0)"
unfolding marks_of is_begun is_simple is_symbol_byte is_reserved_word digits
skolem_term = search (rules, terms.the_lemmas)

seed : term_text script (Apply (Seed 0) []) ≡ codes "(@seed S)"
unfolding marks_of is_begun is_simple is_symbol_byte is_reserved_word digits
seed = search (rules, terms.the_lemmas)

far : term_text script (Apply Far []) ≡ codes "@far"
unfolding marks_of is_begun is_simple is_symbol_byte is_reserved_word digits
far = search (rules, terms.the_lemmas)

stored : array_text script (Store (Name 0) (Num (pos 3)) (Num (pos 7))) ≡ codes "(store x 3 7)"
unfolding marks_of is_begun is_simple is_symbol_byte is_reserved_word digits
stored = search (rules, terms.the_lemmas)

one_value : array_text script (Const (sort.Array (plain.Elem 0) plain.Int) (Num (pos 7))) ≡ codes "((as const (Array S Int)) 7)"
unfolding marks_of is_begun is_simple is_symbol_byte is_reserved_word digits
one_value = search (rules, terms.the_lemmas)

pointwise_map : array_text script (Map op.And (Name 0 ∷ Name 0 ∷ [])) ≡ codes "((_ map and) x x)"
unfolding marks_of is_begun is_simple is_symbol_byte is_reserved_word digits
pointwise_map = search (rules, terms.the_lemmas)

-- of (distinct 1 2 3)
three_distinct_numbers : formula_text script (All (Not (Equal (Num (pos 1)) (Num (pos 2))) ∷ Not (Equal (Num (pos 1)) (Num (pos 3))) ∷ Not (Equal (Num (pos 2)) (Num (pos 3))) ∷ [])) ≡ codes "(and (not (= 1 2)) (not (= 1 3)) (not (= 2 3)))"
unfolding marks_of is_begun is_simple is_symbol_byte is_reserved_word digits
three_distinct_numbers = search (rules, formulas.the_lemmas, terms.the_lemmas)

-- where a name begins with `?0`
two_question_marks : formula_text (with_name (codes "?0x")) (Forall (record { place = 0; sort = sort.Int } ∷ []) (AtMost (Var 0) (Num (pos 0)))) ≡ codes "(forall ((??0 Int)) (<= ??0 0))"
unfolding marks_of is_begun is_simple is_symbol_byte is_reserved_word digits
two_question_marks = search (rules, formulas.the_lemmas, terms.the_lemmas)
