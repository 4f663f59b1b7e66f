-- Worked rows: the definitions compute the meanings and the first faults of trees.
use Rattle.std.proofs.Common.{◌≡◌, ℕ, List, [], ◌∷◌, Ok, Err, pos, negsuc, true}
use Rattle.std.specs.Prelude.{codes}
use Rattle.mbqi_values.specs.declared.fault.FaultKind.TheVariants as kind
use Rattle.mbqi_terms.specs.declared.formula.Formula.{Formula}
use Rattle.mbqi_terms.specs.declared.formula.Formula as formulas
use Rattle.mbqi_terms.specs.declared.term.Term as terms
use Rattle.mbqi_terms.specs.declared.formula.Formula.TheVariants.{Truth, Atom, Equal, AtMost, SameArray, Not, All, Any, Iff, Choose, Forall, Exists}
use Rattle.mbqi_terms.specs.declared.script.Function.{Function}
use Rattle.mbqi_terms.specs.declared.sort.Binder.{Binder}
use Rattle.mbqi_terms.specs.declared.sort.Plain.TheVariants as plain
use Rattle.mbqi_terms.specs.declared.sort.Sort.{Sort}
use Rattle.mbqi_terms.specs.declared.sort.Sort.TheVariants as sort
use Rattle.mbqi_terms.specs.declared.term.MapOp.TheVariants as op
use Rattle.mbqi_terms.specs.declared.term.Symbol.TheVariants.{Declared}
use Rattle.mbqi_terms.specs.declared.term.ArrayTerm.{ArrayTerm}
use Rattle.mbqi_terms.specs.declared.term.ArrayTerm.TheVariants.{Name, Store, Const, Map}
use Rattle.mbqi_terms.specs.declared.term.Term.{Term}
use Rattle.mbqi_terms.specs.declared.term.Term.TheVariants.{Num, Plus, Var, Apply, Read, Default}
use Rattle.sexpr_text.specs.declared.tree.Sexpr.{Sexpr}
use Rattle.sexpr_text.specs.declared.tree.Sexpr.TheVariants as tree
use Rattle.smtlib_terms.specs.declared.meaning.Meaning.TheVariants as meaning
use Rattle.smtlib_terms.specs.declared.names.Macro.{Macro}
use Rattle.smtlib_terms.specs.declared.names.MacroBody.TheVariants as body
use Rattle.smtlib_terms.specs.Declaring.{Declarations, formula_read, macro_defined, with_definition}
use Rattle.smtlib_terms.specs.Reading.{side, trees_in}
use Rattle.smtlib_terms.specs.Words.{word_of, is_reserved, is_reserved_word}
use Rattle.smtlib_terms.specs.Names.{sort_meant}
use Rattle.smtlib_terms.specs.Meaning.{shifted_formula, shifted_term}
use Rattle.sexpr_text.specs.declared.tree.Sexpr.TheBlock.{hidden-the_row-Sexpr-0}
use Rattle.mbqi_terms.specs.declared.term.ArrayTerm.TheBlock.{hidden-the_row-Term-1}
use denote.Hole.Carrier.{hidden}
use Rattle.std.proofs.Common.{rules}
use Rattle.mbqi_terms.specs.Depth.{depth_of_formula, depth_of_term, depth_of_array}
use Rattle.mbqi_terms.specs.Varies.{varies}
use Rattle.mbqi_terms.specs.Binders.{variables_in}

abbrev l : List Sexpr → Sexpr
l trees = tree.List trees

abbrev function : List ℕ → List Sort → Sort → Function
function text args result = record { name = text; args = args; result = result }

-- a sort S; x, y, z, p, q, arrays a and b of Int, t of Bool and h over S, a constant c of S, and functions
abbrev declared : Declarations
declared = record {
  sorts = codes "S" ∷ [];
  functions =
      function (codes "x") [] sort.Int ∷ function (codes "y") [] sort.Int ∷ function (codes "z") [] sort.Int
      ∷ function (codes "p") [] sort.Truth ∷ function (codes "q") [] sort.Truth
      ∷ function (codes "a") [] (sort.Array plain.Int plain.Int) ∷ function (codes "b") [] (sort.Array plain.Int plain.Int)
      ∷ function (codes "t") [] (sort.Array plain.Int plain.Truth) ∷ function (codes "h") [] (sort.Array (plain.Elem 0) plain.Int)
      ∷ function (codes "c") [] (sort.Elem 0)
      ∷ function (codes "f") (sort.Int ∷ []) sort.Int ∷ function (codes "r") (sort.Elem 0 ∷ sort.Elem 0 ∷ []) sort.Truth ∷ [];
  macros = [];
}

abbrev constant : ℕ → Term
constant k = Apply (Declared k) []

abbrev x : Term
x = constant 0

abbrev y : Term
y = constant 1

abbrev z : Term
z = constant 2

abbrev p : Formula
p = Atom (constant 3)

abbrev q : Formula
q = Atom (constant 4)

abbrev a : ArrayTerm
a = Name 5

abbrev b : ArrayTerm
b = Name 6

abbrev t : ArrayTerm
t = Name 7

abbrev integer : ℕ → Binder
integer place = record { place = place; sort = sort.Int }

abbrev element : ℕ → Binder
element place = record { place = place; sort = sort.Elem 0 }

-- the same names, with macros
abbrev defined : Declarations
defined = record {
  sorts = declared.sorts;
  functions = declared.functions;
  macros = record {
    name = codes "g";
    parameters = record { name = codes "u"; sort = sort.Int } ∷ [];
    body = body.Tree (l ((tree.Symbol (codes "=")) ∷ (l ((tree.Symbol (codes "-")) ∷ (tree.Symbol (codes "y")) ∷ (tree.Symbol (codes "u")) ∷ [])) ∷ (tree.Numeral (codes "3")) ∷ []));
  } ∷
      record {
        name = codes "m";
        parameters = record { name = codes "u"; sort = sort.Int } ∷ [];
        body = body.Tree (l ((tree.Symbol (codes "forall")) ∷ (l ((l ((tree.Symbol (codes "v")) ∷ (tree.Symbol (codes "Int")) ∷ [])) ∷ [])) ∷ (l ((tree.Symbol (codes "=")) ∷ (tree.Symbol (codes "u")) ∷ (tree.Symbol (codes "v")) ∷ [])) ∷ []));
      } ∷
      record {
        name = codes "e";
        parameters = record { name = codes "k"; sort = sort.Truth } ∷ [];
        body = body.Tree (l ((tree.Symbol (codes "=")) ∷ (tree.Symbol (codes "k")) ∷ (tree.Symbol (codes "p")) ∷ []));
      } ∷
      record {
        name = codes "s";
        parameters = record { name = codes "i"; sort = sort.Int } ∷ [];
        body = body.Tree (l ((tree.Symbol (codes "store")) ∷ (tree.Symbol (codes "a")) ∷ (tree.Symbol (codes "i")) ∷ (tree.Numeral (codes "0")) ∷ []));
      } ∷
      record {
        name = codes "two";
        parameters = [];
        body = body.Meaning (meaning.Term sort.Int (Num (pos 2)));
      } ∷
      record {
        name = codes "o";
        parameters = record { name = codes "u"; sort = sort.Int } ∷ [];
        body = body.Tree (l ((tree.Symbol (codes "<=")) ∷ (tree.Symbol (codes "x")) ∷ (l ((tree.Symbol (codes "+")) ∷ (tree.Symbol (codes "u")) ∷ (tree.Numeral (codes "576460752303423488")) ∷ [])) ∷ []));
      } ∷
      record {
        name = codes "k";
        parameters = record { name = codes "x"; sort = sort.Int } ∷ [];
        body = body.Tree (l ((tree.Symbol (codes "g")) ∷ (tree.Symbol (codes "x")) ∷ []));
      } ∷
      record {
        name = codes "w";
        parameters = record { name = codes "u"; sort = sort.Truth } ∷ [];
        body = body.Tree (l ((tree.Symbol (codes "=")) ∷ (tree.Symbol (codes "t")) ∷ (l ((tree.Symbol (codes "store")) ∷ (tree.Symbol (codes "t")) ∷ (tree.Numeral (codes "1")) ∷ (tree.Symbol (codes "u")) ∷ [])) ∷ []));
      } ∷ [];
}

-- p
row0 : formula_read declared (tree.Symbol (codes "p")) ≡ Ok (p)
unfolding formula_read side trees_in word_of sort_meant is_reserved is_reserved_word shifted_formula shifted_term depth_of_formula depth_of_term depth_of_array varies variables_in hidden-the_row-Sexpr-0 hidden-the_row-Term-1 hidden
row0 = search (rules, formulas.the_lemmas, terms.the_lemmas)

-- true
row1 : formula_read declared (tree.Symbol (codes "true")) ≡ Ok (Truth true)
unfolding formula_read side trees_in word_of sort_meant is_reserved is_reserved_word shifted_formula shifted_term depth_of_formula depth_of_term depth_of_array varies variables_in hidden-the_row-Sexpr-0 hidden-the_row-Term-1 hidden
row1 = search (rules, formulas.the_lemmas, terms.the_lemmas)

-- (not p)
row2 : formula_read declared (l ((tree.Symbol (codes "not")) ∷ (tree.Symbol (codes "p")) ∷ [])) ≡ Ok (Not p)
unfolding formula_read side trees_in word_of sort_meant is_reserved is_reserved_word shifted_formula shifted_term depth_of_formula depth_of_term depth_of_array varies variables_in hidden-the_row-Sexpr-0 hidden-the_row-Term-1 hidden
row2 = search (rules, formulas.the_lemmas, terms.the_lemmas)

-- (and p)
row3 : formula_read declared (l ((tree.Symbol (codes "and")) ∷ (tree.Symbol (codes "p")) ∷ [])) ≡ Ok (p)
unfolding formula_read side trees_in word_of sort_meant is_reserved is_reserved_word shifted_formula shifted_term depth_of_formula depth_of_term depth_of_array varies variables_in hidden-the_row-Sexpr-0 hidden-the_row-Term-1 hidden
row3 = search (rules, formulas.the_lemmas, terms.the_lemmas)

-- (and p q true)
row4 : formula_read declared (l ((tree.Symbol (codes "and")) ∷ (tree.Symbol (codes "p")) ∷ (tree.Symbol (codes "q")) ∷ (tree.Symbol (codes "true")) ∷ [])) ≡ Ok (All (p ∷ q ∷ Truth true ∷ []))
unfolding formula_read side trees_in word_of sort_meant is_reserved is_reserved_word shifted_formula shifted_term depth_of_formula depth_of_term depth_of_array varies variables_in hidden-the_row-Sexpr-0 hidden-the_row-Term-1 hidden
row4 = search (rules, formulas.the_lemmas, terms.the_lemmas)

-- (=> p q p)
row5 : formula_read declared (l ((tree.Symbol (codes "=>")) ∷ (tree.Symbol (codes "p")) ∷ (tree.Symbol (codes "q")) ∷ (tree.Symbol (codes "p")) ∷ [])) ≡ Ok (Any (Not p ∷ Any (Not q ∷ p ∷ []) ∷ []))
unfolding formula_read side trees_in word_of sort_meant is_reserved is_reserved_word shifted_formula shifted_term depth_of_formula depth_of_term depth_of_array varies variables_in hidden-the_row-Sexpr-0 hidden-the_row-Term-1 hidden
row5 = search (rules, formulas.the_lemmas, terms.the_lemmas)

-- (xor p q)
row6 : formula_read declared (l ((tree.Symbol (codes "xor")) ∷ (tree.Symbol (codes "p")) ∷ (tree.Symbol (codes "q")) ∷ [])) ≡ Ok (Not (Iff p q))
unfolding formula_read side trees_in word_of sort_meant is_reserved is_reserved_word shifted_formula shifted_term depth_of_formula depth_of_term depth_of_array varies variables_in hidden-the_row-Sexpr-0 hidden-the_row-Term-1 hidden
row6 = search (rules, formulas.the_lemmas, terms.the_lemmas)

-- (xor p q p)
row7 : formula_read declared (l ((tree.Symbol (codes "xor")) ∷ (tree.Symbol (codes "p")) ∷ (tree.Symbol (codes "q")) ∷ (tree.Symbol (codes "p")) ∷ [])) ≡ Ok (Not (Iff (Not (Iff p q)) p))
unfolding formula_read side trees_in word_of sort_meant is_reserved is_reserved_word shifted_formula shifted_term depth_of_formula depth_of_term depth_of_array varies variables_in hidden-the_row-Sexpr-0 hidden-the_row-Term-1 hidden
row7 = search (rules, formulas.the_lemmas, terms.the_lemmas)

-- (= p q true)
row8 : formula_read declared (l ((tree.Symbol (codes "=")) ∷ (tree.Symbol (codes "p")) ∷ (tree.Symbol (codes "q")) ∷ (tree.Symbol (codes "true")) ∷ [])) ≡ Ok (All (Iff p q ∷ Iff q (Truth true) ∷ []))
unfolding formula_read side trees_in word_of sort_meant is_reserved is_reserved_word shifted_formula shifted_term depth_of_formula depth_of_term depth_of_array varies variables_in hidden-the_row-Sexpr-0 hidden-the_row-Term-1 hidden
row8 = search (rules, formulas.the_lemmas, terms.the_lemmas)

-- (= x y z)
row9 : formula_read declared (l ((tree.Symbol (codes "=")) ∷ (tree.Symbol (codes "x")) ∷ (tree.Symbol (codes "y")) ∷ (tree.Symbol (codes "z")) ∷ [])) ≡ Ok (All (Equal x y ∷ Equal y z ∷ []))
unfolding formula_read side trees_in word_of sort_meant is_reserved is_reserved_word shifted_formula shifted_term depth_of_formula depth_of_term depth_of_array varies variables_in hidden-the_row-Sexpr-0 hidden-the_row-Term-1 hidden
row9 = search (rules, formulas.the_lemmas, terms.the_lemmas)

-- (distinct x y z)
row10 : formula_read declared (l ((tree.Symbol (codes "distinct")) ∷ (tree.Symbol (codes "x")) ∷ (tree.Symbol (codes "y")) ∷ (tree.Symbol (codes "z")) ∷ [])) ≡ Ok (All (Not (Equal x y) ∷ Not (Equal x z) ∷ Not (Equal y z) ∷ []))
unfolding formula_read side trees_in word_of sort_meant is_reserved is_reserved_word shifted_formula shifted_term depth_of_formula depth_of_term depth_of_array varies variables_in hidden-the_row-Sexpr-0 hidden-the_row-Term-1 hidden
row10 = search (rules, formulas.the_lemmas, terms.the_lemmas)

-- (< x y)
row11 : formula_read declared (l ((tree.Symbol (codes "<")) ∷ (tree.Symbol (codes "x")) ∷ (tree.Symbol (codes "y")) ∷ [])) ≡ Ok (Not (AtMost y x))
unfolding formula_read side trees_in word_of sort_meant is_reserved is_reserved_word shifted_formula shifted_term depth_of_formula depth_of_term depth_of_array varies variables_in hidden-the_row-Sexpr-0 hidden-the_row-Term-1 hidden
row11 = search (rules, formulas.the_lemmas, terms.the_lemmas)

-- (>= x y z)
row12 : formula_read declared (l ((tree.Symbol (codes ">=")) ∷ (tree.Symbol (codes "x")) ∷ (tree.Symbol (codes "y")) ∷ (tree.Symbol (codes "z")) ∷ [])) ≡ Ok (All (AtMost y x ∷ AtMost z y ∷ []))
unfolding formula_read side trees_in word_of sort_meant is_reserved is_reserved_word shifted_formula shifted_term depth_of_formula depth_of_term depth_of_array varies variables_in hidden-the_row-Sexpr-0 hidden-the_row-Term-1 hidden
row12 = search (rules, formulas.the_lemmas, terms.the_lemmas)

-- (> x y)
row13 : formula_read declared (l ((tree.Symbol (codes ">")) ∷ (tree.Symbol (codes "x")) ∷ (tree.Symbol (codes "y")) ∷ [])) ≡ Ok (Not (AtMost x y))
unfolding formula_read side trees_in word_of sort_meant is_reserved is_reserved_word shifted_formula shifted_term depth_of_formula depth_of_term depth_of_array varies variables_in hidden-the_row-Sexpr-0 hidden-the_row-Term-1 hidden
row13 = search (rules, formulas.the_lemmas, terms.the_lemmas)

-- (= x (+ 1 2 y 3))
row14 : formula_read declared (l ((tree.Symbol (codes "=")) ∷ (tree.Symbol (codes "x")) ∷ (l ((tree.Symbol (codes "+")) ∷ (tree.Numeral (codes "1")) ∷ (tree.Numeral (codes "2")) ∷ (tree.Symbol (codes "y")) ∷ (tree.Numeral (codes "3")) ∷ [])) ∷ [])) ≡ Ok (Equal x (Plus y (pos 6)))
unfolding formula_read side trees_in word_of sort_meant is_reserved is_reserved_word shifted_formula shifted_term depth_of_formula depth_of_term depth_of_array varies variables_in hidden-the_row-Sexpr-0 hidden-the_row-Term-1 hidden
row14 = search (rules, formulas.the_lemmas, terms.the_lemmas)

-- (= x (- y 1 2))
row15 : formula_read declared (l ((tree.Symbol (codes "=")) ∷ (tree.Symbol (codes "x")) ∷ (l ((tree.Symbol (codes "-")) ∷ (tree.Symbol (codes "y")) ∷ (tree.Numeral (codes "1")) ∷ (tree.Numeral (codes "2")) ∷ [])) ∷ [])) ≡ Ok (Equal x (Plus y (negsuc 2)))
unfolding formula_read side trees_in word_of sort_meant is_reserved is_reserved_word shifted_formula shifted_term depth_of_formula depth_of_term depth_of_array varies variables_in hidden-the_row-Sexpr-0 hidden-the_row-Term-1 hidden
row15 = search (rules, formulas.the_lemmas, terms.the_lemmas)

-- (= x (- 1))
row16 : formula_read declared (l ((tree.Symbol (codes "=")) ∷ (tree.Symbol (codes "x")) ∷ (l ((tree.Symbol (codes "-")) ∷ (tree.Numeral (codes "1")) ∷ [])) ∷ [])) ≡ Ok (Equal x (Num (negsuc 0)))
unfolding formula_read side trees_in word_of sort_meant is_reserved is_reserved_word shifted_formula shifted_term depth_of_formula depth_of_term depth_of_array varies variables_in hidden-the_row-Sexpr-0 hidden-the_row-Term-1 hidden
row16 = search (rules, formulas.the_lemmas, terms.the_lemmas)

-- (= (- x y) 3)
row17 : formula_read declared (l ((tree.Symbol (codes "=")) ∷ (l ((tree.Symbol (codes "-")) ∷ (tree.Symbol (codes "x")) ∷ (tree.Symbol (codes "y")) ∷ [])) ∷ (tree.Numeral (codes "3")) ∷ [])) ≡ Ok (Equal x (Plus y (pos 3)))
unfolding formula_read side trees_in word_of sort_meant is_reserved is_reserved_word shifted_formula shifted_term depth_of_formula depth_of_term depth_of_array varies variables_in hidden-the_row-Sexpr-0 hidden-the_row-Term-1 hidden
row17 = search (rules, formulas.the_lemmas, terms.the_lemmas)

-- (<= 3 (- x y))
row18 : formula_read declared (l ((tree.Symbol (codes "<=")) ∷ (tree.Numeral (codes "3")) ∷ (l ((tree.Symbol (codes "-")) ∷ (tree.Symbol (codes "x")) ∷ (tree.Symbol (codes "y")) ∷ [])) ∷ [])) ≡ Ok (AtMost (Plus y (pos 3)) x)
unfolding formula_read side trees_in word_of sort_meant is_reserved is_reserved_word shifted_formula shifted_term depth_of_formula depth_of_term depth_of_array varies variables_in hidden-the_row-Sexpr-0 hidden-the_row-Term-1 hidden
row18 = search (rules, formulas.the_lemmas, terms.the_lemmas)

-- (distinct (- x y) 3)
row19 : formula_read declared (l ((tree.Symbol (codes "distinct")) ∷ (l ((tree.Symbol (codes "-")) ∷ (tree.Symbol (codes "x")) ∷ (tree.Symbol (codes "y")) ∷ [])) ∷ (tree.Numeral (codes "3")) ∷ [])) ≡ Ok (Not (Equal x (Plus y (pos 3))))
unfolding formula_read side trees_in word_of sort_meant is_reserved is_reserved_word shifted_formula shifted_term depth_of_formula depth_of_term depth_of_array varies variables_in hidden-the_row-Sexpr-0 hidden-the_row-Term-1 hidden
row19 = search (rules, formulas.the_lemmas, terms.the_lemmas)

-- (= (+ x 1 (- 1)) y)
row20 : formula_read declared (l ((tree.Symbol (codes "=")) ∷ (l ((tree.Symbol (codes "+")) ∷ (tree.Symbol (codes "x")) ∷ (tree.Numeral (codes "1")) ∷ (l ((tree.Symbol (codes "-")) ∷ (tree.Numeral (codes "1")) ∷ [])) ∷ [])) ∷ (tree.Symbol (codes "y")) ∷ [])) ≡ Ok (Equal x y)
unfolding formula_read side trees_in word_of sort_meant is_reserved is_reserved_word shifted_formula shifted_term depth_of_formula depth_of_term depth_of_array varies variables_in hidden-the_row-Sexpr-0 hidden-the_row-Term-1 hidden
row20 = search (rules, formulas.the_lemmas, terms.the_lemmas)

-- (select t 1)
row21 : formula_read declared (l ((tree.Symbol (codes "select")) ∷ (tree.Symbol (codes "t")) ∷ (tree.Numeral (codes "1")) ∷ [])) ≡ Ok (Atom (Read t (Num (pos 1))))
unfolding formula_read side trees_in word_of sort_meant is_reserved is_reserved_word shifted_formula shifted_term depth_of_formula depth_of_term depth_of_array varies variables_in hidden-the_row-Sexpr-0 hidden-the_row-Term-1 hidden
row21 = search (rules, formulas.the_lemmas, terms.the_lemmas)

-- (= b (store a x y))
row22 : formula_read declared (l ((tree.Symbol (codes "=")) ∷ (tree.Symbol (codes "b")) ∷ (l ((tree.Symbol (codes "store")) ∷ (tree.Symbol (codes "a")) ∷ (tree.Symbol (codes "x")) ∷ (tree.Symbol (codes "y")) ∷ [])) ∷ [])) ≡ Ok (SameArray b (Store a x y))
unfolding formula_read side trees_in word_of sort_meant is_reserved is_reserved_word shifted_formula shifted_term depth_of_formula depth_of_term depth_of_array varies variables_in hidden-the_row-Sexpr-0 hidden-the_row-Term-1 hidden
row22 = search (rules, formulas.the_lemmas, terms.the_lemmas)

-- (= b ((as const (Array Int Int)) 3))
row23 : formula_read declared (l ((tree.Symbol (codes "=")) ∷ (tree.Symbol (codes "b")) ∷ (l ((l ((tree.Symbol (codes "as")) ∷ (tree.Symbol (codes "const")) ∷ (l ((tree.Symbol (codes "Array")) ∷ (tree.Symbol (codes "Int")) ∷ (tree.Symbol (codes "Int")) ∷ [])) ∷ [])) ∷ (tree.Numeral (codes "3")) ∷ [])) ∷ [])) ≡ Ok (SameArray b (Const (sort.Array plain.Int plain.Int) (Num (pos 3))))
unfolding formula_read side trees_in word_of sort_meant is_reserved is_reserved_word shifted_formula shifted_term depth_of_formula depth_of_term depth_of_array varies variables_in hidden-the_row-Sexpr-0 hidden-the_row-Term-1 hidden
row23 = search (rules, formulas.the_lemmas, terms.the_lemmas)

-- (= a ((_ map f) a))
row24 : formula_read declared (l ((tree.Symbol (codes "=")) ∷ (tree.Symbol (codes "a")) ∷ (l ((l ((tree.Symbol (codes "_")) ∷ (tree.Symbol (codes "map")) ∷ (tree.Symbol (codes "f")) ∷ [])) ∷ (tree.Symbol (codes "a")) ∷ [])) ∷ [])) ≡ Ok (SameArray a (Map (op.Declared 10) (a ∷ [])))
unfolding formula_read side trees_in word_of sort_meant is_reserved is_reserved_word shifted_formula shifted_term depth_of_formula depth_of_term depth_of_array varies variables_in hidden-the_row-Sexpr-0 hidden-the_row-Term-1 hidden
row24 = search (rules, formulas.the_lemmas, terms.the_lemmas)

-- (= t ((_ map and) t t))
row25 : formula_read declared (l ((tree.Symbol (codes "=")) ∷ (tree.Symbol (codes "t")) ∷ (l ((l ((tree.Symbol (codes "_")) ∷ (tree.Symbol (codes "map")) ∷ (tree.Symbol (codes "and")) ∷ [])) ∷ (tree.Symbol (codes "t")) ∷ (tree.Symbol (codes "t")) ∷ [])) ∷ [])) ≡ Ok (SameArray t (Map op.And (t ∷ t ∷ [])))
unfolding formula_read side trees_in word_of sort_meant is_reserved is_reserved_word shifted_formula shifted_term depth_of_formula depth_of_term depth_of_array varies variables_in hidden-the_row-Sexpr-0 hidden-the_row-Term-1 hidden
row25 = search (rules, formulas.the_lemmas, terms.the_lemmas)

-- (= (default a) 1)
row26 : formula_read declared (l ((tree.Symbol (codes "=")) ∷ (l ((tree.Symbol (codes "default")) ∷ (tree.Symbol (codes "a")) ∷ [])) ∷ (tree.Numeral (codes "1")) ∷ [])) ≡ Ok (Equal (Default a) (Num (pos 1)))
unfolding formula_read side trees_in word_of sort_meant is_reserved is_reserved_word shifted_formula shifted_term depth_of_formula depth_of_term depth_of_array varies variables_in hidden-the_row-Sexpr-0 hidden-the_row-Term-1 hidden
row26 = search (rules, formulas.the_lemmas, terms.the_lemmas)

-- (forall ((u Int)) (exists ((v S)) (r v c)))
row27 : formula_read declared (l ((tree.Symbol (codes "forall")) ∷ (l ((l ((tree.Symbol (codes "u")) ∷ (tree.Symbol (codes "Int")) ∷ [])) ∷ [])) ∷ (l ((tree.Symbol (codes "exists")) ∷ (l ((l ((tree.Symbol (codes "v")) ∷ (tree.Symbol (codes "S")) ∷ [])) ∷ [])) ∷ (l ((tree.Symbol (codes "r")) ∷ (tree.Symbol (codes "v")) ∷ (tree.Symbol (codes "c")) ∷ [])) ∷ [])) ∷ [])) ≡ Ok (Forall (integer 0 ∷ []) (Exists (element 1 ∷ []) (Atom (Apply (Declared 11) (Var 1 ∷ constant 9 ∷ [])))))
unfolding formula_read side trees_in word_of sort_meant is_reserved is_reserved_word shifted_formula shifted_term depth_of_formula depth_of_term depth_of_array varies variables_in hidden-the_row-Sexpr-0 hidden-the_row-Term-1 hidden
row27 = search (rules, formulas.the_lemmas, terms.the_lemmas)

-- (let ((x y) (y x)) (= x y))
row28 : formula_read declared (l ((tree.Symbol (codes "let")) ∷ (l ((l ((tree.Symbol (codes "x")) ∷ (tree.Symbol (codes "y")) ∷ [])) ∷ (l ((tree.Symbol (codes "y")) ∷ (tree.Symbol (codes "x")) ∷ [])) ∷ [])) ∷ (l ((tree.Symbol (codes "=")) ∷ (tree.Symbol (codes "x")) ∷ (tree.Symbol (codes "y")) ∷ [])) ∷ [])) ≡ Ok (Equal y x)
unfolding formula_read side trees_in word_of sort_meant is_reserved is_reserved_word shifted_formula shifted_term depth_of_formula depth_of_term depth_of_array varies variables_in hidden-the_row-Sexpr-0 hidden-the_row-Term-1 hidden
row28 = search (rules, formulas.the_lemmas, terms.the_lemmas)

-- (let ((k (forall ((u Int)) (= u x)))) (and k (exists ((v Int)) k)))
row29 : formula_read declared (l ((tree.Symbol (codes "let")) ∷ (l ((l ((tree.Symbol (codes "k")) ∷ (l ((tree.Symbol (codes "forall")) ∷ (l ((l ((tree.Symbol (codes "u")) ∷ (tree.Symbol (codes "Int")) ∷ [])) ∷ [])) ∷ (l ((tree.Symbol (codes "=")) ∷ (tree.Symbol (codes "u")) ∷ (tree.Symbol (codes "x")) ∷ [])) ∷ [])) ∷ [])) ∷ [])) ∷ (l ((tree.Symbol (codes "and")) ∷ (tree.Symbol (codes "k")) ∷ (l ((tree.Symbol (codes "exists")) ∷ (l ((l ((tree.Symbol (codes "v")) ∷ (tree.Symbol (codes "Int")) ∷ [])) ∷ [])) ∷ (tree.Symbol (codes "k")) ∷ [])) ∷ [])) ∷ [])) ≡ Ok (All (Forall (integer 0 ∷ []) (Equal (Var 0) x) ∷ Exists (integer 1 ∷ []) (Forall (integer 2 ∷ []) (Equal (Var 2) x)) ∷ []))
unfolding formula_read side trees_in word_of sort_meant is_reserved is_reserved_word shifted_formula shifted_term depth_of_formula depth_of_term depth_of_array varies variables_in hidden-the_row-Sexpr-0 hidden-the_row-Term-1 hidden
row29 = search (rules, formulas.the_lemmas, terms.the_lemmas)

-- (forall ((u Int)) (let ((w u)) (forall ((u Int)) (= w u))))
row30 : formula_read declared (l ((tree.Symbol (codes "forall")) ∷ (l ((l ((tree.Symbol (codes "u")) ∷ (tree.Symbol (codes "Int")) ∷ [])) ∷ [])) ∷ (l ((tree.Symbol (codes "let")) ∷ (l ((l ((tree.Symbol (codes "w")) ∷ (tree.Symbol (codes "u")) ∷ [])) ∷ [])) ∷ (l ((tree.Symbol (codes "forall")) ∷ (l ((l ((tree.Symbol (codes "u")) ∷ (tree.Symbol (codes "Int")) ∷ [])) ∷ [])) ∷ (l ((tree.Symbol (codes "=")) ∷ (tree.Symbol (codes "w")) ∷ (tree.Symbol (codes "u")) ∷ [])) ∷ [])) ∷ [])) ∷ [])) ≡ Ok (Forall (integer 0 ∷ []) (Forall (integer 1 ∷ []) (Equal (Var 0) (Var 1))))
unfolding formula_read side trees_in word_of sort_meant is_reserved is_reserved_word shifted_formula shifted_term depth_of_formula depth_of_term depth_of_array varies variables_in hidden-the_row-Sexpr-0 hidden-the_row-Term-1 hidden
row30 = search (rules, formulas.the_lemmas, terms.the_lemmas)

-- (! (=> p q) :pattern ((f x)) :qid k)
row31 : formula_read declared (l ((tree.Symbol (codes "!")) ∷ (l ((tree.Symbol (codes "=>")) ∷ (tree.Symbol (codes "p")) ∷ (tree.Symbol (codes "q")) ∷ [])) ∷ (tree.Keyword (codes "pattern")) ∷ (l ((l ((tree.Symbol (codes "f")) ∷ (tree.Symbol (codes "x")) ∷ [])) ∷ [])) ∷ (tree.Keyword (codes "qid")) ∷ (tree.Symbol (codes "k")) ∷ [])) ≡ Ok (Any (Not p ∷ q ∷ []))
unfolding formula_read side trees_in word_of sort_meant is_reserved is_reserved_word shifted_formula shifted_term depth_of_formula depth_of_term depth_of_array varies variables_in hidden-the_row-Sexpr-0 hidden-the_row-Term-1 hidden
row31 = search (rules, formulas.the_lemmas, terms.the_lemmas)

-- (ite p q true)
row32 : formula_read declared (l ((tree.Symbol (codes "ite")) ∷ (tree.Symbol (codes "p")) ∷ (tree.Symbol (codes "q")) ∷ (tree.Symbol (codes "true")) ∷ [])) ≡ Ok (Choose p q (Truth true))
unfolding formula_read side trees_in word_of sort_meant is_reserved is_reserved_word shifted_formula shifted_term depth_of_formula depth_of_term depth_of_array varies variables_in hidden-the_row-Sexpr-0 hidden-the_row-Term-1 hidden
row32 = search (rules, formulas.the_lemmas, terms.the_lemmas)

-- (distinct x)
row33 : formula_read declared (l ((tree.Symbol (codes "distinct")) ∷ (tree.Symbol (codes "x")) ∷ [])) ≡ Err kind.WrongCount
unfolding formula_read side trees_in word_of sort_meant is_reserved is_reserved_word shifted_formula shifted_term depth_of_formula depth_of_term depth_of_array varies variables_in hidden-the_row-Sexpr-0 hidden-the_row-Term-1 hidden
row33 = search (rules, formulas.the_lemmas, terms.the_lemmas)

-- (= x p)
row34 : formula_read declared (l ((tree.Symbol (codes "=")) ∷ (tree.Symbol (codes "x")) ∷ (tree.Symbol (codes "p")) ∷ [])) ≡ Err kind.WrongSort
unfolding formula_read side trees_in word_of sort_meant is_reserved is_reserved_word shifted_formula shifted_term depth_of_formula depth_of_term depth_of_array varies variables_in hidden-the_row-Sexpr-0 hidden-the_row-Term-1 hidden
row34 = search (rules, formulas.the_lemmas, terms.the_lemmas)

-- (and)
row35 : formula_read declared (l ((tree.Symbol (codes "and")) ∷ [])) ≡ Err kind.WrongCount
unfolding formula_read side trees_in word_of sort_meant is_reserved is_reserved_word shifted_formula shifted_term depth_of_formula depth_of_term depth_of_array varies variables_in hidden-the_row-Sexpr-0 hidden-the_row-Term-1 hidden
row35 = search (rules, formulas.the_lemmas, terms.the_lemmas)

-- (p)
row36 : formula_read declared (l ((tree.Symbol (codes "p")) ∷ [])) ≡ Err kind.BadForm
unfolding formula_read side trees_in word_of sort_meant is_reserved is_reserved_word shifted_formula shifted_term depth_of_formula depth_of_term depth_of_array varies variables_in hidden-the_row-Sexpr-0 hidden-the_row-Term-1 hidden
row36 = search (rules, formulas.the_lemmas, terms.the_lemmas)

-- (= (- x) 1)
row37 : formula_read declared (l ((tree.Symbol (codes "=")) ∷ (l ((tree.Symbol (codes "-")) ∷ (tree.Symbol (codes "x")) ∷ [])) ∷ (tree.Numeral (codes "1")) ∷ [])) ≡ Err kind.NotDifference
unfolding formula_read side trees_in word_of sort_meant is_reserved is_reserved_word shifted_formula shifted_term depth_of_formula depth_of_term depth_of_array varies variables_in hidden-the_row-Sexpr-0 hidden-the_row-Term-1 hidden
row37 = search (rules, formulas.the_lemmas, terms.the_lemmas)

-- (= (- x y) z)
row38 : formula_read declared (l ((tree.Symbol (codes "=")) ∷ (l ((tree.Symbol (codes "-")) ∷ (tree.Symbol (codes "x")) ∷ (tree.Symbol (codes "y")) ∷ [])) ∷ (tree.Symbol (codes "z")) ∷ [])) ≡ Err kind.NotDifference
unfolding formula_read side trees_in word_of sort_meant is_reserved is_reserved_word shifted_formula shifted_term depth_of_formula depth_of_term depth_of_array varies variables_in hidden-the_row-Sexpr-0 hidden-the_row-Term-1 hidden
row38 = search (rules, formulas.the_lemmas, terms.the_lemmas)

-- (= (- x y) 3 4)
row39 : formula_read declared (l ((tree.Symbol (codes "=")) ∷ (l ((tree.Symbol (codes "-")) ∷ (tree.Symbol (codes "x")) ∷ (tree.Symbol (codes "y")) ∷ [])) ∷ (tree.Numeral (codes "3")) ∷ (tree.Numeral (codes "4")) ∷ [])) ≡ Err kind.NotDifference
unfolding formula_read side trees_in word_of sort_meant is_reserved is_reserved_word shifted_formula shifted_term depth_of_formula depth_of_term depth_of_array varies variables_in hidden-the_row-Sexpr-0 hidden-the_row-Term-1 hidden
row39 = search (rules, formulas.the_lemmas, terms.the_lemmas)

-- (= (+ x y) 1)
row40 : formula_read declared (l ((tree.Symbol (codes "=")) ∷ (l ((tree.Symbol (codes "+")) ∷ (tree.Symbol (codes "x")) ∷ (tree.Symbol (codes "y")) ∷ [])) ∷ (tree.Numeral (codes "1")) ∷ [])) ≡ Err kind.NotDifference
unfolding formula_read side trees_in word_of sort_meant is_reserved is_reserved_word shifted_formula shifted_term depth_of_formula depth_of_term depth_of_array varies variables_in hidden-the_row-Sexpr-0 hidden-the_row-Term-1 hidden
row40 = search (rules, formulas.the_lemmas, terms.the_lemmas)

-- (= (- x y) w)
row41 : formula_read declared (l ((tree.Symbol (codes "=")) ∷ (l ((tree.Symbol (codes "-")) ∷ (tree.Symbol (codes "x")) ∷ (tree.Symbol (codes "y")) ∷ [])) ∷ (tree.Symbol (codes "w")) ∷ [])) ≡ Err kind.NotDifference
unfolding formula_read side trees_in word_of sort_meant is_reserved is_reserved_word shifted_formula shifted_term depth_of_formula depth_of_term depth_of_array varies variables_in hidden-the_row-Sexpr-0 hidden-the_row-Term-1 hidden
row41 = search (rules, formulas.the_lemmas, terms.the_lemmas)

-- (= w (- x y))
row42 : formula_read declared (l ((tree.Symbol (codes "=")) ∷ (tree.Symbol (codes "w")) ∷ (l ((tree.Symbol (codes "-")) ∷ (tree.Symbol (codes "x")) ∷ (tree.Symbol (codes "y")) ∷ [])) ∷ [])) ≡ Err kind.UnknownName
unfolding formula_read side trees_in word_of sort_meant is_reserved is_reserved_word shifted_formula shifted_term depth_of_formula depth_of_term depth_of_array varies variables_in hidden-the_row-Sexpr-0 hidden-the_row-Term-1 hidden
row42 = search (rules, formulas.the_lemmas, terms.the_lemmas)

-- u
row43 : formula_read declared (tree.Symbol (codes "u")) ≡ Err kind.UnknownName
unfolding formula_read side trees_in word_of sort_meant is_reserved is_reserved_word shifted_formula shifted_term depth_of_formula depth_of_term depth_of_array varies variables_in hidden-the_row-Sexpr-0 hidden-the_row-Term-1 hidden
row43 = search (rules, formulas.the_lemmas, terms.the_lemmas)

-- (u x)
row44 : formula_read declared (l ((tree.Symbol (codes "u")) ∷ (tree.Symbol (codes "x")) ∷ [])) ≡ Err kind.UnknownName
unfolding formula_read side trees_in word_of sort_meant is_reserved is_reserved_word shifted_formula shifted_term depth_of_formula depth_of_term depth_of_array varies variables_in hidden-the_row-Sexpr-0 hidden-the_row-Term-1 hidden
row44 = search (rules, formulas.the_lemmas, terms.the_lemmas)

-- (u w)
row45 : formula_read declared (l ((tree.Symbol (codes "u")) ∷ (tree.Symbol (codes "w")) ∷ [])) ≡ Err kind.UnknownName
unfolding formula_read side trees_in word_of sort_meant is_reserved is_reserved_word shifted_formula shifted_term depth_of_formula depth_of_term depth_of_array varies variables_in hidden-the_row-Sexpr-0 hidden-the_row-Term-1 hidden
row45 = search (rules, formulas.the_lemmas, terms.the_lemmas)

-- (= (f x y) 1)
row46 : formula_read declared (l ((tree.Symbol (codes "=")) ∷ (l ((tree.Symbol (codes "f")) ∷ (tree.Symbol (codes "x")) ∷ (tree.Symbol (codes "y")) ∷ [])) ∷ (tree.Numeral (codes "1")) ∷ [])) ≡ Err kind.WrongCount
unfolding formula_read side trees_in word_of sort_meant is_reserved is_reserved_word shifted_formula shifted_term depth_of_formula depth_of_term depth_of_array varies variables_in hidden-the_row-Sexpr-0 hidden-the_row-Term-1 hidden
row46 = search (rules, formulas.the_lemmas, terms.the_lemmas)

-- (= (f c) 1)
row47 : formula_read declared (l ((tree.Symbol (codes "=")) ∷ (l ((tree.Symbol (codes "f")) ∷ (tree.Symbol (codes "c")) ∷ [])) ∷ (tree.Numeral (codes "1")) ∷ [])) ≡ Err kind.WrongSort
unfolding formula_read side trees_in word_of sort_meant is_reserved is_reserved_word shifted_formula shifted_term depth_of_formula depth_of_term depth_of_array varies variables_in hidden-the_row-Sexpr-0 hidden-the_row-Term-1 hidden
row47 = search (rules, formulas.the_lemmas, terms.the_lemmas)

-- (<= x 9223372036854775808)
row48 : formula_read declared (l ((tree.Symbol (codes "<=")) ∷ (tree.Symbol (codes "x")) ∷ (tree.Numeral (codes "9223372036854775808")) ∷ [])) ≡ Err kind.NumeralTooWide
unfolding formula_read side trees_in word_of sort_meant is_reserved is_reserved_word shifted_formula shifted_term depth_of_formula depth_of_term depth_of_array varies variables_in hidden-the_row-Sexpr-0 hidden-the_row-Term-1 hidden
row48 = search (rules, formulas.the_lemmas, terms.the_lemmas)

-- (<= x (+ y 576460752303423489))
row49 : formula_read declared (l ((tree.Symbol (codes "<=")) ∷ (tree.Symbol (codes "x")) ∷ (l ((tree.Symbol (codes "+")) ∷ (tree.Symbol (codes "y")) ∷ (tree.Numeral (codes "576460752303423489")) ∷ [])) ∷ [])) ≡ Err kind.OffsetTooWide
unfolding formula_read side trees_in word_of sort_meant is_reserved is_reserved_word shifted_formula shifted_term depth_of_formula depth_of_term depth_of_array varies variables_in hidden-the_row-Sexpr-0 hidden-the_row-Term-1 hidden
row49 = search (rules, formulas.the_lemmas, terms.the_lemmas)

-- (<= x (+ 9223372036854775807 1))
row50 : formula_read declared (l ((tree.Symbol (codes "<=")) ∷ (tree.Symbol (codes "x")) ∷ (l ((tree.Symbol (codes "+")) ∷ (tree.Numeral (codes "9223372036854775807")) ∷ (tree.Numeral (codes "1")) ∷ [])) ∷ [])) ≡ Err kind.OffsetTooWide
unfolding formula_read side trees_in word_of sort_meant is_reserved is_reserved_word shifted_formula shifted_term depth_of_formula depth_of_term depth_of_array varies variables_in hidden-the_row-Sexpr-0 hidden-the_row-Term-1 hidden
row50 = search (rules, formulas.the_lemmas, terms.the_lemmas)

-- (= t (store t 1 (and p q)))
row51 : formula_read declared (l ((tree.Symbol (codes "=")) ∷ (tree.Symbol (codes "t")) ∷ (l ((tree.Symbol (codes "store")) ∷ (tree.Symbol (codes "t")) ∷ (tree.Numeral (codes "1")) ∷ (l ((tree.Symbol (codes "and")) ∷ (tree.Symbol (codes "p")) ∷ (tree.Symbol (codes "q")) ∷ [])) ∷ [])) ∷ [])) ≡ Err kind.Unsupported
unfolding formula_read side trees_in word_of sort_meant is_reserved is_reserved_word shifted_formula shifted_term depth_of_formula depth_of_term depth_of_array varies variables_in hidden-the_row-Sexpr-0 hidden-the_row-Term-1 hidden
row51 = search (rules, formulas.the_lemmas, terms.the_lemmas)

-- (forall ((u Bool)) p)
row52 : formula_read declared (l ((tree.Symbol (codes "forall")) ∷ (l ((l ((tree.Symbol (codes "u")) ∷ (tree.Symbol (codes "Bool")) ∷ [])) ∷ [])) ∷ (tree.Symbol (codes "p")) ∷ [])) ≡ Err kind.Unsupported
unfolding formula_read side trees_in word_of sort_meant is_reserved is_reserved_word shifted_formula shifted_term depth_of_formula depth_of_term depth_of_array varies variables_in hidden-the_row-Sexpr-0 hidden-the_row-Term-1 hidden
row52 = search (rules, formulas.the_lemmas, terms.the_lemmas)

-- (forall () p)
row53 : formula_read declared (l ((tree.Symbol (codes "forall")) ∷ (l ([])) ∷ (tree.Symbol (codes "p")) ∷ [])) ≡ Err kind.BadForm
unfolding formula_read side trees_in word_of sort_meant is_reserved is_reserved_word shifted_formula shifted_term depth_of_formula depth_of_term depth_of_array varies variables_in hidden-the_row-Sexpr-0 hidden-the_row-Term-1 hidden
row53 = search (rules, formulas.the_lemmas, terms.the_lemmas)

-- (let () p)
row54 : formula_read declared (l ((tree.Symbol (codes "let")) ∷ (l ([])) ∷ (tree.Symbol (codes "p")) ∷ [])) ≡ Err kind.BadForm
unfolding formula_read side trees_in word_of sort_meant is_reserved is_reserved_word shifted_formula shifted_term depth_of_formula depth_of_term depth_of_array varies variables_in hidden-the_row-Sexpr-0 hidden-the_row-Term-1 hidden
row54 = search (rules, formulas.the_lemmas, terms.the_lemmas)

-- (let ((u 1) (u 2)) p)
row55 : formula_read declared (l ((tree.Symbol (codes "let")) ∷ (l ((l ((tree.Symbol (codes "u")) ∷ (tree.Numeral (codes "1")) ∷ [])) ∷ (l ((tree.Symbol (codes "u")) ∷ (tree.Numeral (codes "2")) ∷ [])) ∷ [])) ∷ (tree.Symbol (codes "p")) ∷ [])) ≡ Err kind.Twice
unfolding formula_read side trees_in word_of sort_meant is_reserved is_reserved_word shifted_formula shifted_term depth_of_formula depth_of_term depth_of_array varies variables_in hidden-the_row-Sexpr-0 hidden-the_row-Term-1 hidden
row55 = search (rules, formulas.the_lemmas, terms.the_lemmas)

-- (let ((true 1)) p)
row56 : formula_read declared (l ((tree.Symbol (codes "let")) ∷ (l ((l ((tree.Symbol (codes "true")) ∷ (tree.Numeral (codes "1")) ∷ [])) ∷ [])) ∷ (tree.Symbol (codes "p")) ∷ [])) ≡ Err kind.ReservedName
unfolding formula_read side trees_in word_of sort_meant is_reserved is_reserved_word shifted_formula shifted_term depth_of_formula depth_of_term depth_of_array varies variables_in hidden-the_row-Sexpr-0 hidden-the_row-Term-1 hidden
row56 = search (rules, formulas.the_lemmas, terms.the_lemmas)

-- (let)
row57 : formula_read declared (l ((tree.Symbol (codes "let")) ∷ [])) ≡ Err kind.WrongCount
unfolding formula_read side trees_in word_of sort_meant is_reserved is_reserved_word shifted_formula shifted_term depth_of_formula depth_of_term depth_of_array varies variables_in hidden-the_row-Sexpr-0 hidden-the_row-Term-1 hidden
row57 = search (rules, formulas.the_lemmas, terms.the_lemmas)

-- (let ((u 1)) p q)
row58 : formula_read declared (l ((tree.Symbol (codes "let")) ∷ (l ((l ((tree.Symbol (codes "u")) ∷ (tree.Numeral (codes "1")) ∷ [])) ∷ [])) ∷ (tree.Symbol (codes "p")) ∷ (tree.Symbol (codes "q")) ∷ [])) ≡ Err kind.WrongCount
unfolding formula_read side trees_in word_of sort_meant is_reserved is_reserved_word shifted_formula shifted_term depth_of_formula depth_of_term depth_of_array varies variables_in hidden-the_row-Sexpr-0 hidden-the_row-Term-1 hidden
row58 = search (rules, formulas.the_lemmas, terms.the_lemmas)

-- (= p (forall ((u Int)) p))
row59 : formula_read declared (l ((tree.Symbol (codes "=")) ∷ (tree.Symbol (codes "p")) ∷ (l ((tree.Symbol (codes "forall")) ∷ (l ((l ((tree.Symbol (codes "u")) ∷ (tree.Symbol (codes "Int")) ∷ [])) ∷ [])) ∷ (tree.Symbol (codes "p")) ∷ [])) ∷ [])) ≡ Err kind.QuantifierPlace
unfolding formula_read side trees_in word_of sort_meant is_reserved is_reserved_word shifted_formula shifted_term depth_of_formula depth_of_term depth_of_array varies variables_in hidden-the_row-Sexpr-0 hidden-the_row-Term-1 hidden
row59 = search (rules, formulas.the_lemmas, terms.the_lemmas)

-- (forall ((i Int)) (= b (store b i 0)))
row60 : formula_read declared (l ((tree.Symbol (codes "forall")) ∷ (l ((l ((tree.Symbol (codes "i")) ∷ (tree.Symbol (codes "Int")) ∷ [])) ∷ [])) ∷ (l ((tree.Symbol (codes "=")) ∷ (tree.Symbol (codes "b")) ∷ (l ((tree.Symbol (codes "store")) ∷ (tree.Symbol (codes "b")) ∷ (tree.Symbol (codes "i")) ∷ (tree.Numeral (codes "0")) ∷ [])) ∷ [])) ∷ [])) ≡ Err kind.BoundArray
unfolding formula_read side trees_in word_of sort_meant is_reserved is_reserved_word shifted_formula shifted_term depth_of_formula depth_of_term depth_of_array varies variables_in hidden-the_row-Sexpr-0 hidden-the_row-Term-1 hidden
row60 = search (rules, formulas.the_lemmas, terms.the_lemmas)

-- (= (default h) 0)
row61 : formula_read declared (l ((tree.Symbol (codes "=")) ∷ (l ((tree.Symbol (codes "default")) ∷ (tree.Symbol (codes "h")) ∷ [])) ∷ (tree.Numeral (codes "0")) ∷ [])) ≡ Err kind.Unsupported
unfolding formula_read side trees_in word_of sort_meant is_reserved is_reserved_word shifted_formula shifted_term depth_of_formula depth_of_term depth_of_array varies variables_in hidden-the_row-Sexpr-0 hidden-the_row-Term-1 hidden
row61 = search (rules, formulas.the_lemmas, terms.the_lemmas)

-- (match x)
row62 : formula_read declared (l ((tree.Symbol (codes "match")) ∷ (tree.Symbol (codes "x")) ∷ [])) ≡ Err kind.Unsupported
unfolding formula_read side trees_in word_of sort_meant is_reserved is_reserved_word shifted_formula shifted_term depth_of_formula depth_of_term depth_of_array varies variables_in hidden-the_row-Sexpr-0 hidden-the_row-Term-1 hidden
row62 = search (rules, formulas.the_lemmas, terms.the_lemmas)

-- (* x w)
row63 : formula_read declared (l ((tree.Symbol (codes "*")) ∷ (tree.Symbol (codes "x")) ∷ (tree.Symbol (codes "w")) ∷ [])) ≡ Err kind.UnknownName
unfolding formula_read side trees_in word_of sort_meant is_reserved is_reserved_word shifted_formula shifted_term depth_of_formula depth_of_term depth_of_array varies variables_in hidden-the_row-Sexpr-0 hidden-the_row-Term-1 hidden
row63 = search (rules, formulas.the_lemmas, terms.the_lemmas)

-- (= (* x y) 1)
row64 : formula_read declared (l ((tree.Symbol (codes "=")) ∷ (l ((tree.Symbol (codes "*")) ∷ (tree.Symbol (codes "x")) ∷ (tree.Symbol (codes "y")) ∷ [])) ∷ (tree.Numeral (codes "1")) ∷ [])) ≡ Err kind.Unsupported
unfolding formula_read side trees_in word_of sort_meant is_reserved is_reserved_word shifted_formula shifted_term depth_of_formula depth_of_term depth_of_array varies variables_in hidden-the_row-Sexpr-0 hidden-the_row-Term-1 hidden
row64 = search (rules, formulas.the_lemmas, terms.the_lemmas)

-- (= x 1.0)
row65 : formula_read declared (l ((tree.Symbol (codes "=")) ∷ (tree.Symbol (codes "x")) ∷ (tree.Decimal (codes "1.0")) ∷ [])) ≡ Err kind.Unsupported
unfolding formula_read side trees_in word_of sort_meant is_reserved is_reserved_word shifted_formula shifted_term depth_of_formula depth_of_term depth_of_array varies variables_in hidden-the_row-Sexpr-0 hidden-the_row-Term-1 hidden
row65 = search (rules, formulas.the_lemmas, terms.the_lemmas)

-- (true)
row66 : formula_read declared (l ((tree.Symbol (codes "true")) ∷ [])) ≡ Err kind.BadForm
unfolding formula_read side trees_in word_of sort_meant is_reserved is_reserved_word shifted_formula shifted_term depth_of_formula depth_of_term depth_of_array varies variables_in hidden-the_row-Sexpr-0 hidden-the_row-Term-1 hidden
row66 = search (rules, formulas.the_lemmas, terms.the_lemmas)

-- (true x)
row67 : formula_read declared (l ((tree.Symbol (codes "true")) ∷ (tree.Symbol (codes "x")) ∷ [])) ≡ Err kind.UnknownName
unfolding formula_read side trees_in word_of sort_meant is_reserved is_reserved_word shifted_formula shifted_term depth_of_formula depth_of_term depth_of_array varies variables_in hidden-the_row-Sexpr-0 hidden-the_row-Term-1 hidden
row67 = search (rules, formulas.the_lemmas, terms.the_lemmas)

-- and
row68 : formula_read declared (tree.Symbol (codes "and")) ≡ Err kind.UnknownName
unfolding formula_read side trees_in word_of sort_meant is_reserved is_reserved_word shifted_formula shifted_term depth_of_formula depth_of_term depth_of_array varies variables_in hidden-the_row-Sexpr-0 hidden-the_row-Term-1 hidden
row68 = search (rules, formulas.the_lemmas, terms.the_lemmas)

-- (ite p x y)
row69 : formula_read declared (l ((tree.Symbol (codes "ite")) ∷ (tree.Symbol (codes "p")) ∷ (tree.Symbol (codes "x")) ∷ (tree.Symbol (codes "y")) ∷ [])) ≡ Err kind.Unsupported
unfolding formula_read side trees_in word_of sort_meant is_reserved is_reserved_word shifted_formula shifted_term depth_of_formula depth_of_term depth_of_array varies variables_in hidden-the_row-Sexpr-0 hidden-the_row-Term-1 hidden
row69 = search (rules, formulas.the_lemmas, terms.the_lemmas)

-- (ite p x q)
row70 : formula_read declared (l ((tree.Symbol (codes "ite")) ∷ (tree.Symbol (codes "p")) ∷ (tree.Symbol (codes "x")) ∷ (tree.Symbol (codes "q")) ∷ [])) ≡ Err kind.WrongSort
unfolding formula_read side trees_in word_of sort_meant is_reserved is_reserved_word shifted_formula shifted_term depth_of_formula depth_of_term depth_of_array varies variables_in hidden-the_row-Sexpr-0 hidden-the_row-Term-1 hidden
row70 = search (rules, formulas.the_lemmas, terms.the_lemmas)

-- (= a ((_ map and) a))
row71 : formula_read declared (l ((tree.Symbol (codes "=")) ∷ (tree.Symbol (codes "a")) ∷ (l ((l ((tree.Symbol (codes "_")) ∷ (tree.Symbol (codes "map")) ∷ (tree.Symbol (codes "and")) ∷ [])) ∷ (tree.Symbol (codes "a")) ∷ [])) ∷ [])) ≡ Err kind.WrongSort
unfolding formula_read side trees_in word_of sort_meant is_reserved is_reserved_word shifted_formula shifted_term depth_of_formula depth_of_term depth_of_array varies variables_in hidden-the_row-Sexpr-0 hidden-the_row-Term-1 hidden
row71 = search (rules, formulas.the_lemmas, terms.the_lemmas)

-- (= a ((_ map +) a))
row72 : formula_read declared (l ((tree.Symbol (codes "=")) ∷ (tree.Symbol (codes "a")) ∷ (l ((l ((tree.Symbol (codes "_")) ∷ (tree.Symbol (codes "map")) ∷ (tree.Symbol (codes "+")) ∷ [])) ∷ (tree.Symbol (codes "a")) ∷ [])) ∷ [])) ≡ Err kind.Unsupported
unfolding formula_read side trees_in word_of sort_meant is_reserved is_reserved_word shifted_formula shifted_term depth_of_formula depth_of_term depth_of_array varies variables_in hidden-the_row-Sexpr-0 hidden-the_row-Term-1 hidden
row72 = search (rules, formulas.the_lemmas, terms.the_lemmas)

-- (= a ((_ map x) a))
row73 : formula_read declared (l ((tree.Symbol (codes "=")) ∷ (tree.Symbol (codes "a")) ∷ (l ((l ((tree.Symbol (codes "_")) ∷ (tree.Symbol (codes "map")) ∷ (tree.Symbol (codes "x")) ∷ [])) ∷ (tree.Symbol (codes "a")) ∷ [])) ∷ [])) ≡ Err kind.WrongCount
unfolding formula_read side trees_in word_of sort_meant is_reserved is_reserved_word shifted_formula shifted_term depth_of_formula depth_of_term depth_of_array varies variables_in hidden-the_row-Sexpr-0 hidden-the_row-Term-1 hidden
row73 = search (rules, formulas.the_lemmas, terms.the_lemmas)

-- ((as const Int) 3)
row74 : formula_read declared (l ((l ((tree.Symbol (codes "as")) ∷ (tree.Symbol (codes "const")) ∷ (tree.Symbol (codes "Int")) ∷ [])) ∷ (tree.Numeral (codes "3")) ∷ [])) ≡ Err kind.WrongSort
unfolding formula_read side trees_in word_of sort_meant is_reserved is_reserved_word shifted_formula shifted_term depth_of_formula depth_of_term depth_of_array varies variables_in hidden-the_row-Sexpr-0 hidden-the_row-Term-1 hidden
row74 = search (rules, formulas.the_lemmas, terms.the_lemmas)

-- x
row75 : formula_read declared (tree.Symbol (codes "x")) ≡ Err kind.WrongSort
unfolding formula_read side trees_in word_of sort_meant is_reserved is_reserved_word shifted_formula shifted_term depth_of_formula depth_of_term depth_of_array varies variables_in hidden-the_row-Sexpr-0 hidden-the_row-Term-1 hidden
row75 = search (rules, formulas.the_lemmas, terms.the_lemmas)

-- (g 5)
row76 : formula_read defined (l ((tree.Symbol (codes "g")) ∷ (tree.Numeral (codes "5")) ∷ [])) ≡ Ok (Equal (Plus y (negsuc 4)) (Num (pos 3)))
unfolding formula_read side trees_in word_of sort_meant is_reserved is_reserved_word shifted_formula shifted_term depth_of_formula depth_of_term depth_of_array varies variables_in hidden-the_row-Sexpr-0 hidden-the_row-Term-1 hidden
row76 = search (rules, formulas.the_lemmas, terms.the_lemmas)

-- (g x)
row77 : formula_read defined (l ((tree.Symbol (codes "g")) ∷ (tree.Symbol (codes "x")) ∷ [])) ≡ Ok (Equal y (Plus x (pos 3)))
unfolding formula_read side trees_in word_of sort_meant is_reserved is_reserved_word shifted_formula shifted_term depth_of_formula depth_of_term depth_of_array varies variables_in hidden-the_row-Sexpr-0 hidden-the_row-Term-1 hidden
row77 = search (rules, formulas.the_lemmas, terms.the_lemmas)

-- (k two)
row78 : formula_read defined (l ((tree.Symbol (codes "k")) ∷ (tree.Symbol (codes "two")) ∷ [])) ≡ Ok (Equal (Plus y (negsuc 1)) (Num (pos 3)))
unfolding formula_read side trees_in word_of sort_meant is_reserved is_reserved_word shifted_formula shifted_term depth_of_formula depth_of_term depth_of_array varies variables_in hidden-the_row-Sexpr-0 hidden-the_row-Term-1 hidden
row78 = search (rules, formulas.the_lemmas, terms.the_lemmas)

-- (forall ((v Int)) (m v))
row79 : formula_read defined (l ((tree.Symbol (codes "forall")) ∷ (l ((l ((tree.Symbol (codes "v")) ∷ (tree.Symbol (codes "Int")) ∷ [])) ∷ [])) ∷ (l ((tree.Symbol (codes "m")) ∷ (tree.Symbol (codes "v")) ∷ [])) ∷ [])) ≡ Ok (Forall (integer 0 ∷ []) (Forall (integer 1 ∷ []) (Equal (Var 0) (Var 1))))
unfolding formula_read side trees_in word_of sort_meant is_reserved is_reserved_word shifted_formula shifted_term depth_of_formula depth_of_term depth_of_array varies variables_in hidden-the_row-Sexpr-0 hidden-the_row-Term-1 hidden
row79 = search (rules, formulas.the_lemmas, terms.the_lemmas)

-- (and (m x) (m y))
row80 : formula_read defined (l ((tree.Symbol (codes "and")) ∷ (l ((tree.Symbol (codes "m")) ∷ (tree.Symbol (codes "x")) ∷ [])) ∷ (l ((tree.Symbol (codes "m")) ∷ (tree.Symbol (codes "y")) ∷ [])) ∷ [])) ≡ Ok (All (Forall (integer 0 ∷ []) (Equal x (Var 0)) ∷ Forall (integer 1 ∷ []) (Equal y (Var 1)) ∷ []))
unfolding formula_read side trees_in word_of sort_meant is_reserved is_reserved_word shifted_formula shifted_term depth_of_formula depth_of_term depth_of_array varies variables_in hidden-the_row-Sexpr-0 hidden-the_row-Term-1 hidden
row80 = search (rules, formulas.the_lemmas, terms.the_lemmas)

-- (let ((y x)) (g y))
row81 : formula_read defined (l ((tree.Symbol (codes "let")) ∷ (l ((l ((tree.Symbol (codes "y")) ∷ (tree.Symbol (codes "x")) ∷ [])) ∷ [])) ∷ (l ((tree.Symbol (codes "g")) ∷ (tree.Symbol (codes "y")) ∷ [])) ∷ [])) ≡ Ok (Equal y (Plus x (pos 3)))
unfolding formula_read side trees_in word_of sort_meant is_reserved is_reserved_word shifted_formula shifted_term depth_of_formula depth_of_term depth_of_array varies variables_in hidden-the_row-Sexpr-0 hidden-the_row-Term-1 hidden
row81 = search (rules, formulas.the_lemmas, terms.the_lemmas)

-- (e (forall ((u Int)) p))
row82 : formula_read defined (l ((tree.Symbol (codes "e")) ∷ (l ((tree.Symbol (codes "forall")) ∷ (l ((l ((tree.Symbol (codes "u")) ∷ (tree.Symbol (codes "Int")) ∷ [])) ∷ [])) ∷ (tree.Symbol (codes "p")) ∷ [])) ∷ [])) ≡ Err kind.QuantifierPlace
unfolding formula_read side trees_in word_of sort_meant is_reserved is_reserved_word shifted_formula shifted_term depth_of_formula depth_of_term depth_of_array varies variables_in hidden-the_row-Sexpr-0 hidden-the_row-Term-1 hidden
row82 = search (rules, formulas.the_lemmas, terms.the_lemmas)

-- (forall ((i Int)) (= b (s i)))
row83 : formula_read defined (l ((tree.Symbol (codes "forall")) ∷ (l ((l ((tree.Symbol (codes "i")) ∷ (tree.Symbol (codes "Int")) ∷ [])) ∷ [])) ∷ (l ((tree.Symbol (codes "=")) ∷ (tree.Symbol (codes "b")) ∷ (l ((tree.Symbol (codes "s")) ∷ (tree.Symbol (codes "i")) ∷ [])) ∷ [])) ∷ [])) ≡ Err kind.BoundArray
unfolding formula_read side trees_in word_of sort_meant is_reserved is_reserved_word shifted_formula shifted_term depth_of_formula depth_of_term depth_of_array varies variables_in hidden-the_row-Sexpr-0 hidden-the_row-Term-1 hidden
row83 = search (rules, formulas.the_lemmas, terms.the_lemmas)

-- (= b (s two))
row84 : formula_read defined (l ((tree.Symbol (codes "=")) ∷ (tree.Symbol (codes "b")) ∷ (l ((tree.Symbol (codes "s")) ∷ (tree.Symbol (codes "two")) ∷ [])) ∷ [])) ≡ Ok (SameArray b (Store a (Num (pos 2)) (Num (pos 0))))
unfolding formula_read side trees_in word_of sort_meant is_reserved is_reserved_word shifted_formula shifted_term depth_of_formula depth_of_term depth_of_array varies variables_in hidden-the_row-Sexpr-0 hidden-the_row-Term-1 hidden
row84 = search (rules, formulas.the_lemmas, terms.the_lemmas)

-- (o (+ x 1))
row85 : formula_read defined (l ((tree.Symbol (codes "o")) ∷ (l ((tree.Symbol (codes "+")) ∷ (tree.Symbol (codes "x")) ∷ (tree.Numeral (codes "1")) ∷ [])) ∷ [])) ≡ Err kind.OffsetTooWide
unfolding formula_read side trees_in word_of sort_meant is_reserved is_reserved_word shifted_formula shifted_term depth_of_formula depth_of_term depth_of_array varies variables_in hidden-the_row-Sexpr-0 hidden-the_row-Term-1 hidden
row85 = search (rules, formulas.the_lemmas, terms.the_lemmas)

-- (o x)
row86 : formula_read defined (l ((tree.Symbol (codes "o")) ∷ (tree.Symbol (codes "x")) ∷ [])) ≡ Ok (AtMost x (Plus x (pos 576460752303423488)))
unfolding formula_read side trees_in word_of sort_meant is_reserved is_reserved_word shifted_formula shifted_term depth_of_formula depth_of_term depth_of_array varies variables_in hidden-the_row-Sexpr-0 hidden-the_row-Term-1 hidden
row86 = search (rules, formulas.the_lemmas, terms.the_lemmas)

-- (w (and p q))
row87 : formula_read defined (l ((tree.Symbol (codes "w")) ∷ (l ((tree.Symbol (codes "and")) ∷ (tree.Symbol (codes "p")) ∷ (tree.Symbol (codes "q")) ∷ [])) ∷ [])) ≡ Err kind.Unsupported
unfolding formula_read side trees_in word_of sort_meant is_reserved is_reserved_word shifted_formula shifted_term depth_of_formula depth_of_term depth_of_array varies variables_in hidden-the_row-Sexpr-0 hidden-the_row-Term-1 hidden
row87 = search (rules, formulas.the_lemmas, terms.the_lemmas)

-- (w q)
row88 : formula_read defined (l ((tree.Symbol (codes "w")) ∷ (tree.Symbol (codes "q")) ∷ [])) ≡ Ok (SameArray t (Store t (Num (pos 1)) (constant 4)))
unfolding formula_read side trees_in word_of sort_meant is_reserved is_reserved_word shifted_formula shifted_term depth_of_formula depth_of_term depth_of_array varies variables_in hidden-the_row-Sexpr-0 hidden-the_row-Term-1 hidden
row88 = search (rules, formulas.the_lemmas, terms.the_lemmas)

-- (g)
row89 : formula_read defined (l ((tree.Symbol (codes "g")) ∷ [])) ≡ Err kind.BadForm
unfolding formula_read side trees_in word_of sort_meant is_reserved is_reserved_word shifted_formula shifted_term depth_of_formula depth_of_term depth_of_array varies variables_in hidden-the_row-Sexpr-0 hidden-the_row-Term-1 hidden
row89 = search (rules, formulas.the_lemmas, terms.the_lemmas)

-- (g x y)
row90 : formula_read defined (l ((tree.Symbol (codes "g")) ∷ (tree.Symbol (codes "x")) ∷ (tree.Symbol (codes "y")) ∷ [])) ≡ Err kind.WrongCount
unfolding formula_read side trees_in word_of sort_meant is_reserved is_reserved_word shifted_formula shifted_term depth_of_formula depth_of_term depth_of_array varies variables_in hidden-the_row-Sexpr-0 hidden-the_row-Term-1 hidden
row90 = search (rules, formulas.the_lemmas, terms.the_lemmas)

-- (g p)
row91 : formula_read defined (l ((tree.Symbol (codes "g")) ∷ (tree.Symbol (codes "p")) ∷ [])) ≡ Err kind.WrongSort
unfolding formula_read side trees_in word_of sort_meant is_reserved is_reserved_word shifted_formula shifted_term depth_of_formula depth_of_term depth_of_array varies variables_in hidden-the_row-Sexpr-0 hidden-the_row-Term-1 hidden
row91 = search (rules, formulas.the_lemmas, terms.the_lemmas)

-- g
row92 : formula_read defined (tree.Symbol (codes "g")) ≡ Err kind.WrongCount
unfolding formula_read side trees_in word_of sort_meant is_reserved is_reserved_word shifted_formula shifted_term depth_of_formula depth_of_term depth_of_array varies variables_in hidden-the_row-Sexpr-0 hidden-the_row-Term-1 hidden
row92 = search (rules, formulas.the_lemmas, terms.the_lemmas)

-- (= a ((_ map k) a))
row93 : formula_read defined (l ((tree.Symbol (codes "=")) ∷ (tree.Symbol (codes "a")) ∷ (l ((l ((tree.Symbol (codes "_")) ∷ (tree.Symbol (codes "map")) ∷ (tree.Symbol (codes "k")) ∷ [])) ∷ (tree.Symbol (codes "a")) ∷ [])) ∷ [])) ≡ Err kind.Unsupported
unfolding formula_read side trees_in word_of sort_meant is_reserved is_reserved_word shifted_formula shifted_term depth_of_formula depth_of_term depth_of_array varies variables_in hidden-the_row-Sexpr-0 hidden-the_row-Term-1 hidden
row93 = search (rules, formulas.the_lemmas, terms.the_lemmas)

-- (define-fun g ((u Int)) Bool (= (- x u) y))
row94 : macro_defined declared (l ((tree.Symbol (codes "define-fun")) ∷ (tree.Symbol (codes "g")) ∷ (l ((l ((tree.Symbol (codes "u")) ∷ (tree.Symbol (codes "Int")) ∷ [])) ∷ [])) ∷ (tree.Symbol (codes "Bool")) ∷ (l ((tree.Symbol (codes "=")) ∷ (l ((tree.Symbol (codes "-")) ∷ (tree.Symbol (codes "x")) ∷ (tree.Symbol (codes "u")) ∷ [])) ∷ (tree.Symbol (codes "y")) ∷ [])) ∷ [])) ≡ Err kind.NotDifference
unfolding formula_read side trees_in word_of sort_meant is_reserved is_reserved_word shifted_formula shifted_term depth_of_formula depth_of_term depth_of_array varies variables_in hidden-the_row-Sexpr-0 hidden-the_row-Term-1 hidden
row94 = search (rules, formulas.the_lemmas, terms.the_lemmas)

-- (define-fun p () Bool q)
row95 : macro_defined declared (l ((tree.Symbol (codes "define-fun")) ∷ (tree.Symbol (codes "p")) ∷ (l ([])) ∷ (tree.Symbol (codes "Bool")) ∷ (tree.Symbol (codes "q")) ∷ [])) ≡ Err kind.Twice
unfolding formula_read side trees_in word_of sort_meant is_reserved is_reserved_word shifted_formula shifted_term depth_of_formula depth_of_term depth_of_array varies variables_in hidden-the_row-Sexpr-0 hidden-the_row-Term-1 hidden
row95 = search (rules, formulas.the_lemmas, terms.the_lemmas)

-- (define-fun @k () Bool q)
row96 : macro_defined declared (l ((tree.Symbol (codes "define-fun")) ∷ (tree.Symbol (codes "@k")) ∷ (l ([])) ∷ (tree.Symbol (codes "Bool")) ∷ (tree.Symbol (codes "q")) ∷ [])) ≡ Err kind.ReservedName
unfolding formula_read side trees_in word_of sort_meant is_reserved is_reserved_word shifted_formula shifted_term depth_of_formula depth_of_term depth_of_array varies variables_in hidden-the_row-Sexpr-0 hidden-the_row-Term-1 hidden
row96 = search (rules, formulas.the_lemmas, terms.the_lemmas)

-- (define-fun g () Int p)
row97 : macro_defined declared (l ((tree.Symbol (codes "define-fun")) ∷ (tree.Symbol (codes "g")) ∷ (l ([])) ∷ (tree.Symbol (codes "Int")) ∷ (tree.Symbol (codes "p")) ∷ [])) ≡ Err kind.WrongSort
unfolding formula_read side trees_in word_of sort_meant is_reserved is_reserved_word shifted_formula shifted_term depth_of_formula depth_of_term depth_of_array varies variables_in hidden-the_row-Sexpr-0 hidden-the_row-Term-1 hidden
row97 = search (rules, formulas.the_lemmas, terms.the_lemmas)

-- (define-fun g ((u Int) (u Int)) Bool p)
row98 : macro_defined declared (l ((tree.Symbol (codes "define-fun")) ∷ (tree.Symbol (codes "g")) ∷ (l ((l ((tree.Symbol (codes "u")) ∷ (tree.Symbol (codes "Int")) ∷ [])) ∷ (l ((tree.Symbol (codes "u")) ∷ (tree.Symbol (codes "Int")) ∷ [])) ∷ [])) ∷ (tree.Symbol (codes "Bool")) ∷ (tree.Symbol (codes "p")) ∷ [])) ≡ Err kind.Twice
unfolding formula_read side trees_in word_of sort_meant is_reserved is_reserved_word shifted_formula shifted_term depth_of_formula depth_of_term depth_of_array varies variables_in hidden-the_row-Sexpr-0 hidden-the_row-Term-1 hidden
row98 = search (rules, formulas.the_lemmas, terms.the_lemmas)

-- (define-fun p () Bool w)
row99 : macro_defined declared (l ((tree.Symbol (codes "define-fun")) ∷ (tree.Symbol (codes "p")) ∷ (l ([])) ∷ (tree.Symbol (codes "Bool")) ∷ (tree.Symbol (codes "w")) ∷ [])) ≡ Err kind.UnknownName
unfolding formula_read side trees_in word_of sort_meant is_reserved is_reserved_word shifted_formula shifted_term depth_of_formula depth_of_term depth_of_array varies variables_in hidden-the_row-Sexpr-0 hidden-the_row-Term-1 hidden
row99 = search (rules, formulas.the_lemmas, terms.the_lemmas)

-- (define-fun g p)
row100 : macro_defined declared (l ((tree.Symbol (codes "define-fun")) ∷ (tree.Symbol (codes "g")) ∷ (tree.Symbol (codes "p")) ∷ [])) ≡ Err kind.BadForm
unfolding formula_read side trees_in word_of sort_meant is_reserved is_reserved_word shifted_formula shifted_term depth_of_formula depth_of_term depth_of_array varies variables_in hidden-the_row-Sexpr-0 hidden-the_row-Term-1 hidden
row100 = search (rules, formulas.the_lemmas, terms.the_lemmas)

-- (define-fun g ((u (Array Bool Int))) Bool p)
row101 : macro_defined declared (l ((tree.Symbol (codes "define-fun")) ∷ (tree.Symbol (codes "g")) ∷ (l ((l ((tree.Symbol (codes "u")) ∷ (l ((tree.Symbol (codes "Array")) ∷ (tree.Symbol (codes "Bool")) ∷ (tree.Symbol (codes "Int")) ∷ [])) ∷ [])) ∷ [])) ∷ (tree.Symbol (codes "Bool")) ∷ (tree.Symbol (codes "p")) ∷ [])) ≡ Err kind.Unsupported
unfolding formula_read side trees_in word_of sort_meant is_reserved is_reserved_word shifted_formula shifted_term depth_of_formula depth_of_term depth_of_array varies variables_in hidden-the_row-Sexpr-0 hidden-the_row-Term-1 hidden
row101 = search (rules, formulas.the_lemmas, terms.the_lemmas)

-- (define-fun g ((u Real)) Bool p)
row102 : macro_defined declared (l ((tree.Symbol (codes "define-fun")) ∷ (tree.Symbol (codes "g")) ∷ (l ((l ((tree.Symbol (codes "u")) ∷ (tree.Symbol (codes "Real")) ∷ [])) ∷ [])) ∷ (tree.Symbol (codes "Bool")) ∷ (tree.Symbol (codes "p")) ∷ [])) ≡ Err kind.UnknownName
unfolding formula_read side trees_in word_of sort_meant is_reserved is_reserved_word shifted_formula shifted_term depth_of_formula depth_of_term depth_of_array varies variables_in hidden-the_row-Sexpr-0 hidden-the_row-Term-1 hidden
row102 = search (rules, formulas.the_lemmas, terms.the_lemmas)

-- (define-fun g ((u (Array Int))) Bool p)
row103 : macro_defined declared (l ((tree.Symbol (codes "define-fun")) ∷ (tree.Symbol (codes "g")) ∷ (l ((l ((tree.Symbol (codes "u")) ∷ (l ((tree.Symbol (codes "Array")) ∷ (tree.Symbol (codes "Int")) ∷ [])) ∷ [])) ∷ [])) ∷ (tree.Symbol (codes "Bool")) ∷ (tree.Symbol (codes "p")) ∷ [])) ≡ Err kind.BadForm
unfolding formula_read side trees_in word_of sort_meant is_reserved is_reserved_word shifted_formula shifted_term depth_of_formula depth_of_term depth_of_array varies variables_in hidden-the_row-Sexpr-0 hidden-the_row-Term-1 hidden
row103 = search (rules, formulas.the_lemmas, terms.the_lemmas)

-- (define-fun g ((let Int)) Bool p)
row104 : macro_defined declared (l ((tree.Symbol (codes "define-fun")) ∷ (tree.Symbol (codes "g")) ∷ (l ((l ((tree.Symbol (codes "let")) ∷ (tree.Symbol (codes "Int")) ∷ [])) ∷ [])) ∷ (tree.Symbol (codes "Bool")) ∷ (tree.Symbol (codes "p")) ∷ [])) ≡ Err kind.ReservedName
unfolding formula_read side trees_in word_of sort_meant is_reserved is_reserved_word shifted_formula shifted_term depth_of_formula depth_of_term depth_of_array varies variables_in hidden-the_row-Sexpr-0 hidden-the_row-Term-1 hidden
row104 = search (rules, formulas.the_lemmas, terms.the_lemmas)

-- macros without parameters: one with a quantifier, and one that applies it twice
abbrev all_equal : Macro
all_equal = record { name = codes "all"; parameters = []; body = body.Meaning (meaning.Formula (Forall (integer 0 ∷ []) (Equal (Var 0) x))) }

abbrev both_equal : Macro
both_equal = record {
  name = codes "both";
  parameters = [];
  body = body.Meaning (meaning.Formula (All (Forall (integer 0 ∷ []) (Equal (Var 0) x) ∷ Forall (integer 1 ∷ []) (Equal (Var 1) x) ∷ [])));
}

-- (define-fun all () Bool (forall ((v Int)) (= v x)))
row105 : macro_defined declared (l ((tree.Symbol (codes "define-fun")) ∷ (tree.Symbol (codes "all")) ∷ (l ([])) ∷ (tree.Symbol (codes "Bool")) ∷ (l ((tree.Symbol (codes "forall")) ∷ (l ((l ((tree.Symbol (codes "v")) ∷ (tree.Symbol (codes "Int")) ∷ [])) ∷ [])) ∷ (l ((tree.Symbol (codes "=")) ∷ (tree.Symbol (codes "v")) ∷ (tree.Symbol (codes "x")) ∷ [])) ∷ [])) ∷ [])) ≡ Ok (with_definition declared all_equal)
unfolding formula_read side trees_in word_of sort_meant is_reserved is_reserved_word shifted_formula shifted_term depth_of_formula depth_of_term depth_of_array varies variables_in hidden-the_row-Sexpr-0 hidden-the_row-Term-1 hidden
row105 = search (rules, formulas.the_lemmas, terms.the_lemmas)

-- (define-fun both () Bool (and all all))
row106 : macro_defined (with_definition declared all_equal) (l ((tree.Symbol (codes "define-fun")) ∷ (tree.Symbol (codes "both")) ∷ (l ([])) ∷ (tree.Symbol (codes "Bool")) ∷ (l ((tree.Symbol (codes "and")) ∷ (tree.Symbol (codes "all")) ∷ (tree.Symbol (codes "all")) ∷ [])) ∷ [])) ≡ Ok (with_definition (with_definition declared all_equal) both_equal)
unfolding formula_read side trees_in word_of sort_meant is_reserved is_reserved_word shifted_formula shifted_term depth_of_formula depth_of_term depth_of_array varies variables_in hidden-the_row-Sexpr-0 hidden-the_row-Term-1 hidden
row106 = search (rules, formulas.the_lemmas, terms.the_lemmas)

-- (forall ((u Int)) both)
row107 : formula_read (with_definition (with_definition declared all_equal) both_equal) (l ((tree.Symbol (codes "forall")) ∷ (l ((l ((tree.Symbol (codes "u")) ∷ (tree.Symbol (codes "Int")) ∷ [])) ∷ [])) ∷ (tree.Symbol (codes "both")) ∷ [])) ≡ Ok (Forall (integer 0 ∷ []) (All (Forall (integer 1 ∷ []) (Equal (Var 1) x) ∷ Forall (integer 2 ∷ []) (Equal (Var 2) x) ∷ [])))
unfolding formula_read side trees_in word_of sort_meant is_reserved is_reserved_word shifted_formula shifted_term depth_of_formula depth_of_term depth_of_array varies variables_in hidden-the_row-Sexpr-0 hidden-the_row-Term-1 hidden
row107 = search (rules, formulas.the_lemmas, terms.the_lemmas)
