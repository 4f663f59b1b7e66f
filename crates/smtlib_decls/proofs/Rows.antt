-- Worked rows: the definitions compute scripts, and the first refusals.
use Rattle.std.proofs.Common.{◌≡◌, ℕ, List, [], ◌∷◌, Option, None, Some, Ok, Err, pos, negsuc, true, false, refl, inl, rules}
use Rattle.std.specs.Prelude.{codes}
use Rattle.mbqi_values.specs.declared.fault.FaultKind.TheVariants as kind
use Rattle.mbqi_terms.specs.declared.formula.Formula.{Formula}
use Rattle.mbqi_terms.specs.declared.formula.Formula as formulas
use Rattle.mbqi_terms.specs.declared.formula.Formula.TheBlock.{hidden-the_row-Formula-0}
use Rattle.mbqi_terms.specs.declared.formula.Formula.TheVariants.{Truth, AtMost, Not, Forall}
use Rattle.mbqi_terms.specs.declared.script.Assertion.{Assertion}
use Rattle.mbqi_terms.specs.declared.script.Function.{Function}
use Rattle.mbqi_terms.specs.declared.sort.Sort.{Sort}
use Rattle.mbqi_terms.specs.declared.sort.Sort.TheVariants as sort
use Rattle.mbqi_terms.specs.declared.term.ArrayTerm.TheBlock.{hidden-the_row-Term-1}
use Rattle.mbqi_terms.specs.declared.term.Symbol.TheVariants.{Declared}
use Rattle.mbqi_terms.specs.declared.term.Term as terms
use Rattle.mbqi_terms.specs.declared.term.Term.TheVariants.{Num, Plus, Var, Apply}
use Rattle.sexpr_text.specs.Bytes.{class_of, is_symbol_byte}
use Rattle.sexpr_text.specs.Front.{front_of}
use Rattle.sexpr_text.specs.Lexis.{fault_from, lexed_from}
use Rattle.sexpr_text.specs.declared.tree.Form.{Form}
use Rattle.sexpr_text.specs.declared.tree.Sexpr.{Sexpr}
use Rattle.sexpr_text.specs.declared.tree.Sexpr.TheBlock.{hidden-the_row-Sexpr-0}
use Rattle.sexpr_text.specs.declared.tree.Sexpr.TheVariants as tree
use Rattle.smtlib_terms.specs.Declaring.{definition_parts, function_declared, sort_declared, term_read}
use Rattle.smtlib_terms.specs.Meaning.{shifted_formula, shifted_term}
use Rattle.smtlib_terms.specs.Names.{sort_meant}
use Rattle.smtlib_terms.specs.Reading.{side, trees_in}
use Rattle.smtlib_terms.specs.Words.{word_of, is_reserved, is_reserved_word}
use Rattle.smtlib_decls.specs.Commands.{command_meant, command_of, constant_declared, definition_behind, function_command, signature_declared}
use Rattle.smtlib_decls.specs.Labels.{label_of}
use Rattle.smtlib_decls.specs.Means.{Refused}
use Rattle.smtlib_decls.specs.Scripts.{is_exit, script_meant}
use Rattle.mbqi_terms.specs.Depth.{depth_of_formula, depth_of_term, depth_of_array}
use Rattle.mbqi_terms.specs.Varies.{varies}
use Rattle.mbqi_terms.specs.Binders.{variables_in}
use denote.Hole.Carrier.{hidden}

abbrev form : ℕ → ℕ → Sexpr → Form
form from to t = record { tree = t; from = from; to = to }

abbrev list : List Sexpr → Sexpr
list trees = tree.List trees

abbrev symbol : List ℕ → Sexpr
symbol text = tree.Symbol text

abbrev numeral : List ℕ → Sexpr
numeral text = tree.Numeral text

abbrev keyword : List ℕ → Sexpr
keyword text = tree.Keyword text

abbrev function : List ℕ → List Sort → Sort → Function
function text args result = record { name = text; args = args; result = result }

abbrev assertion : Option (List ℕ) → Formula → Assertion
assertion label f = record { label = label; formula = f }

-- (declare-const x Int)(assert (<= x 9223372036854775808))
numeral_past_the_limit : script_meant
    (form 0 21 (list (symbol (codes "declare-const") ∷ symbol (codes "x") ∷ symbol (codes "Int") ∷ []))
    ∷ form 21 56 (list (symbol (codes "assert") ∷ list (symbol (codes "<=") ∷ symbol (codes "x") ∷ numeral (codes "9223372036854775808") ∷ []) ∷ []))
    ∷ [])
    ≡ Err (record { at = 21; kind = kind.NumeralTooWide })
unfolding command_meant command_of label_of is_exit function_command constant_declared signature_declared term_read sort_declared function_declared side trees_in word_of sort_meant is_reserved is_reserved_word shifted_formula shifted_term depth_of_formula depth_of_term depth_of_array varies variables_in hidden-the_row-Sexpr-0 hidden-the_row-Term-1 hidden-the_row-Formula-0 hidden
numeral_past_the_limit = search (rules, formulas.the_lemmas, terms.the_lemmas)

-- (assert (! true :named a))(assert (! 3 :named a))
label_before_the_sort : script_meant
    (form 0 26 (list (symbol (codes "assert") ∷ list (symbol (codes "!") ∷ symbol (codes "true") ∷ keyword (codes "named") ∷ symbol (codes "a") ∷ []) ∷ []))
    ∷ form 26 49 (list (symbol (codes "assert") ∷ list (symbol (codes "!") ∷ numeral (codes "3") ∷ keyword (codes "named") ∷ symbol (codes "a") ∷ []) ∷ []))
    ∷ [])
    ≡ Err (record { at = 26; kind = kind.Twice })
unfolding command_meant command_of label_of is_exit function_command constant_declared signature_declared term_read sort_declared function_declared side trees_in word_of sort_meant is_reserved is_reserved_word shifted_formula shifted_term depth_of_formula depth_of_term depth_of_array varies variables_in hidden-the_row-Sexpr-0 hidden-the_row-Term-1 hidden-the_row-Formula-0 hidden
label_before_the_sort = search (rules, formulas.the_lemmas, terms.the_lemmas)

-- (check-sat)(assert 3)
question_before_the_sort : script_meant
    (form 0 11 (list (symbol (codes "check-sat") ∷ []))
    ∷ form 11 21 (list (symbol (codes "assert") ∷ numeral (codes "3") ∷ []))
    ∷ [])
    ≡ Err (record { at = 11; kind = kind.Unsupported })
unfolding command_meant command_of label_of is_exit function_command constant_declared signature_declared term_read sort_declared function_declared side trees_in word_of sort_meant is_reserved is_reserved_word shifted_formula shifted_term depth_of_formula depth_of_term depth_of_array varies variables_in hidden-the_row-Sexpr-0 hidden-the_row-Term-1 hidden-the_row-Formula-0 hidden
question_before_the_sort = search (rules, formulas.the_lemmas, terms.the_lemmas)

-- (assert (! 3 :named a))
integer_asserted : script_meant
    (form 0 23 (list (symbol (codes "assert") ∷ list (symbol (codes "!") ∷ numeral (codes "3") ∷ keyword (codes "named") ∷ symbol (codes "a") ∷ []) ∷ []))
    ∷ [])
    ≡ Err (record { at = 0; kind = kind.WrongSort })
unfolding command_meant command_of label_of is_exit function_command constant_declared signature_declared term_read sort_declared function_declared side trees_in word_of sort_meant is_reserved is_reserved_word shifted_formula shifted_term depth_of_formula depth_of_term depth_of_array varies variables_in hidden-the_row-Sexpr-0 hidden-the_row-Term-1 hidden-the_row-Formula-0 hidden
integer_asserted = search (rules, formulas.the_lemmas, terms.the_lemmas)

-- (declare-const x Int)(assert (<= x 9223372036854775807))
numeral_at_the_limit : script_meant
    (form 0 21 (list (symbol (codes "declare-const") ∷ symbol (codes "x") ∷ symbol (codes "Int") ∷ []))
    ∷ form 21 56 (list (symbol (codes "assert") ∷ list (symbol (codes "<=") ∷ symbol (codes "x") ∷ numeral (codes "9223372036854775807") ∷ []) ∷ []))
    ∷ [])
    ≡ Ok (record { sorts = []; functions = function (codes "x") [] sort.Int ∷ []; assertions = assertion None (AtMost (Apply (Declared 0) []) (Num (pos 9223372036854775807))) ∷ []; asks = false })
unfolding command_meant command_of label_of is_exit function_command constant_declared signature_declared term_read sort_declared function_declared side trees_in word_of sort_meant is_reserved is_reserved_word shifted_formula shifted_term depth_of_formula depth_of_term depth_of_array varies variables_in hidden-the_row-Sexpr-0 hidden-the_row-Term-1 hidden-the_row-Formula-0 hidden
numeral_at_the_limit = search (rules, formulas.the_lemmas, terms.the_lemmas)

-- (declare-sort S 0)(declare-const a (Array S Int))(assert (= (default a) 0))
default_over_a_sort : script_meant
    (form 0 18 (list (symbol (codes "declare-sort") ∷ symbol (codes "S") ∷ numeral (codes "0") ∷ []))
    ∷ form 18 49 (list (symbol (codes "declare-const") ∷ symbol (codes "a") ∷ list (symbol (codes "Array") ∷ symbol (codes "S") ∷ symbol (codes "Int") ∷ []) ∷ []))
    ∷ form 49 75 (list (symbol (codes "assert") ∷ list (symbol (codes "=") ∷ list (symbol (codes "default") ∷ symbol (codes "a") ∷ []) ∷ numeral (codes "0") ∷ []) ∷ []))
    ∷ [])
    ≡ Err (record { at = 49; kind = kind.Unsupported })
unfolding command_meant command_of label_of is_exit function_command constant_declared signature_declared term_read sort_declared function_declared side trees_in word_of sort_meant is_reserved is_reserved_word shifted_formula shifted_term depth_of_formula depth_of_term depth_of_array varies variables_in hidden-the_row-Sexpr-0 hidden-the_row-Term-1 hidden-the_row-Formula-0 hidden
default_over_a_sort = search (rules, formulas.the_lemmas, terms.the_lemmas)

-- (declare-const b (Array Int Int))(assert (forall ((i Int)) (= b (store b i 0))))
variable_in_an_array : script_meant
    (form 0 33 (list (symbol (codes "declare-const") ∷ symbol (codes "b") ∷ list (symbol (codes "Array") ∷ symbol (codes "Int") ∷ symbol (codes "Int") ∷ []) ∷ []))
    ∷ form 33 80 (list (symbol (codes "assert") ∷ list (symbol (codes "forall") ∷ list (list (symbol (codes "i") ∷ symbol (codes "Int") ∷ []) ∷ []) ∷ list (symbol (codes "=") ∷ symbol (codes "b") ∷ list (symbol (codes "store") ∷ symbol (codes "b") ∷ symbol (codes "i") ∷ numeral (codes "0") ∷ []) ∷ []) ∷ []) ∷ []))
    ∷ [])
    ≡ Err (record { at = 33; kind = kind.BoundArray })
unfolding command_meant command_of label_of is_exit function_command constant_declared signature_declared term_read sort_declared function_declared side trees_in word_of sort_meant is_reserved is_reserved_word shifted_formula shifted_term depth_of_formula depth_of_term depth_of_array varies variables_in hidden-the_row-Sexpr-0 hidden-the_row-Term-1 hidden-the_row-Formula-0 hidden
variable_in_an_array = search (rules, formulas.the_lemmas, terms.the_lemmas)

-- (declare-fun f (Int) Int)(define-fun g ((x Int)) Bool (< (f x) 3))(assert (forall ((y Int)) (let ((z (- y 1))) (g z))))(check-sat)
macro_under_a_binder : script_meant
    (form 0 25 (list (symbol (codes "declare-fun") ∷ symbol (codes "f") ∷ list (symbol (codes "Int") ∷ []) ∷ symbol (codes "Int") ∷ []))
    ∷ form 25 66 (list (symbol (codes "define-fun") ∷ symbol (codes "g") ∷ list (list (symbol (codes "x") ∷ symbol (codes "Int") ∷ []) ∷ []) ∷ symbol (codes "Bool") ∷ list (symbol (codes "<") ∷ list (symbol (codes "f") ∷ symbol (codes "x") ∷ []) ∷ numeral (codes "3") ∷ []) ∷ []))
    ∷ form 66 119 (list (symbol (codes "assert") ∷ list (symbol (codes "forall") ∷ list (list (symbol (codes "y") ∷ symbol (codes "Int") ∷ []) ∷ []) ∷ list (symbol (codes "let") ∷ list (list (symbol (codes "z") ∷ list (symbol (codes "-") ∷ symbol (codes "y") ∷ numeral (codes "1") ∷ []) ∷ []) ∷ []) ∷ list (symbol (codes "g") ∷ symbol (codes "z") ∷ []) ∷ []) ∷ []) ∷ []))
    ∷ form 119 130 (list (symbol (codes "check-sat") ∷ []))
    ∷ [])
    ≡ Ok (record { sorts = []; functions = function (codes "f") (sort.Int ∷ []) sort.Int ∷ []; assertions = assertion None (Forall (record { place = 0; sort = sort.Int } ∷ []) (Not (AtMost (Num (pos 3)) (Apply (Declared 0) (Plus (Var 0) (negsuc 0) ∷ []))))) ∷ []; asks = true })
unfolding command_meant command_of label_of is_exit function_command constant_declared signature_declared term_read sort_declared function_declared side trees_in word_of sort_meant is_reserved is_reserved_word shifted_formula shifted_term depth_of_formula depth_of_term depth_of_array varies variables_in hidden-the_row-Sexpr-0 hidden-the_row-Term-1 hidden-the_row-Formula-0 hidden
macro_under_a_binder = search (rules, formulas.the_lemmas, terms.the_lemmas)

--
empty_text : script_meant
    ([])
    ≡ Ok (record { sorts = []; functions = []; assertions = []; asks = false })
unfolding command_meant command_of label_of is_exit function_command constant_declared signature_declared term_read sort_declared function_declared side trees_in word_of sort_meant is_reserved is_reserved_word shifted_formula shifted_term depth_of_formula depth_of_term depth_of_array varies variables_in hidden-the_row-Sexpr-0 hidden-the_row-Term-1 hidden-the_row-Formula-0 hidden
empty_text = search (rules, formulas.the_lemmas, terms.the_lemmas)

-- (set-logic ALL)(set-info :status sat)(set-option)(get-model x)(get-info)(get-unsat-core)(echo 3)
passed_over : script_meant
    (form 0 15 (list (symbol (codes "set-logic") ∷ symbol (codes "ALL") ∷ []))
    ∷ form 15 37 (list (symbol (codes "set-info") ∷ keyword (codes "status") ∷ symbol (codes "sat") ∷ []))
    ∷ form 37 49 (list (symbol (codes "set-option") ∷ []))
    ∷ form 49 62 (list (symbol (codes "get-model") ∷ symbol (codes "x") ∷ []))
    ∷ form 62 72 (list (symbol (codes "get-info") ∷ []))
    ∷ form 72 88 (list (symbol (codes "get-unsat-core") ∷ []))
    ∷ form 88 96 (list (symbol (codes "echo") ∷ numeral (codes "3") ∷ []))
    ∷ [])
    ≡ Ok (record { sorts = []; functions = []; assertions = []; asks = false })
unfolding command_meant command_of label_of is_exit function_command constant_declared signature_declared term_read sort_declared function_declared side trees_in word_of sort_meant is_reserved is_reserved_word shifted_formula shifted_term depth_of_formula depth_of_term depth_of_array varies variables_in hidden-the_row-Sexpr-0 hidden-the_row-Term-1 hidden-the_row-Formula-0 hidden
passed_over = search (rules, formulas.the_lemmas, terms.the_lemmas)

-- (exit)(declare-sort S 1) p ()
nothing_counts_behind_exit : script_meant
    (form 0 6 (list (symbol (codes "exit") ∷ []))
    ∷ form 6 24 (list (symbol (codes "declare-sort") ∷ symbol (codes "S") ∷ numeral (codes "1") ∷ []))
    ∷ form 25 26 (symbol (codes "p"))
    ∷ form 27 29 (list ([]))
    ∷ [])
    ≡ Ok (record { sorts = []; functions = []; assertions = []; asks = false })
unfolding command_meant command_of label_of is_exit function_command constant_declared signature_declared term_read sort_declared function_declared side trees_in word_of sort_meant is_reserved is_reserved_word shifted_formula shifted_term depth_of_formula depth_of_term depth_of_array varies variables_in hidden-the_row-Sexpr-0 hidden-the_row-Term-1 hidden-the_row-Formula-0 hidden
nothing_counts_behind_exit = search (rules, formulas.the_lemmas, terms.the_lemmas)

-- (|assert| |true|)
quoted_words : script_meant
    (form 0 17 (list (symbol (codes "assert") ∷ symbol (codes "true") ∷ []))
    ∷ [])
    ≡ Ok (record { sorts = []; functions = []; assertions = assertion None (Truth true) ∷ []; asks = false })
unfolding command_meant command_of label_of is_exit function_command constant_declared signature_declared term_read sort_declared function_declared side trees_in word_of sort_meant is_reserved is_reserved_word shifted_formula shifted_term depth_of_formula depth_of_term depth_of_array varies variables_in hidden-the_row-Sexpr-0 hidden-the_row-Term-1 hidden-the_row-Formula-0 hidden
quoted_words = search (rules, formulas.the_lemmas, terms.the_lemmas)

-- (assert (! true :named let))(assert (! (! false :named b) :pattern (q) :named @c))(assert (and (! true :named d)))
labels_are_kept : script_meant
    (form 0 28 (list (symbol (codes "assert") ∷ list (symbol (codes "!") ∷ symbol (codes "true") ∷ keyword (codes "named") ∷ symbol (codes "let") ∷ []) ∷ []))
    ∷ form 28 82 (list (symbol (codes "assert") ∷ list (symbol (codes "!") ∷ list (symbol (codes "!") ∷ symbol (codes "false") ∷ keyword (codes "named") ∷ symbol (codes "b") ∷ []) ∷ keyword (codes "pattern") ∷ list (symbol (codes "q") ∷ []) ∷ keyword (codes "named") ∷ symbol (codes "@c") ∷ []) ∷ []))
    ∷ form 82 114 (list (symbol (codes "assert") ∷ list (symbol (codes "and") ∷ list (symbol (codes "!") ∷ symbol (codes "true") ∷ keyword (codes "named") ∷ symbol (codes "d") ∷ []) ∷ []) ∷ []))
    ∷ [])
    ≡ Ok (record { sorts = []; functions = []; assertions = assertion (Some (codes "let")) (Truth true) ∷ assertion (Some (codes "@c")) (Truth false) ∷ assertion None (Truth true) ∷ []; asks = false })
unfolding command_meant command_of label_of is_exit function_command constant_declared signature_declared term_read sort_declared function_declared side trees_in word_of sort_meant is_reserved is_reserved_word shifted_formula shifted_term depth_of_formula depth_of_term depth_of_array varies variables_in hidden-the_row-Sexpr-0 hidden-the_row-Term-1 hidden-the_row-Formula-0 hidden
labels_are_kept = search (rules, formulas.the_lemmas, terms.the_lemmas)

-- (assert (! true :named a))(assert (! false :named a))
label_twice : script_meant
    (form 0 26 (list (symbol (codes "assert") ∷ list (symbol (codes "!") ∷ symbol (codes "true") ∷ keyword (codes "named") ∷ symbol (codes "a") ∷ []) ∷ []))
    ∷ form 26 53 (list (symbol (codes "assert") ∷ list (symbol (codes "!") ∷ symbol (codes "false") ∷ keyword (codes "named") ∷ symbol (codes "a") ∷ []) ∷ []))
    ∷ [])
    ≡ Err (record { at = 26; kind = kind.Twice })
unfolding command_meant command_of label_of is_exit function_command constant_declared signature_declared term_read sort_declared function_declared side trees_in word_of sort_meant is_reserved is_reserved_word shifted_formula shifted_term depth_of_formula depth_of_term depth_of_array varies variables_in hidden-the_row-Sexpr-0 hidden-the_row-Term-1 hidden-the_row-Formula-0 hidden
label_twice = search (rules, formulas.the_lemmas, terms.the_lemmas)

-- (assert (! q :named a :named b))
two_labels : script_meant
    (form 0 32 (list (symbol (codes "assert") ∷ list (symbol (codes "!") ∷ symbol (codes "q") ∷ keyword (codes "named") ∷ symbol (codes "a") ∷ keyword (codes "named") ∷ symbol (codes "b") ∷ []) ∷ []))
    ∷ [])
    ≡ Err (record { at = 0; kind = kind.BadForm })
unfolding command_meant command_of label_of is_exit function_command constant_declared signature_declared term_read sort_declared function_declared side trees_in word_of sort_meant is_reserved is_reserved_word shifted_formula shifted_term depth_of_formula depth_of_term depth_of_array varies variables_in hidden-the_row-Sexpr-0 hidden-the_row-Term-1 hidden-the_row-Formula-0 hidden
two_labels = search (rules, formulas.the_lemmas, terms.the_lemmas)

-- (check-sat)(assert (! q :named 3))
label_without_a_symbol : script_meant
    (form 0 11 (list (symbol (codes "check-sat") ∷ []))
    ∷ form 11 34 (list (symbol (codes "assert") ∷ list (symbol (codes "!") ∷ symbol (codes "q") ∷ keyword (codes "named") ∷ numeral (codes "3") ∷ []) ∷ []))
    ∷ [])
    ≡ Err (record { at = 11; kind = kind.BadForm })
unfolding command_meant command_of label_of is_exit function_command constant_declared signature_declared term_read sort_declared function_declared side trees_in word_of sort_meant is_reserved is_reserved_word shifted_formula shifted_term depth_of_formula depth_of_term depth_of_array varies variables_in hidden-the_row-Sexpr-0 hidden-the_row-Term-1 hidden-the_row-Formula-0 hidden
label_without_a_symbol = search (rules, formulas.the_lemmas, terms.the_lemmas)

-- (assert (!))
nothing_is_annotated : script_meant
    (form 0 12 (list (symbol (codes "assert") ∷ list (symbol (codes "!") ∷ []) ∷ []))
    ∷ [])
    ≡ Err (record { at = 0; kind = kind.WrongCount })
unfolding command_meant command_of label_of is_exit function_command constant_declared signature_declared term_read sort_declared function_declared side trees_in word_of sort_meant is_reserved is_reserved_word shifted_formula shifted_term depth_of_formula depth_of_term depth_of_array varies variables_in hidden-the_row-Sexpr-0 hidden-the_row-Term-1 hidden-the_row-Formula-0 hidden
nothing_is_annotated = search (rules, formulas.the_lemmas, terms.the_lemmas)

-- (assert true true)
two_terms : script_meant
    (form 0 18 (list (symbol (codes "assert") ∷ symbol (codes "true") ∷ symbol (codes "true") ∷ []))
    ∷ [])
    ≡ Err (record { at = 0; kind = kind.BadForm })
unfolding command_meant command_of label_of is_exit function_command constant_declared signature_declared term_read sort_declared function_declared side trees_in word_of sort_meant is_reserved is_reserved_word shifted_formula shifted_term depth_of_formula depth_of_term depth_of_array varies variables_in hidden-the_row-Sexpr-0 hidden-the_row-Term-1 hidden-the_row-Formula-0 hidden
two_terms = search (rules, formulas.the_lemmas, terms.the_lemmas)

-- (assert 3)
term_of_another_sort : script_meant
    (form 0 10 (list (symbol (codes "assert") ∷ numeral (codes "3") ∷ []))
    ∷ [])
    ≡ Err (record { at = 0; kind = kind.WrongSort })
unfolding command_meant command_of label_of is_exit function_command constant_declared signature_declared term_read sort_declared function_declared side trees_in word_of sort_meant is_reserved is_reserved_word shifted_formula shifted_term depth_of_formula depth_of_term depth_of_array varies variables_in hidden-the_row-Sexpr-0 hidden-the_row-Term-1 hidden-the_row-Formula-0 hidden
term_of_another_sort = search (rules, formulas.the_lemmas, terms.the_lemmas)

-- (declare-sort S 0)(declare-sort S 0)
sort_twice : script_meant
    (form 0 18 (list (symbol (codes "declare-sort") ∷ symbol (codes "S") ∷ numeral (codes "0") ∷ []))
    ∷ form 18 36 (list (symbol (codes "declare-sort") ∷ symbol (codes "S") ∷ numeral (codes "0") ∷ []))
    ∷ [])
    ≡ Err (record { at = 18; kind = kind.Twice })
unfolding command_meant command_of label_of is_exit function_command constant_declared signature_declared term_read sort_declared function_declared side trees_in word_of sort_meant is_reserved is_reserved_word shifted_formula shifted_term depth_of_formula depth_of_term depth_of_array varies variables_in hidden-the_row-Sexpr-0 hidden-the_row-Term-1 hidden-the_row-Formula-0 hidden
sort_twice = search (rules, formulas.the_lemmas, terms.the_lemmas)

-- (declare-sort let 1)
sort_with_parameters : script_meant
    (form 0 20 (list (symbol (codes "declare-sort") ∷ symbol (codes "let") ∷ numeral (codes "1") ∷ []))
    ∷ [])
    ≡ Err (record { at = 0; kind = kind.Unsupported })
unfolding command_meant command_of label_of is_exit function_command constant_declared signature_declared term_read sort_declared function_declared side trees_in word_of sort_meant is_reserved is_reserved_word shifted_formula shifted_term depth_of_formula depth_of_term depth_of_array varies variables_in hidden-the_row-Sexpr-0 hidden-the_row-Term-1 hidden-the_row-Formula-0 hidden
sort_with_parameters = search (rules, formulas.the_lemmas, terms.the_lemmas)

-- (declare-sort let x)
sort_without_a_numeral : script_meant
    (form 0 20 (list (symbol (codes "declare-sort") ∷ symbol (codes "let") ∷ symbol (codes "x") ∷ []))
    ∷ [])
    ≡ Err (record { at = 0; kind = kind.BadForm })
unfolding command_meant command_of label_of is_exit function_command constant_declared signature_declared term_read sort_declared function_declared side trees_in word_of sort_meant is_reserved is_reserved_word shifted_formula shifted_term depth_of_formula depth_of_term depth_of_array varies variables_in hidden-the_row-Sexpr-0 hidden-the_row-Term-1 hidden-the_row-Formula-0 hidden
sort_without_a_numeral = search (rules, formulas.the_lemmas, terms.the_lemmas)

-- (declare-sort let 0)
reserved_sort : script_meant
    (form 0 20 (list (symbol (codes "declare-sort") ∷ symbol (codes "let") ∷ numeral (codes "0") ∷ []))
    ∷ [])
    ≡ Err (record { at = 0; kind = kind.ReservedName })
unfolding command_meant command_of label_of is_exit function_command constant_declared signature_declared term_read sort_declared function_declared side trees_in word_of sort_meant is_reserved is_reserved_word shifted_formula shifted_term depth_of_formula depth_of_term depth_of_array varies variables_in hidden-the_row-Sexpr-0 hidden-the_row-Term-1 hidden-the_row-Formula-0 hidden
reserved_sort = search (rules, formulas.the_lemmas, terms.the_lemmas)

-- (check-sat)(declare-sort let 0)
sort_behind_the_question : script_meant
    (form 0 11 (list (symbol (codes "check-sat") ∷ []))
    ∷ form 11 31 (list (symbol (codes "declare-sort") ∷ symbol (codes "let") ∷ numeral (codes "0") ∷ []))
    ∷ [])
    ≡ Err (record { at = 11; kind = kind.Unsupported })
unfolding command_meant command_of label_of is_exit function_command constant_declared signature_declared term_read sort_declared function_declared side trees_in word_of sort_meant is_reserved is_reserved_word shifted_formula shifted_term depth_of_formula depth_of_term depth_of_array varies variables_in hidden-the_row-Sexpr-0 hidden-the_row-Term-1 hidden-the_row-Formula-0 hidden
sort_behind_the_question = search (rules, formulas.the_lemmas, terms.the_lemmas)

-- (check-sat)(declare-const x Real)
constant_of_an_unknown_sort : script_meant
    (form 0 11 (list (symbol (codes "check-sat") ∷ []))
    ∷ form 11 33 (list (symbol (codes "declare-const") ∷ symbol (codes "x") ∷ symbol (codes "Real") ∷ []))
    ∷ [])
    ≡ Err (record { at = 11; kind = kind.UnknownName })
unfolding command_meant command_of label_of is_exit function_command constant_declared signature_declared term_read sort_declared function_declared side trees_in word_of sort_meant is_reserved is_reserved_word shifted_formula shifted_term depth_of_formula depth_of_term depth_of_array varies variables_in hidden-the_row-Sexpr-0 hidden-the_row-Term-1 hidden-the_row-Formula-0 hidden
constant_of_an_unknown_sort = search (rules, formulas.the_lemmas, terms.the_lemmas)

-- (check-sat)(declare-const let Int)
constant_behind_the_question : script_meant
    (form 0 11 (list (symbol (codes "check-sat") ∷ []))
    ∷ form 11 34 (list (symbol (codes "declare-const") ∷ symbol (codes "let") ∷ symbol (codes "Int") ∷ []))
    ∷ [])
    ≡ Err (record { at = 11; kind = kind.Unsupported })
unfolding command_meant command_of label_of is_exit function_command constant_declared signature_declared term_read sort_declared function_declared side trees_in word_of sort_meant is_reserved is_reserved_word shifted_formula shifted_term depth_of_formula depth_of_term depth_of_array varies variables_in hidden-the_row-Sexpr-0 hidden-the_row-Term-1 hidden-the_row-Formula-0 hidden
constant_behind_the_question = search (rules, formulas.the_lemmas, terms.the_lemmas)

-- (declare-fun f (Bool) Int)
function_of_a_truth : script_meant
    (form 0 26 (list (symbol (codes "declare-fun") ∷ symbol (codes "f") ∷ list (symbol (codes "Bool") ∷ []) ∷ symbol (codes "Int") ∷ []))
    ∷ [])
    ≡ Err (record { at = 0; kind = kind.Unsupported })
unfolding command_meant command_of label_of is_exit function_command constant_declared signature_declared term_read sort_declared function_declared side trees_in word_of sort_meant is_reserved is_reserved_word shifted_formula shifted_term depth_of_formula depth_of_term depth_of_array varies variables_in hidden-the_row-Sexpr-0 hidden-the_row-Term-1 hidden-the_row-Formula-0 hidden
function_of_a_truth = search (rules, formulas.the_lemmas, terms.the_lemmas)

-- (declare-fun f (Int A (B)) Int)
first_faulty_sort : script_meant
    (form 0 31 (list (symbol (codes "declare-fun") ∷ symbol (codes "f") ∷ list (symbol (codes "Int") ∷ symbol (codes "A") ∷ list (symbol (codes "B") ∷ []) ∷ []) ∷ symbol (codes "Int") ∷ []))
    ∷ [])
    ≡ Err (record { at = 0; kind = kind.UnknownName })
unfolding command_meant command_of label_of is_exit function_command constant_declared signature_declared term_read sort_declared function_declared side trees_in word_of sort_meant is_reserved is_reserved_word shifted_formula shifted_term depth_of_formula depth_of_term depth_of_array varies variables_in hidden-the_row-Sexpr-0 hidden-the_row-Term-1 hidden-the_row-Formula-0 hidden
first_faulty_sort = search (rules, formulas.the_lemmas, terms.the_lemmas)

-- (declare-fun f Int Int)
function_without_sorts : script_meant
    (form 0 23 (list (symbol (codes "declare-fun") ∷ symbol (codes "f") ∷ symbol (codes "Int") ∷ symbol (codes "Int") ∷ []))
    ∷ [])
    ≡ Err (record { at = 0; kind = kind.BadForm })
unfolding command_meant command_of label_of is_exit function_command constant_declared signature_declared term_read sort_declared function_declared side trees_in word_of sort_meant is_reserved is_reserved_word shifted_formula shifted_term depth_of_formula depth_of_term depth_of_array varies variables_in hidden-the_row-Sexpr-0 hidden-the_row-Term-1 hidden-the_row-Formula-0 hidden
function_without_sorts = search (rules, formulas.the_lemmas, terms.the_lemmas)

-- (check-sat)(define-fun g () Bool true)
definition_behind_the_question : script_meant
    (form 0 11 (list (symbol (codes "check-sat") ∷ []))
    ∷ form 11 38 (list (symbol (codes "define-fun") ∷ symbol (codes "g") ∷ list ([]) ∷ symbol (codes "Bool") ∷ symbol (codes "true") ∷ []))
    ∷ [])
    ≡ Err (record { at = 11; kind = kind.Unsupported })
unfolding command_meant command_of definition_behind definition_parts label_of is_exit function_command constant_declared signature_declared term_read sort_declared function_declared side trees_in word_of sort_meant is_reserved is_reserved_word shifted_formula shifted_term depth_of_formula depth_of_term depth_of_array varies variables_in hidden-the_row-Sexpr-0 hidden-the_row-Term-1 hidden-the_row-Formula-0 hidden
definition_behind_the_question = search (rules, formulas.the_lemmas, terms.the_lemmas)

-- (check-sat)(define-fun let () Bool true)
reserved_definition_behind_the_question : script_meant
    (form 0 11 (list (symbol (codes "check-sat") ∷ []))
    ∷ form 11 40 (list (symbol (codes "define-fun") ∷ symbol (codes "let") ∷ list ([]) ∷ symbol (codes "Bool") ∷ symbol (codes "true") ∷ []))
    ∷ [])
    ≡ Err (record { at = 11; kind = kind.Unsupported })
unfolding command_meant command_of definition_behind definition_parts label_of is_exit function_command constant_declared signature_declared term_read sort_declared function_declared side trees_in word_of sort_meant is_reserved is_reserved_word shifted_formula shifted_term depth_of_formula depth_of_term depth_of_array varies variables_in hidden-the_row-Sexpr-0 hidden-the_row-Term-1 hidden-the_row-Formula-0 hidden
reserved_definition_behind_the_question = search (rules, formulas.the_lemmas, terms.the_lemmas)

-- (check-sat)(assert true)
assertion_behind_the_question : script_meant
    (form 0 11 (list (symbol (codes "check-sat") ∷ []))
    ∷ form 11 24 (list (symbol (codes "assert") ∷ symbol (codes "true") ∷ []))
    ∷ [])
    ≡ Err (record { at = 11; kind = kind.Unsupported })
unfolding command_meant command_of label_of is_exit function_command constant_declared signature_declared term_read sort_declared function_declared side trees_in word_of sort_meant is_reserved is_reserved_word shifted_formula shifted_term depth_of_formula depth_of_term depth_of_array varies variables_in hidden-the_row-Sexpr-0 hidden-the_row-Term-1 hidden-the_row-Formula-0 hidden
assertion_behind_the_question = search (rules, formulas.the_lemmas, terms.the_lemmas)

-- (check-sat)(assert q)
faulty_assertion_behind_the_question : script_meant
    (form 0 11 (list (symbol (codes "check-sat") ∷ []))
    ∷ form 11 21 (list (symbol (codes "assert") ∷ symbol (codes "q") ∷ []))
    ∷ [])
    ≡ Err (record { at = 11; kind = kind.UnknownName })
unfolding command_meant command_of label_of is_exit function_command constant_declared signature_declared term_read sort_declared function_declared side trees_in word_of sort_meant is_reserved is_reserved_word shifted_formula shifted_term depth_of_formula depth_of_term depth_of_array varies variables_in hidden-the_row-Sexpr-0 hidden-the_row-Term-1 hidden-the_row-Formula-0 hidden
faulty_assertion_behind_the_question = search (rules, formulas.the_lemmas, terms.the_lemmas)

-- (check-sat) (check-sat)
second_question : script_meant
    (form 0 11 (list (symbol (codes "check-sat") ∷ []))
    ∷ form 12 23 (list (symbol (codes "check-sat") ∷ []))
    ∷ [])
    ≡ Err (record { at = 12; kind = kind.Unsupported })
unfolding command_meant command_of label_of is_exit function_command constant_declared signature_declared term_read sort_declared function_declared side trees_in word_of sort_meant is_reserved is_reserved_word shifted_formula shifted_term depth_of_formula depth_of_term depth_of_array varies variables_in hidden-the_row-Sexpr-0 hidden-the_row-Term-1 hidden-the_row-Formula-0 hidden
second_question = search (rules, formulas.the_lemmas, terms.the_lemmas)

-- (check-sat x)
question_of_something : script_meant
    (form 0 13 (list (symbol (codes "check-sat") ∷ symbol (codes "x") ∷ []))
    ∷ [])
    ≡ Err (record { at = 0; kind = kind.BadForm })
unfolding command_meant command_of label_of is_exit function_command constant_declared signature_declared term_read sort_declared function_declared side trees_in word_of sort_meant is_reserved is_reserved_word shifted_formula shifted_term depth_of_formula depth_of_term depth_of_array varies variables_in hidden-the_row-Sexpr-0 hidden-the_row-Term-1 hidden-the_row-Formula-0 hidden
question_of_something = search (rules, formulas.the_lemmas, terms.the_lemmas)

-- (exit 1)
exit_from_something : script_meant
    (form 0 8 (list (symbol (codes "exit") ∷ numeral (codes "1") ∷ []))
    ∷ [])
    ≡ Err (record { at = 0; kind = kind.BadForm })
unfolding command_meant command_of label_of is_exit function_command constant_declared signature_declared term_read sort_declared function_declared side trees_in word_of sort_meant is_reserved is_reserved_word shifted_formula shifted_term depth_of_formula depth_of_term depth_of_array varies variables_in hidden-the_row-Sexpr-0 hidden-the_row-Term-1 hidden-the_row-Formula-0 hidden
exit_from_something = search (rules, formulas.the_lemmas, terms.the_lemmas)

-- (get-model)(push 1)
command_left_out : script_meant
    (form 0 11 (list (symbol (codes "get-model") ∷ []))
    ∷ form 11 19 (list (symbol (codes "push") ∷ numeral (codes "1") ∷ []))
    ∷ [])
    ≡ Err (record { at = 11; kind = kind.Unsupported })
unfolding command_meant command_of label_of is_exit function_command constant_declared signature_declared term_read sort_declared function_declared side trees_in word_of sort_meant is_reserved is_reserved_word shifted_formula shifted_term depth_of_formula depth_of_term depth_of_array varies variables_in hidden-the_row-Sexpr-0 hidden-the_row-Term-1 hidden-the_row-Formula-0 hidden
command_left_out = search (rules, formulas.the_lemmas, terms.the_lemmas)

-- p
symbol_as_a_form : script_meant
    (form 0 1 (symbol (codes "p"))
    ∷ [])
    ≡ Err (record { at = 0; kind = kind.BadForm })
unfolding command_meant command_of label_of is_exit function_command constant_declared signature_declared term_read sort_declared function_declared side trees_in word_of sort_meant is_reserved is_reserved_word shifted_formula shifted_term depth_of_formula depth_of_term depth_of_array varies variables_in hidden-the_row-Sexpr-0 hidden-the_row-Term-1 hidden-the_row-Formula-0 hidden
symbol_as_a_form = search (rules, formulas.the_lemmas, terms.the_lemmas)

--  ()
empty_list : script_meant
    (form 1 3 (list ([]))
    ∷ [])
    ≡ Err (record { at = 1; kind = kind.BadForm })
unfolding command_meant command_of label_of is_exit function_command constant_declared signature_declared term_read sort_declared function_declared side trees_in word_of sort_meant is_reserved is_reserved_word shifted_formula shifted_term depth_of_formula depth_of_term depth_of_array varies variables_in hidden-the_row-Sexpr-0 hidden-the_row-Term-1 hidden-the_row-Formula-0 hidden
empty_list = search (rules, formulas.the_lemmas, terms.the_lemmas)

-- ((exit))
list_without_a_word : script_meant
    (form 0 8 (list (list (symbol (codes "exit") ∷ []) ∷ []))
    ∷ [])
    ≡ Err (record { at = 0; kind = kind.BadForm })
unfolding command_meant command_of label_of is_exit function_command constant_declared signature_declared term_read sort_declared function_declared side trees_in word_of sort_meant is_reserved is_reserved_word shifted_formula shifted_term depth_of_formula depth_of_term depth_of_array varies variables_in hidden-the_row-Sexpr-0 hidden-the_row-Term-1 hidden-the_row-Formula-0 hidden
list_without_a_word = search (rules, formulas.the_lemmas, terms.the_lemmas)

-- (assert (p
bracket_left_open : Refused (codes "(assert (p") (record { at = 0; kind = kind.Unclosed })
unfolding fault_from lexed_from front_of class_of is_symbol_byte
bracket_left_open = inl refl
