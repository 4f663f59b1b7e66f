-- The lines of a script's canonical text are those of its commands' S-expressions.
use Rattle.std.proofs.Common.{◌≡◌, ℕ, Bool, true, false, List, [], ◌∷◌, ◌++◌, map, Option, None, Some, All, codes, refl, ap, ◌∙◌, subst, append_assoc, length}
use Rattle.std.specs.List.{AllByRecursion, flat_map, list_all}
use Rattle.std.specs.Option.{IfSome}
use Rattle.std.proofs.lemmas.List.Concat.{flat_map-append}
use Rattle.std.proofs.lemmas.List.Elements.{recursion_from_All}
use Rattle.mbqi_terms.specs.declared.script.Assertion.{Assertion}
use Rattle.mbqi_terms.specs.declared.script.Function.{Function}
use Rattle.mbqi_terms.specs.declared.script.Script.{Script}
use Rattle.mbqi_terms.specs.declared.sort.Sort.{Sort}
use Rattle.mbqi_terms.specs.declared.sort.Sort.TheVariants as sort
use Rattle.script_text.specs.Text.{assertion_line, declared_text, function_line, labelled_text, question_line, rank_text, script_text, sort_line}
use Rattle.sexpr_text.specs.Bytes.{is_quoted_content, is_symbol_byte}
use Rattle.sexpr_text.specs.Depth.{IsShallow}
use Rattle.sexpr_text.specs.Forms.{HaveForms}
use Rattle.sexpr_text.specs.Front.{is_numeral}
use Rattle.sexpr_text.specs.Legal.{is_legal}
use Rattle.sexpr_text.specs.Text.{is_simple}
use Rattle.sexpr_text.specs.declared.tree.Form.{Form}
use Rattle.sexpr_text.specs.declared.tree.Sexpr.{Sexpr}
use Rattle.sexpr_text.specs.declared.tree.Sexpr.TheVariants as tree
use Rattle.sexpr_text.proofs.Legality.{legal-Keyword, legal-Numeral}
use Rattle.sexpr_text.proofs.Texts as written
use Rattle.smtlib_printer.specs.Names.{marks_of, name_text}
use Rattle.smtlib_printer.specs.Text.{formula_text_with, list_text, sort_text}
use Rattle.smtlib_printer.proofs.Pieces.{one_part, three_parts, two_parts}
use Rattle.mbqi_terms.specs.InForm.{IsRanked, IsResultSort, IsVariableSort}
use Rattle.smtlib_terms.specs.InForm.{IsAsserted, IsInForm, IsName}
use Rattle.printed_trees.specs.Names.{AreToldApart, HasFewVariables, HasSmallPlaces}
use Rattle.printed_trees.specs.Trees.{assertion_command, formula_tree, function_command, labelled_tree, question_commands, script_trees, sort_command, sort_tree}
use Rattle.printed_trees.proofs.Assertions.{told_apart}
use Rattle.printed_trees.proofs.Legal.{array_sort_legal, formula_legal, variable_sort_legal, word_legal}
use Rattle.printed_trees.proofs.Spelled.{array_sort_spelled, formula_spelled, variable_sort_spelled, word_spelled}
use Rattle.printed_trees.proofs.TextsRead.{AllTexts, IsTextOf, lines_read, lines_text, list_reads, name_reads, written_as}

-- words
word_reads : (w : List ℕ) → list_all is_symbol_byte w ≡ true → is_simple w ≡ true → IsTextOf w (tree.Symbol w)
word_reads w all simple = written_as w (tree.Symbol w) (word_legal w all) (word_spelled w simple)

declare_sort_reads : IsTextOf (codes "declare-sort") (tree.Symbol (codes "declare-sort"))
unfolding is_simple is_symbol_byte
declare_sort_reads = word_reads (codes "declare-sort") refl refl

declare_fun_reads : IsTextOf (codes "declare-fun") (tree.Symbol (codes "declare-fun"))
unfolding is_simple is_symbol_byte
declare_fun_reads = word_reads (codes "declare-fun") refl refl

assert_reads : IsTextOf (codes "assert") (tree.Symbol (codes "assert"))
unfolding is_simple is_symbol_byte
assert_reads = word_reads (codes "assert") refl refl

question_reads : IsTextOf (codes "check-sat") (tree.Symbol (codes "check-sat"))
unfolding is_simple is_symbol_byte
question_reads = word_reads (codes "check-sat") refl refl

annotated_reads : IsTextOf (codes "!") (tree.Symbol (codes "!"))
unfolding is_simple is_symbol_byte
annotated_reads = word_reads (codes "!") refl refl

zero_legal : is_legal (tree.Numeral (codes "0")) ≡ true
unfolding is_numeral
zero_legal = legal-Numeral (codes "0")

zero_reads : IsTextOf (codes "0") (tree.Numeral (codes "0"))
zero_reads = written_as (codes "0") (tree.Numeral (codes "0")) zero_legal (written.numeral_text (codes "0"))

named_legal : is_legal (tree.Keyword (codes "named")) ≡ true
unfolding is_symbol_byte
named_legal = legal-Keyword (codes "named")

named_reads : IsTextOf (codes ":named") (tree.Keyword (codes "named"))
named_reads = written_as (codes ":named") (tree.Keyword (codes "named")) named_legal (written.keyword_text (codes "named"))

-- the texts of commands
abbrev sort_text_of : List ℕ → List ℕ
sort_text_of name = list_text (codes "declare-sort" ∷ name_text name ∷ codes "0" ∷ [])

abbrev function_text_of : Script → Function → List ℕ
function_text_of script f = list_text (codes "declare-fun" ∷ name_text f.name ∷ list_text (map (sort_text script) f.args) ∷ sort_text script f.result ∷ [])

abbrev labelled_text_of : Option (List ℕ) → List ℕ → List ℕ
labelled_text_of None text = text
labelled_text_of (Some label) text = list_text (codes "!" ∷ text ∷ codes ":named" ∷ name_text label ∷ [])

abbrev assertion_text_of : Script → ℕ → Assertion → List ℕ
assertion_text_of script marks a = list_text (codes "assert" ∷ labelled_text_of a.label (formula_text_with script marks a.formula) ∷ [])

abbrev question_texts : Bool → List (List ℕ)
question_texts true = list_text (codes "check-sat" ∷ []) ∷ []
question_texts false = []

abbrev script_texts : Script → List (List ℕ)
script_texts script =
    map sort_text_of script.sorts
    ++ (map (function_text_of script) script.functions
    ++ (map (assertion_text_of script (marks_of script)) script.assertions
    ++ question_texts script.asks))

-- and their lines
sort_line_is : (name : List ℕ) → sort_text_of name ++ codes "\n" ≡ sort_line name
unfolding sort_line
sort_line_is name =
    ap (λ (text : List ℕ). text ++ codes "\n") (two_parts (codes "declare-sort") (name_text name) (codes "0"))
    ∙ ap (λ (more : List ℕ). codes "(declare-sort " ++ more) (append_assoc (name_text name) (codes " 0)") (codes "\n"))

rank_pieces : (n s a r c l : List ℕ) → (n ++ (s ++ (a ++ (s ++ (r ++ c))))) ++ l ≡ (n ++ (s ++ (a ++ (s ++ r)))) ++ (c ++ l)
rank_pieces n s a r c l = simp append_assoc

function_line_is : (script : Script) (f : Function) → function_text_of script f ++ codes "\n" ≡ function_line script f
unfolding function_line declared_text rank_text
function_line_is script f =
    ap (λ (text : List ℕ). text ++ codes "\n") (three_parts (codes "declare-fun") (name_text f.name) (list_text (map (sort_text script) f.args)) (sort_text script f.result))
    ∙ ap (λ (more : List ℕ). codes "(declare-fun " ++ more) (rank_pieces (name_text f.name) (codes " ") (list_text (map (sort_text script) f.args)) (sort_text script f.result) (codes ")") (codes "\n"))

labelled_is : (label : Option (List ℕ)) (text : List ℕ) → labelled_text_of label text ≡ labelled_text label text
unfolding labelled_text
labelled_is None text = refl
labelled_is (Some label) text = three_parts (codes "!") text (codes ":named") (name_text label)

assertion_line_is : (script : Script) (marks : ℕ) (a : Assertion) → assertion_text_of script marks a ++ codes "\n" ≡ assertion_line script marks a
unfolding assertion_line
assertion_line_is script marks a =
    let text = formula_text_with script marks a.formula in
    ap (λ (t : List ℕ). t ++ codes "\n") (one_part (codes "assert") (labelled_text_of a.label text))
    ∙ (ap (λ (more : List ℕ). codes "(assert " ++ more) (append_assoc (labelled_text_of a.label text) (codes ")") (codes "\n"))
    ∙ ap (λ (more : List ℕ). codes "(assert " ++ (more ++ codes ")\n")) (labelled_is a.label text))

question_is : (asks : Bool) → lines_text (question_texts asks) ≡ question_line asks
unfolding question_line
question_is true = refl
question_is false = refl

same_lines : {A : Type 0} (line : A → List ℕ) (text : A → List ℕ) (xs : List A) → ((x : A) → text x ++ codes "\n" ≡ line x) → lines_text (map text xs) ≡ flat_map line xs
same_lines line text [] is = refl
same_lines line text (x ∷ xs) is =
    ap (λ (first : List ℕ). first ++ lines_text (map text xs)) (is x) ∙ ap (λ (more : List ℕ). line x ++ more) (same_lines line text xs is)

lines_append : (xs ys : List (List ℕ)) → lines_text (xs ++ ys) ≡ lines_text xs ++ lines_text ys
lines_append xs ys = flat_map-append (λ text. text ++ codes "\n") xs ys

script_lines : (script : Script) → lines_text (script_texts script) ≡ script_text script
script_lines script =
    let sorts = map sort_text_of script.sorts in
    let functions = map (function_text_of script) script.functions in
    let assertions = map (assertion_text_of script (marks_of script)) script.assertions in
    lines_append sorts (functions ++ (assertions ++ question_texts script.asks))
    ∙ (ap (λ (first : List ℕ). first ++ lines_text (functions ++ (assertions ++ question_texts script.asks))) (same_lines sort_line sort_text_of script.sorts sort_line_is)
    ∙ ap (λ (more : List ℕ). flat_map sort_line script.sorts ++ more)
    (lines_append functions (assertions ++ question_texts script.asks)
    ∙ (ap (λ (first : List ℕ). first ++ lines_text (assertions ++ question_texts script.asks)) (same_lines (function_line script) (function_text_of script) script.functions (function_line_is script))
    ∙ ap (λ (more : List ℕ). flat_map (function_line script) script.functions ++ more)
    (lines_append assertions (question_texts script.asks)
    ∙ (ap (λ (first : List ℕ). first ++ lines_text (question_texts script.asks)) (same_lines (assertion_line script (marks_of script)) (assertion_text_of script (marks_of script)) script.assertions (assertion_line_is script (marks_of script)))
    ∙ ap (λ (more : List ℕ). flat_map (assertion_line script (marks_of script)) script.assertions ++ more) (question_is script.asks))))))

-- each text reads as its command
all_append : (xs ys : List (List ℕ)) (ts us : List Sexpr) → AllTexts xs ts → AllTexts ys us → AllTexts (xs ++ ys) (ts ++ us)
all_append [] ys [] us first second = second
all_append [] ys (t ∷ ts) us first second = absurd first
all_append (x ∷ xs) ys [] us first second = absurd first
all_append (x ∷ xs) ys (t ∷ ts) us first second = (first.0, all_append xs ys ts us first.1 second)

all_map : {A : Type 0} (P : A → Type 0) (text : A → List ℕ) (command : A → Sexpr) (xs : List A) → ((x : A) → P x → IsTextOf (text x) (command x)) → AllByRecursion P xs → AllTexts (map text xs) (map command xs)
all_map P text command [] reads all = tt
all_map P text command (x ∷ xs) reads all = (reads x all.0, all_map P text command xs reads all.1)

sort_reads : (script : Script) (marks : ℕ) → AreToldApart script marks → (s : Sort) → IsVariableSort (length script.sorts) s → IsTextOf (sort_text script s) (sort_tree script s)
sort_reads script marks told s is = written_as (sort_text script s) (sort_tree script s) (variable_sort_legal script marks s told is) (variable_sort_spelled script marks s told is)

bool_simple : is_simple (codes "Bool") ≡ true
unfolding is_simple is_symbol_byte
bool_simple = refl

bool_symbols : list_all is_symbol_byte (codes "Bool") ≡ true
unfolding is_symbol_byte
bool_symbols = refl

result_reads : (script : Script) (marks : ℕ) → AreToldApart script marks → (s : Sort) → IsResultSort (length script.sorts) s → IsTextOf (sort_text script s) (sort_tree script s)
result_reads script marks told sort.Truth is = word_reads (codes "Bool") bool_symbols bool_simple
result_reads script marks told sort.Int is = sort_reads script marks told sort.Int is
result_reads script marks told (sort.Elem s) is = sort_reads script marks told (sort.Elem s) is
result_reads script marks told (sort.Array i e) is =
    written_as (sort_text script (sort.Array i e)) (sort_tree script (sort.Array i e)) (array_sort_legal script marks i e told is.0 is.1) (array_sort_spelled script marks i e told is.0 is.1)

declaration_reads : (name : List ℕ) → IsName name → IsTextOf (sort_text_of name) (sort_command name)
declaration_reads name is =
    list_reads (codes "declare-sort" ∷ name_text name ∷ codes "0" ∷ []) (tree.Symbol (codes "declare-sort") ∷ tree.Symbol name ∷ tree.Numeral (codes "0") ∷ [])
    (declare_sort_reads, (name_reads name is.legal, (zero_reads, tt)))

pub record IsFunction (script : Script) (f : Function) : Type 0 where
  pub is_name : IsName f.name
  pub ranked : IsRanked (length script.sorts) f

function_reads : (script : Script) (marks : ℕ) → AreToldApart script marks → (f : Function) → IsFunction script f → IsTextOf (function_text_of script f) (function_command script f)
function_reads script marks told f is =
    let args = list_reads (map (sort_text script) f.args) (map (sort_tree script) f.args)
    (all_map (IsVariableSort (length script.sorts)) (sort_text script) (sort_tree script) f.args (sort_reads script marks told) (recursion_from_All (IsVariableSort (length script.sorts)) f.args is.ranked.args)) in
    list_reads (codes "declare-fun" ∷ name_text f.name ∷ list_text (map (sort_text script) f.args) ∷ sort_text script f.result ∷ [])
    (tree.Symbol (codes "declare-fun") ∷ tree.Symbol f.name ∷ tree.List (map (sort_tree script) f.args) ∷ sort_tree script f.result ∷ [])
    (declare_fun_reads, (name_reads f.name is.is_name.legal, (args, (result_reads script marks told f.result is.ranked.result, tt))))

labelled_reads : (label : Option (List ℕ)) (text : List ℕ) (t : Sexpr) → IfSome label (λ l. list_all is_quoted_content l ≡ true) → IsTextOf text t → IsTextOf (labelled_text_of label text) (labelled_tree label t)
labelled_reads None text t legal is = is
labelled_reads (Some label) text t legal is =
    list_reads (codes "!" ∷ text ∷ codes ":named" ∷ name_text label ∷ []) (tree.Symbol (codes "!") ∷ t ∷ tree.Keyword (codes "named") ∷ tree.Symbol label ∷ [])
    (annotated_reads, (is, (named_reads, (name_reads label legal, tt))))

-- an assertion in form whose variables have small places
pub record IsWritable (script : Script) (a : Assertion) : Type 0 where
  pub asserted : IsAsserted script a
  pub small : HasSmallPlaces 0 a.formula

assertion_reads : (script : Script) (marks : ℕ) → AreToldApart script marks → (a : Assertion) → IsWritable script a → IsTextOf (assertion_text_of script marks a) (assertion_command script marks a)
assertion_reads script marks told a is =
    let text = formula_text_with script marks a.formula in
    let t = formula_tree script marks a.formula in
    list_reads (codes "assert" ∷ labelled_text_of a.label text ∷ []) (tree.Symbol (codes "assert") ∷ labelled_tree a.label t ∷ []) (
      assert_reads,
      (
        labelled_reads a.label text t is.asserted.label
            (written_as text t (formula_legal script marks told [] tt 0 a.formula is.asserted.formula is.small) (formula_spelled script marks told [] tt 0 a.formula is.asserted.formula is.small)),
        tt,
      ),
    )

questions_read : (asks : Bool) → AllTexts (question_texts asks) (question_commands asks)
questions_read true = (list_reads (codes "check-sat" ∷ []) (tree.Symbol (codes "check-sat") ∷ []) (question_reads, tt), tt)
questions_read false = tt

functions_are : (script : Script) (fs : List Function) → AllByRecursion IsName (map (λ (f : Function). f.name) fs) → AllByRecursion (IsRanked (length script.sorts)) fs → AllByRecursion (IsFunction script) fs
functions_are script [] names ranks = tt
functions_are script (f ∷ fs) names ranks = (record { is_name = names.0; ranked = ranks.0 }, functions_are script fs names.1 ranks.1)

pub assertions_are : (script : Script) → IsInForm script → HasFewVariables script → All (IsWritable script) script.assertions
assertions_are script form few i d within = record { asserted = form.asserted i d within; small = few i d within }

pub script_reads : (script : Script) → IsInForm script → HasFewVariables script → AllTexts (script_texts script) (script_trees script)
script_reads script form few =
    let told = told_apart script form.named in
    let marks = marks_of script in
    all_append _ _ _ _ (all_map IsName sort_text_of sort_command script.sorts declaration_reads (recursion_from_All IsName script.sorts form.named.sorts))
    (all_append _ _ _ _ (all_map (IsFunction script) (function_text_of script) (function_command script) script.functions (function_reads script marks told)
    (functions_are script script.functions (recursion_from_All IsName _ form.named.functions) (recursion_from_All (IsRanked (length script.sorts)) script.functions form.ranked)))
    (all_append _ _ _ _ (all_map (IsWritable script) (assertion_text_of script marks) (assertion_command script marks) script.assertions (assertion_reads script marks told) (recursion_from_All (IsWritable script) script.assertions (assertions_are script form few)))
    (questions_read script.asks)))

-- the text of a script has its commands as its forms
pub script_forms : (script : Script) → IsInForm script → HasFewVariables script → All IsShallow (script_trees script) → (forms : List Form) × HaveForms (script_text script) forms × (map (λ (form : Form). form.tree) forms ≡ script_trees script)
script_forms script form few shallow =
    let read = lines_read (script_texts script) (script_trees script) (script_reads script form few) (recursion_from_All IsShallow (script_trees script) shallow) in
    (read.0, subst (λ (bytes : List ℕ). HaveForms bytes read.0) (script_lines script) read.1, read.2)
