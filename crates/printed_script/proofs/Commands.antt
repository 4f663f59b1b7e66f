-- The commands of a script in form give the script.
use Rattle.std.proofs.Common.{◌≡◌, ℕ, ◌≤◌, Bool, true, false, cond, List, [], ◌∷◌, ◌++◌, map, Option, None, Some, All, Result, Ok, Err, codes, refl, sym, ap, ◌∙◌, subst, append_assoc, append-nil, length}
use Rattle.std.specs.List.{AllByRecursion}
use Rattle.std.proofs.lemmas.List.Elements.{recursion_from_All}
use Rattle.mbqi_values.specs.declared.fault.FaultKind.{FaultKind}
use Rattle.mbqi_values.specs.declared.fault.FaultKind.TheVariants.{BadForm, Twice}
use Rattle.mbqi_terms.specs.Distinct.{AreDistinct}
use Rattle.mbqi_terms.specs.declared.formula.Formula.{Formula}
use Rattle.mbqi_terms.specs.declared.script.Assertion.{Assertion}
use Rattle.mbqi_terms.specs.declared.script.Function.{Function}
use Rattle.mbqi_terms.specs.declared.script.Script.{Script}
use Rattle.mbqi_terms.specs.declared.sort.Sort.{Sort}
use Rattle.sexpr_text.specs.Depth.{IsShallow}
use Rattle.sexpr_text.specs.declared.tree.Form.{Form}
use Rattle.sexpr_text.specs.declared.tree.Sexpr.{Sexpr}
use Rattle.sexpr_text.specs.declared.tree.Sexpr.TheBlock.{hidden-the_row-Sexpr-0}
use Rattle.sexpr_text.specs.declared.tree.Sexpr.TheVariants as tree
use denote.Hole.Carrier.{hidden}
use Rattle.script_text.specs.Text.{script_text}
use Rattle.smtlib_decls.specs.Commands as commands
use Rattle.smtlib_decls.specs.Commands.{asserted, by_command, command_meant, command_of, headed, renamed, signature_declared, with_assertion}
use Rattle.smtlib_decls.specs.Means.{Means}
use Rattle.smtlib_decls.specs.Scripts.{behind_form, is_exit, is_exit_word, nothing, script_from, script_of}
use Rattle.smtlib_decls.specs.declared.command.Command.{Command}
use Rattle.smtlib_decls.specs.declared.command.Command.TheVariants as command
use Rattle.smtlib_decls.specs.declared.progress.Progress.{Progress}
use Rattle.smtlib_printer.specs.Names.{marks_of}
use Rattle.smtlib_terms.specs.declared.meaning.Meaning.{Meaning}
use Rattle.smtlib_terms.specs.declared.meaning.Meaning.TheVariants as meaning
use Rattle.smtlib_terms.specs.declared.word.Word.TheVariants as word
use Rattle.smtlib_terms.specs.declared.meaning.Side.{Side}
use Rattle.mbqi_terms.specs.Depth.{depth_of_formula}
use Rattle.smtlib_terms.specs.Declaring.{declarations_of, sort_read, term_read}
use Rattle.smtlib_terms.specs.Names.{◌>>=◌}
use Rattle.smtlib_terms.specs.Operators.{meant, plainly}
use Rattle.smtlib_terms.specs.Reading.{is_list, trees_in}
use Rattle.smtlib_terms.specs.Words.{word_of}
use Rattle.smtlib_terms.proofs.TermTrees.{trees_in-List}
use Rattle.mbqi_terms.specs.InForm.{DifferInLabels, IsRanked, IsVariableSort, function_names}
use Rattle.smtlib_terms.specs.InForm.{IsInForm, IsName}
use Rattle.printed_trees.specs.Names.{AreToldApart, HasFewVariables, signature_of}
use Rattle.printed_trees.proofs.ReadParts.{word_means}
use Rattle.printed_trees.specs.Means as tree_means
use Rattle.printed_trees.specs.Trees.{assertion_command, formula_tree, function_command, labelled_tree, question_commands, script_trees, sort_command, sort_tree, word_tree}
use Rattle.printed_trees.proofs.Assertions.{closed_as, told_apart}
use Rattle.printed_trees.proofs.ReadFormulas.{formula_means}
use Rattle.printed_trees.proofs.ScriptTexts.{IsWritable, assertions_are, script_forms}
use Rattle.printed_script.proofs.Declarations.{args_mean, function_is_new, result_means, sort_is_new}
use Rattle.printed_script.proofs.Labels.{label_is, not_taken}

-- several commands, one behind the other
abbrev taken : Progress → List Sexpr → Result Progress FaultKind
taken p [] = Ok p
taken p (t ∷ ts) = command_meant p t >>= (λ (q : Progress). taken q ts)

append_step : (ts us : List Sexpr) (q : Progress) (r : Result Progress FaultKind) → ((o : Progress) → taken o ts ≡ Ok q → taken o (ts ++ us) ≡ taken q us) →
    (r >>= (λ (o : Progress). taken o ts)) ≡ Ok q → (r >>= (λ (o : Progress). taken o (ts ++ us))) ≡ taken q us
append_step ts us q (Ok o) later e = later o e
append_step ts us q (Err kind) later e = cc

taken_append : (ts us : List Sexpr) (p q : Progress) → taken p ts ≡ Ok q → taken p (ts ++ us) ≡ taken q us
taken_append [] us p q e = ap (λ (r : Result Progress FaultKind). r >>= (λ (o : Progress). taken o us)) e
taken_append (t ∷ ts) us p q e = append_step ts us q (command_meant p t) (λ o f. taken_append ts us o q f) e

taken_more : (t : Sexpr) (ts : List Sexpr) (p q : Progress) → command_meant p t ≡ Ok q → taken p (t ∷ ts) ≡ taken q ts
taken_more t ts p q e = ap (λ (r : Result Progress FaultKind). r >>= (λ (o : Progress). taken o ts)) e

-- a list by the word of its command
command_by : (p : Progress) (w : List ℕ) (k : Command) (parts : List Sexpr) → command_of w ≡ k → command_meant p (tree.List (word_tree w ∷ parts)) ≡ by_command k p (tree.List (word_tree w ∷ parts)) parts
unfolding command_meant
command_by p w k parts e =
    let t = tree.List (word_tree w ∷ parts) in
    ap (headed p t) (trees_in-List (word_tree w ∷ parts)) ∙ ap (λ (c : Command). by_command c p t parts) e

is_list-List : (items : List Sexpr) → is_list (tree.List items) ≡ true
unfolding hidden-the_row-Sexpr-0 hidden
is_list-List items = refl

declare_sort_command : command_of (codes "declare-sort") ≡ command.DeclareSort
unfolding command_of
declare_sort_command = refl

declare_fun_command : command_of (codes "declare-fun") ≡ command.DeclareFun
unfolding command_of
declare_fun_command = refl

assert_is_command : command_of (codes "assert") ≡ command.Assert
unfolding command_of
assert_is_command = refl

question_command : command_of (codes "check-sat") ≡ command.CheckSat
unfolding command_of
question_command = refl

-- sorts
abbrev sorts_done : List (List ℕ) → Progress
sorts_done done = record { names = record { sorts = done; functions = []; macros = [] }; assertions = []; asks = false }

one_sort : (done : List (List ℕ)) (name : List ℕ) (rest : List (List ℕ)) → IsName name → AreDistinct (done ++ name ∷ rest) → command_meant (sorts_done done) (sort_command name) ≡ Ok (sorts_done (done ++ name ∷ []))
one_sort done name rest is distinct =
    command_by (sorts_done done) (codes "declare-sort") command.DeclareSort (tree.Symbol name ∷ tree.Numeral (codes "0") ∷ []) declare_sort_command
    ∙ ap (renamed (sorts_done done)) (sort_is_new (record { sorts = done; functions = []; macros = [] }) name rest is distinct)

all_sorts : (done rest : List (List ℕ)) → AllByRecursion IsName rest → AreDistinct (done ++ rest) → taken (sorts_done done) (map sort_command rest) ≡ Ok (sorts_done (done ++ rest))
all_sorts done [] names distinct = ap (λ (all : List (List ℕ)). Ok (sorts_done all)) (sym (append-nil done))
all_sorts done (name ∷ rest) names distinct =
    let moved : (done ++ name ∷ []) ++ rest ≡ done ++ name ∷ rest = append_assoc done (name ∷ []) rest in
    taken_more (sort_command name) (map sort_command rest) (sorts_done done) (sorts_done (done ++ name ∷ [])) (one_sort done name rest names.0 distinct)
    ∙ (all_sorts (done ++ name ∷ []) rest names.1 (subst AreDistinct (sym moved) distinct)
    ∙ ap (λ (all : List (List ℕ)). Ok (sorts_done all)) moved)

-- functions
abbrev functions_done : Script → List Function → Progress
functions_done script done = record { names = record { sorts = script.sorts; functions = done; macros = [] }; assertions = []; asks = false }

one_function : (script : Script) (done : List Function) (f : Function) (rest : List Function) → AreToldApart script (marks_of script) → IsName f.name → IsRanked (length script.sorts) f → AreDistinct (map (λ (f : Function). f.name) (done ++ f ∷ rest)) →
    command_meant (functions_done script done) (function_command script f) ≡ Ok (functions_done script (done ++ f ∷ []))
unfolding signature_declared commands.function_command
one_function script done f rest told is ranked distinct =
    let p = functions_done script done in
    let args = map (sort_tree script) f.args in
    let each = recursion_from_All (IsVariableSort (length script.sorts)) f.args ranked.args in
    command_by p (codes "declare-fun") command.DeclareFun (tree.Symbol f.name ∷ tree.List args ∷ sort_tree script f.result ∷ []) declare_fun_command
    ∙ (ap (λ (b : Bool). cond b (signature_declared p f.name (trees_in (tree.List args)) (sort_tree script f.result)) (Err BadForm)) (is_list-List args)
    ∙ (ap (λ (ts : List Sexpr). signature_declared p f.name ts (sort_tree script f.result)) (trees_in-List args)
    ∙ (ap (λ (r : Result (List Sort) FaultKind). r >>= (λ (ss : List Sort). sort_read p.names (sort_tree script f.result) >>= (λ (s : Sort). commands.function_command p f.name ss s))) (args_mean script (marks_of script) p.names f.args told refl each)
    ∙ (ap (λ (r : Result Sort FaultKind). r >>= (λ (s : Sort). commands.function_command p f.name f.args s)) (result_means script (marks_of script) f.result told ranked.result)
    ∙ ap (renamed p) (function_is_new script script.sorts done f rest is ranked each distinct)))))

all_functions : (script : Script) (done rest : List Function) → AreToldApart script (marks_of script) → AllByRecursion IsName (map (λ (f : Function). f.name) rest) → AllByRecursion (IsRanked (length script.sorts)) rest → AreDistinct (map (λ (f : Function). f.name) (done ++ rest)) →
    taken (functions_done script done) (map (function_command script) rest) ≡ Ok (functions_done script (done ++ rest))
all_functions script done [] told names ranks distinct = ap (λ (all : List Function). Ok (functions_done script all)) (sym (append-nil done))
all_functions script done (f ∷ rest) told names ranks distinct =
    let moved : (done ++ f ∷ []) ++ rest ≡ done ++ f ∷ rest = append_assoc done (f ∷ []) rest in
    taken_more (function_command script f) (map (function_command script) rest) (functions_done script done) (functions_done script (done ++ f ∷ [])) (one_function script done f rest told names.0 ranks.0 distinct)
    ∙ (all_functions script (done ++ f ∷ []) rest told names.1 ranks.1 (subst (λ (all : List Function). AreDistinct (map (λ (f : Function). f.name) all)) (sym moved) distinct)
    ∙ ap (λ (all : List Function). Ok (functions_done script all)) moved)

-- assertions
abbrev asserted_done : Script → List Assertion → Progress
asserted_done script done = record { names = declarations_of script; assertions = done; asks = false }

annotated_word : word_of (codes "!") ≡ word.Annotated
unfolding word_of
annotated_word = refl

labelled_means : (script : Script) (label : Option (List ℕ)) (t : Sexpr) (f : Formula) → tree_means.Means t (signature_of script) [] 0 (meaning.Formula f) → depth_of_formula f ≤ 1000 → tree_means.Means (labelled_tree label t) (signature_of script) [] 0 (meaning.Formula f)
labelled_means script None t f is deep = is
labelled_means script (Some label) t f is deep =
    word_means (codes "!") word.Annotated (t ∷ tree.Keyword (codes "named") ∷ tree.Symbol label ∷ []) (signature_of script) [] 0 (meaning.Formula f) annotated_word
    (ap (λ (r : Result Side FaultKind). meant (r >>= plainly)) is) deep

one_assertion : (script : Script) (done : List Assertion) (a : Assertion) (rest : List Assertion) → AreToldApart script (marks_of script) → IsWritable script a → DifferInLabels (done ++ a ∷ rest) →
    command_meant (asserted_done script done) (assertion_command script (marks_of script) a) ≡ Ok (asserted_done script (done ++ a ∷ []))
one_assertion script done a rest told is differ =
    let p = asserted_done script done in
    let marks = marks_of script in
    let t = labelled_tree a.label (formula_tree script marks a.formula) in
    let read = closed_as script t (meaning.Formula a.formula) (labelled_means script a.label (formula_tree script marks a.formula) a.formula (formula_means script marks told [] tt 0 a.formula is.asserted.formula is.small is.asserted.depth) is.asserted.depth) in
    command_by p (codes "assert") command.Assert (t ∷ []) assert_is_command
    ∙ (ap (λ (r : Result (Option (List ℕ)) FaultKind). r >>= (λ (label : Option (List ℕ)). term_read p.names t >>= asserted p label)) (label_is script marks told a.label a.formula is.asserted.formula)
    ∙ (ap (λ (r : Result Meaning FaultKind). r >>= asserted p a.label) read
    ∙ ap (λ (b : Bool). cond b (Err Twice) (Ok (with_assertion p a.label a.formula))) (not_taken done a rest differ)))

all_assertions : (script : Script) (done rest : List Assertion) → AreToldApart script (marks_of script) → AllByRecursion (IsWritable script) rest → DifferInLabels (done ++ rest) →
    taken (asserted_done script done) (map (assertion_command script (marks_of script)) rest) ≡ Ok (asserted_done script (done ++ rest))
all_assertions script done [] told all differ = ap (λ (as' : List Assertion). Ok (asserted_done script as')) (sym (append-nil done))
all_assertions script done (a ∷ rest) told all differ =
    let moved : (done ++ a ∷ []) ++ rest ≡ done ++ a ∷ rest = append_assoc done (a ∷ []) rest in
    taken_more (assertion_command script (marks_of script) a) (map (assertion_command script (marks_of script)) rest) (asserted_done script done) (asserted_done script (done ++ a ∷ [])) (one_assertion script done a rest told all.0 differ)
    ∙ (all_assertions script (done ++ a ∷ []) rest told all.1 (subst DifferInLabels (sym moved) differ)
    ∙ ap (λ (as' : List Assertion). Ok (asserted_done script as')) moved)

-- the question
abbrev whole : Script → Progress
whole script = record { names = declarations_of script; assertions = script.assertions; asks = script.asks }

question_taken : (script : Script) (asks : Bool) → taken (asserted_done script script.assertions) (question_commands asks) ≡ Ok (record { names = declarations_of script; assertions = script.assertions; asks = asks })
question_taken script false = refl
question_taken script true =
    taken_more (tree.List (word_tree (codes "check-sat") ∷ [])) [] (asserted_done script script.assertions) (record { names = declarations_of script; assertions = script.assertions; asks = true })
    (command_by (asserted_done script script.assertions) (codes "check-sat") command.CheckSat [] question_command)

all_taken : (script : Script) → IsInForm script → HasFewVariables script → taken nothing (script_trees script) ≡ Ok (whole script)
all_taken script form few =
    let told = told_apart script form.named in
    let assertions = map (assertion_command script (marks_of script)) script.assertions in
    let functions = map (function_command script) script.functions in
    taken_append (map sort_command script.sorts) (functions ++ (assertions ++ question_commands script.asks)) nothing (sorts_done script.sorts)
    (all_sorts [] script.sorts (recursion_from_All IsName script.sorts form.named.sorts) form.named.sorts_differ)
    ∙ (taken_append functions (assertions ++ question_commands script.asks) (functions_done script []) (functions_done script script.functions)
    (all_functions script [] script.functions told (recursion_from_All IsName (function_names script) form.named.functions) (recursion_from_All (IsRanked (length script.sorts)) script.functions form.ranked) form.named.functions_differ)
    ∙ (taken_append assertions (question_commands script.asks) (asserted_done script []) (asserted_done script script.assertions)
    (all_assertions script [] script.assertions told (recursion_from_All (IsWritable script) script.assertions (assertions_are script form few)) form.labels)
    ∙ question_taken script script.asks))

-- no command is an exit
exit_list : (items : List Sexpr) → is_exit (tree.List items) ≡ is_exit_word items
unfolding is_exit
exit_list items = ap is_exit_word (trees_in-List items)

abbrev IsNoExit : Sexpr → Type 0
IsNoExit t = is_exit t ≡ false

each_no_exit : {A : Type 0} (command : A → Sexpr) (xs : List A) (more : List Sexpr) → ((x : A) → IsNoExit (command x)) → AllByRecursion IsNoExit more → AllByRecursion IsNoExit (map command xs ++ more)
each_no_exit command [] more is rest = rest
each_no_exit command (x ∷ xs) more is rest = (is x, each_no_exit command xs more is rest)

questions_no_exit : (asks : Bool) → AllByRecursion IsNoExit (question_commands asks)
questions_no_exit true = (exit_list (word_tree (codes "check-sat") ∷ []), tt)
questions_no_exit false = tt

none_exits : (script : Script) → AllByRecursion IsNoExit (script_trees script)
none_exits script =
    each_no_exit sort_command script.sorts _ (λ name. exit_list _)
    (each_no_exit (function_command script) script.functions _ (λ f. exit_list _)
    (each_no_exit (assertion_command script (marks_of script)) script.assertions _ (λ a. exit_list _)
    (questions_no_exit script.asks)))

-- forms whose trees are taken
forms_step : (form : Form) (forms : List Form) (p q : Progress) (r : Result Progress FaultKind) → is_exit form.tree ≡ false → command_meant p form.tree ≡ r → (r >>= (λ (o : Progress). taken o (map (λ (f : Form). f.tree) forms))) ≡ Ok q →
    ((o : Progress) → taken o (map (λ (f : Form). f.tree) forms) ≡ Ok q → script_from o forms ≡ Ok (script_of q)) → script_from p (form ∷ forms) ≡ Ok (script_of q)
forms_step form forms p q (Ok o) go_on is e later =
    ap (λ (b : Bool). cond b (Ok (script_of p)) (behind_form form.from (command_meant p form.tree) (λ (next : Progress). script_from next forms))) go_on
    ∙ (ap (λ (s : Result Progress FaultKind). behind_form form.from s (λ (next : Progress). script_from next forms)) is ∙ later o e)
forms_step form forms p q (Err kind) go_on is e later = cc

forms_from : (forms : List Form) (p q : Progress) → AllByRecursion IsNoExit (map (λ (f : Form). f.tree) forms) → taken p (map (λ (f : Form). f.tree) forms) ≡ Ok q → script_from p forms ≡ Ok (script_of q)
forms_from [] p q none e = let same : p ≡ q = cc in ap (λ (o : Progress). Ok (script_of o)) same
forms_from (form ∷ forms) p q none e =
    forms_step form forms p q (command_meant p form.tree) none.0 refl e (λ o f. forms_from forms o q none.1 f)

pub text_means : (script : Script) → IsInForm script → HasFewVariables script → All IsShallow (script_trees script) → Means (script_text script) script
text_means script form few shallow =
    let read = script_forms script form few shallow in (
      read.0,
      read.1,
      forms_from read.0 nothing (whole script) (subst (AllByRecursion IsNoExit) (sym read.2) (none_exits script))
          (ap (taken nothing) read.2 ∙ all_taken script form few),
    )
