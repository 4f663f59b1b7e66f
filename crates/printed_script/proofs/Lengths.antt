-- A formula has no more variables than its canonical text has bytes, and neither has one in the text of a script.
use Rattle.std.proofs.Common.{◌≡◌, ◌≤◌, ℕ, ◌+◌, ◌^◌, List, [], ◌∷◌, ◌++◌, length, map, sum, codes, Option, None, Some, ap, arith, get_or, length-append}
use Rattle.std.specs.List.{AllByRecursion, flat_map}
use Rattle.std.proofs.lemmas.List.Elements.{All-from_recursion}
use Rattle.std.proofs.lemmas.List.Sums.{sum_by-cons}
use Rattle.mbqi_terms.specs.declared.formula.Formula.{Formula}
use Rattle.mbqi_terms.specs.declared.script.Assertion.{Assertion}
use Rattle.mbqi_terms.specs.declared.script.Script.{Script}
use Rattle.mbqi_terms.specs.declared.sort.Binder.{Binder}
use Rattle.script_text.specs.Text.{assertion_line, function_line, labelled_text, question_line, script_text, sort_line}
use Rattle.smtlib_printer.specs.Names.{marks_of, name_text, variable_text}
use Rattle.smtlib_printer.specs.Text.{binder_text, binders_text, formula_text_with, list_text, sort_text, spaced, spaced_rest}
use Rattle.mbqi_terms.specs.Binders.{variables_in}
use Rattle.measured_terms.proofs.FormulaLaws as measure
use Rattle.printed_trees.proofs.TextLaws as text_law
use Rattle.mbqi_terms.specs.InForm.{AreAllPlaced, IsPlaced}
use Rattle.printed_trees.specs.Names.{HasFewVariables}
use Rattle.smtlib_terms.specs.InForm.{AreFormulas, IsFormula, IsInForm}

-- the bytes of several texts
abbrev total : List (List ℕ) → ℕ
total texts = sum (map length texts)

total_more : (text : List ℕ) (texts : List (List ℕ)) → total (text ∷ texts) ≡ length text + total texts
total_more text texts = sum_by-cons (λ x. x) (length text) (map length texts)

rest_length : (texts : List (List ℕ)) → total texts ≤ length (spaced_rest texts)
rest_length [] = omega arith
rest_length (text ∷ texts) =
    let later = rest_length texts in
    let more = total_more text texts in
    let whole = length-append (codes " " ++ text) (spaced_rest texts) in
    omega arith

spaced_length : (texts : List (List ℕ)) → total texts ≤ length (spaced texts)
spaced_length [] = omega arith
spaced_length (text ∷ texts) =
    let later = rest_length texts in
    let more = total_more text texts in
    let whole = length-append text (spaced_rest texts) in
    omega arith

list_length : (texts : List (List ℕ)) → total texts + 2 ≤ length (list_text texts)
list_length texts =
    let inside = spaced_length texts in
    let whole = length-append (spaced texts) (codes ")") in
    omega arith

-- binders
binder_length : (script : Script) (marks : ℕ) (b : Binder) → 1 ≤ length (binder_text script marks b)
binder_length script marks b = let whole = list_length (variable_text marks b.place ∷ sort_text script b.sort ∷ []) in omega arith

binders_total : (script : Script) (marks : ℕ) (bs : List Binder) → length bs ≤ total (map (binder_text script marks) bs)
binders_total script marks [] = omega arith
binders_total script marks (b ∷ bs) =
    let first = binder_length script marks b in
    let rest = binders_total script marks bs in
    let more = total_more (binder_text script marks b) (map (binder_text script marks) bs) in
    omega arith

binders_length : (script : Script) (marks : ℕ) (bs : List Binder) → length bs ≤ length (binders_text script marks bs)
binders_length script marks bs =
    let all = binders_total script marks bs in
    let whole = list_length (map (binder_text script marks) bs) in
    omega arith

-- a word with one text, two, and three
one_part : (word part : List ℕ) → length part ≤ length (list_text (word ∷ part ∷ []))
one_part word part =
    let whole = list_length (word ∷ part ∷ []) in
    let first = total_more word (part ∷ []) in
    let second = total_more part [] in
    omega arith

two_parts : (word part other : List ℕ) → length part + length other ≤ length (list_text (word ∷ part ∷ other ∷ []))
two_parts word part other =
    let whole = list_length (word ∷ part ∷ other ∷ []) in
    let first = total_more word (part ∷ other ∷ []) in
    let second = total_more part (other ∷ []) in
    let third = total_more other [] in
    omega arith

three_parts : (word part other last : List ℕ) → length part + (length other + length last) ≤ length (list_text (word ∷ part ∷ other ∷ last ∷ []))
three_parts word part other last =
    let whole = list_length (word ∷ part ∷ other ∷ last ∷ []) in
    let first = total_more word (part ∷ other ∷ last ∷ []) in
    let second = total_more part (other ∷ last ∷ []) in
    let third = total_more other (last ∷ []) in
    let fourth = total_more last [] in
    omega arith

many_parts : (word : List ℕ) (parts : List (List ℕ)) → total parts ≤ length (list_text (word ∷ parts))
many_parts word parts =
    let whole = list_length (word ∷ parts) in
    let first = total_more word parts in
    omega arith

at_text : (n : ℕ) (text other : List ℕ) → text ≡ other → n ≤ length other → n ≤ length text
at_text n text other same within = let e : length text ≡ length other = ap (λ (t : List ℕ). length t) same in omega arith

-- formulas
module _ (script : Script) where
  mutual
    pub formula_length : (marks : ℕ) (scope : List Binder) (next : ℕ) (f : Formula) → IsFormula script scope next f → variables_in f ≤ length (formula_text_with script marks f)
    formula_length marks scope next f (IsPlaced.truth sc n b) = let count = measure.variables-Truth b in omega arith
    formula_length marks scope next f (IsPlaced.atom sc n t h) = let count = measure.variables-Atom t in omega arith
    formula_length marks scope next f (IsPlaced.equal sc n s t e index g h) = let count = measure.variables-Equal s t in omega arith
    formula_length marks scope next f (IsPlaced.at_most sc n s t g h) = let count = measure.variables-AtMost s t in omega arith
    formula_length marks scope next f (IsPlaced.same sc n a b i e g h) = let count = measure.variables-SameArray a b in omega arith
    formula_length marks scope next f (IsPlaced.negation sc n g h) =
        let count = measure.variables-Not g in
        let inner = formula_length marks sc n g h in
        let whole = one_part (codes "not") (formula_text_with script marks g) in
        at_text (variables_in f) (formula_text_with script marks f) _ (text_law.formula-Not script marks g) (omega arith)
    formula_length marks scope next f (IsPlaced.conjunction sc n g h gs hs) =
        let count = measure.variables-All (g ∷ h ∷ gs) in
        let inner = formulas_length marks sc n (g ∷ h ∷ gs) hs in
        let whole = many_parts (codes "and") (map (formula_text_with script marks) (g ∷ h ∷ gs)) in
        at_text (variables_in f) (formula_text_with script marks f) _ (text_law.formula-All script marks (g ∷ h ∷ gs)) (omega arith)
    formula_length marks scope next f (IsPlaced.disjunction sc n g h gs hs) =
        let count = measure.variables-Any (g ∷ h ∷ gs) in
        let inner = formulas_length marks sc n (g ∷ h ∷ gs) hs in
        let whole = many_parts (codes "or") (map (formula_text_with script marks) (g ∷ h ∷ gs)) in
        at_text (variables_in f) (formula_text_with script marks f) _ (text_law.formula-Any script marks (g ∷ h ∷ gs)) (omega arith)
    formula_length marks scope next f (IsPlaced.equivalence sc n g h hg hh ng nh) =
        let count = measure.variables-Iff g h in
        omega arith
    formula_length marks scope next f (IsPlaced.choice sc n c g h nc hc hg hh) =
        let count = measure.variables-Choose c g h in
        let first = formula_length marks sc n g hg in
        let second = formula_length marks sc (n + variables_in g) h hh in
        let whole = three_parts (codes "ite") (formula_text_with script marks c) (formula_text_with script marks g) (formula_text_with script marks h) in
        at_text (variables_in f) (formula_text_with script marks f) _ (text_law.formula-Choose script marks c g h) (omega arith)
    formula_length marks scope next f (IsPlaced.universal sc n bs g bound h) =
        let count = measure.variables-Forall bs g in
        let inner = formula_length marks (bs ++ sc) (n + length bs) g h in
        let own = binders_length script marks bs in
        let whole = two_parts (codes "forall") (binders_text script marks bs) (formula_text_with script marks g) in
        at_text (variables_in f) (formula_text_with script marks f) _ (text_law.formula-Forall script marks bs g) (omega arith)
    formula_length marks scope next f (IsPlaced.existential sc n bs g bound h) =
        let count = measure.variables-Exists bs g in
        let inner = formula_length marks (bs ++ sc) (n + length bs) g h in
        let own = binders_length script marks bs in
        let whole = two_parts (codes "exists") (binders_text script marks bs) (formula_text_with script marks g) in
        at_text (variables_in f) (formula_text_with script marks f) _ (text_law.formula-Exists script marks bs g) (omega arith)

    formulas_length : (marks : ℕ) (scope : List Binder) (next : ℕ) (fs : List Formula) → AreFormulas script scope next fs → sum (map variables_in fs) ≤ total (map (formula_text_with script marks) fs)
    formulas_length marks scope next fs (AreAllPlaced.no_formulas sc n) = omega arith
    formulas_length marks scope next fs (AreAllPlaced.more_formulas sc n g gs h hs) =
        let first = formula_length marks sc n g h in
        let rest = formulas_length marks sc (n + variables_in g) gs hs in
        let count = sum_by-cons (λ x. x) (variables_in g) (map variables_in gs) in
        let more = total_more (formula_text_with script marks g) (map (formula_text_with script marks) gs) in
        omega arith

-- an assertion's line has its formula's text
labelled_length : (label : Option (List ℕ)) (text : List ℕ) → length text ≤ length (labelled_text label text)
unfolding labelled_text
labelled_length None text = omega arith
labelled_length (Some label) text =
    let whole = length-append text (codes " :named " ++ (name_text label ++ codes ")")) in
    omega arith

line_length : (script : Script) (marks : ℕ) (a : Assertion) → length (formula_text_with script marks a.formula) ≤ length (assertion_line script marks a)
unfolding assertion_line
line_length script marks a =
    let inner = labelled_length a.label (formula_text_with script marks a.formula) in
    let whole = length-append (labelled_text a.label (formula_text_with script marks a.formula)) (codes ")\n") in
    omega arith

abbrev IsShort : Script → ℕ → Assertion → Type 0
IsShort script limit a = length (formula_text_with script (marks_of script) a.formula) ≤ limit

lines_short : (script : Script) (limit : ℕ) (assertions : List Assertion) → length (flat_map (assertion_line script (marks_of script)) assertions) ≤ limit → AllByRecursion (IsShort script limit) assertions
lines_short script limit [] within = tt
lines_short script limit (a ∷ assertions) within =
    let own = line_length script (marks_of script) a in
    let whole = length-append (assertion_line script (marks_of script) a) (flat_map (assertion_line script (marks_of script)) assertions) in
    (omega arith, lines_short script limit assertions (omega arith))

-- so each formula of a script whose text is short has a short text
pub formulas_short : (script : Script) (limit : ℕ) → length (script_text script) ≤ limit → AllByRecursion (IsShort script limit) script.assertions
formulas_short script limit within =
    let lines = flat_map (assertion_line script (marks_of script)) script.assertions in
    let last = length-append lines (question_line script.asks) in
    let middle = length-append (flat_map (function_line script) script.functions) (lines ++ question_line script.asks) in
    let first = length-append (flat_map sort_line script.sorts) (flat_map (function_line script) script.functions ++ (lines ++ question_line script.asks)) in
    lines_short script limit script.assertions (omega arith)

-- so its variables have small places
pub few_variables : (script : Script) → IsInForm script → length (script_text script) ≤ 2 ^ 64 → HasFewVariables script
few_variables script form short i d within =
    let a = get_or script.assertions i d in
    let text = All-from_recursion _ script.assertions (formulas_short script (2 ^ 64) short) i d within in
    let variables = formula_length script (marks_of script) [] 0 a.formula (form.asserted i d within).formula in
    omega arith
