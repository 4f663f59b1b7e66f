-- Formulas without free variables, as they are asserted.
use Rattle.std.proofs.Common.{◌≡◌, ◌≤◌, ℕ, List, [], ◌∷◌, Result, Ok, IsTrue, ap, subst}
use Rattle.mbqi_values.specs.declared.fault.FaultKind.{FaultKind}
use Rattle.mbqi_terms.specs.declared.formula.Formula.{Formula}
use Rattle.mbqi_terms.specs.declared.script.Script.{Script}
use Rattle.sexpr_text.specs.Depth.{IsShallow}
use Rattle.sexpr_text.specs.Forms.{HaveForms}
use Rattle.sexpr_text.specs.Legal.{is_legal}
use Rattle.sexpr_text.specs.Text.{forms_at, text_of}
use Rattle.sexpr_text.specs.declared.tree.Sexpr.{Sexpr}
use Rattle.sexpr_text.proofs.ReadBack.{read_back}
use Rattle.smtlib_printer.specs.Names.{marks_of}
use Rattle.smtlib_printer.specs.Text.{formula_text}
use Rattle.smtlib_printer.proofs.Longest.{marks_free, some_marks}
use Rattle.smtlib_terms.specs.declared.meaning.Meaning.{Meaning}
use Rattle.smtlib_terms.specs.declared.meaning.Meaning.TheVariants as meaning
use Rattle.smtlib_terms.specs.declared.meaning.Side.{Side}
use Rattle.smtlib_terms.specs.Declaring.{declarations_of, formula_read, term_read}
use Rattle.mbqi_terms.specs.Depth.{depth_of_formula}
use Rattle.smtlib_terms.specs.Names.{◌>>=◌}
use Rattle.smtlib_terms.specs.Operators.{as_formula, plainly}
use Rattle.smtlib_terms.specs.InForm.{AreNamed, IsFormula}
use Rattle.printed_trees.specs.Names.{AreToldApart, HasSmallPlaces, signature_of}
use Rattle.printed_trees.specs.Means.{Means}
use Rattle.printed_trees.specs.Trees.{formula_tree}
use Rattle.printed_trees.proofs.Legal.{formula_legal}
use Rattle.printed_trees.proofs.ReadFormulas.{formula_means}
use Rattle.printed_trees.proofs.Spelled.{formula_spelled}

pub told_apart : (script : Script) → AreNamed script → AreToldApart script (marks_of script)
told_apart script named = record { named = named; some = some_marks script; apart = marks_free script }

pub assertion_spelled : (script : Script) (f : Formula) → AreNamed script → IsFormula script [] 0 f → HasSmallPlaces 0 f → text_of (formula_tree script (marks_of script) f) ≡ formula_text script f
assertion_spelled script f named is small = formula_spelled script (marks_of script) (told_apart script named) [] tt 0 f is small

pub assertion_legal : (script : Script) (f : Formula) → AreNamed script → IsFormula script [] 0 f → HasSmallPlaces 0 f → IsTrue (is_legal (formula_tree script (marks_of script) f))
assertion_legal script f named is small = formula_legal script (marks_of script) (told_apart script named) [] tt 0 f is small

pub assertion_form : (script : Script) (f : Formula) → AreNamed script → IsFormula script [] 0 f → HasSmallPlaces 0 f → IsShallow (formula_tree script (marks_of script) f) → HaveForms (formula_text script f) (forms_at 0 (formula_tree script (marks_of script) f ∷ []))
assertion_form script f named is small shallow =
    subst (λ (text : List ℕ). HaveForms text (forms_at 0 (formula_tree script (marks_of script) f ∷ []))) (assertion_spelled script f named is small)
    (read_back (formula_tree script (marks_of script) f) (assertion_legal script f named is small) shallow)

-- a tree that means something is read as it, and one that means a formula as this
pub closed_as : (script : Script) (t : Sexpr) (m : Meaning) → Means t (signature_of script) [] 0 m → term_read (declarations_of script) t ≡ Ok m
unfolding term_read
closed_as script t m is = ap (λ (r : Result Side FaultKind). r >>= plainly) is

pub read_as : (script : Script) (t : Sexpr) (f : Formula) → Means t (signature_of script) [] 0 (meaning.Formula f) → formula_read (declarations_of script) t ≡ Ok f
unfolding formula_read
read_as script t f is = ap (λ (r : Result Side FaultKind). r >>= plainly >>= as_formula) is

pub assertion_means : (script : Script) (f : Formula) → AreNamed script → IsFormula script [] 0 f → HasSmallPlaces 0 f → depth_of_formula f ≤ 1000 → formula_read (declarations_of script) (formula_tree script (marks_of script) f) ≡ Ok f
assertion_means script f named is small deep =
    read_as script (formula_tree script (marks_of script) f) f (formula_means script (marks_of script) (told_apart script named) [] tt 0 f is small deep)
