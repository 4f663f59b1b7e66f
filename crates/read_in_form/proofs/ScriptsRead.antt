-- Each script that is read is in form.
use Rattle.std.proofs.Common.{◌≡◌, ◌≤◌, ℕ, suc, ◌+◌, List, [], ◌∷◌, Some, Ok, slice_get, refl, subst, arith}
use Rattle.mbqi_terms.specs.declared.formula.Formula.{Formula}
use Rattle.mbqi_terms.specs.declared.script.Function.{Function}
use Rattle.mbqi_terms.specs.declared.script.Script.{Script}
use Rattle.sexpr_text.specs.declared.tree.Sexpr.{Sexpr}
use Rattle.smtlib_decls.specs.Means.{Means}
use Rattle.smtlib_terms.specs.Declaring.{Declarations, formula_read}
use Rattle.mbqi_terms.specs.Depth.{depth_of_formula}
use Rattle.smtlib_terms.specs.InForm.{IsFormula, IsInForm}
use Rattle.read_in_form.proofs.Placed.{IsFunction}
use Rattle.smtlib_terms.specs.Names.{function_named}
use Rattle.smtlib_terms.specs.Words.{is_text}
use Rattle.read_in_form.proofs.LegalNames.{forms_legal}
use Rattle.read_in_form.proofs.Macros.{definition_is_kept, formula_is_read}
use Rattle.read_in_form.proofs.Progressing.{IsPart, KeepsBodies, script_in_form}
use Rattle.read_in_form.proofs.Steps.{first_or_rest}

-- the function of a name stands at its number
record IsFoundAt (at : ℕ) (fs : List Function) (number : ℕ) (g : Function) : Type 0 where
  pub index : ℕ
  pub place : number ≡ at + index
  pub there : slice_get fs index ≡ Some g

found_further : (at : ℕ) (f : Function) (fs : List Function) (number : ℕ) (g : Function) → IsFoundAt (at + 1) fs number g → IsFoundAt at (f ∷ fs) number g
found_further at f fs number g more = let place = more.place in record { index = suc more.index; place = omega arith; there = more.there }

found_at : (name : List ℕ) (at : ℕ) (fs : List Function) (number : ℕ) (g : Function) → function_named name at fs ≡ Some (number, g) → IsFoundAt at fs number g
found_at name at [] number g found = cc
found_at name at (f ∷ fs) number g found =
    first_or_rest (λ (pair : ℕ × Function). IsFoundAt at (f ∷ fs) pair.0 pair.1) (is_text name f.name) (at, f) (number, g) (function_named name (at + 1) fs)
    (record { index = 0; place = omega arith; there = refl })
    (λ more. found_further at f fs number g (found_at name (at + 1) fs number g more)) found

function_is : (script : Script) (d : Declarations) → IsPart script d → (name : List ℕ) (number : ℕ) (g : Function) → function_named name 0 d.functions ≡ Some (number, g) → IsFunction script number g
function_is script d part name number g found =
    let at = found_at name 0 d.functions number g found in
    subst (λ (n : ℕ). IsFunction script n g) (let place = at.place in let same : at.index ≡ number = omega arith in same) (part.functions at.index g at.there)

part_is_placed : (script : Script) (d : Declarations) (t : Sexpr) (f : Formula) → IsPart script d → formula_read d t ≡ Ok f → IsFormula script [] 0 f × (depth_of_formula f ≤ 1000)
part_is_placed script d t f part read = formula_is_read script d t f part.sorts (function_is script d part) part.macros read

part_keeps : (script : Script) → KeepsBodies script
part_keeps script d given m part read = definition_is_kept script d given m part.sorts (function_is script d part) part.macros read

pub read_in_form : (bytes : List ℕ) (script : Script) → Means bytes script → IsInForm script
read_in_form bytes script means = script_in_form means.0 script (forms_legal bytes means.0 means.1) means.2 (part_is_placed script) (part_keeps script)
