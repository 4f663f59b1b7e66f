-- Which scripts are in form, with the names and labels of SMT-LIB 2.6 (section 3.1), and which terms, array terms and formulas
-- of a script are.
use Rattle.std.specs.Prelude.{◌≡◌, ℕ, true, false, List}
use Rattle.std.specs.List.{list_all}
use Rattle.mbqi_terms.specs.declared.formula.Formula.{Formula}
use Rattle.mbqi_terms.specs.declared.script.Assertion.{Assertion}
use Rattle.mbqi_terms.specs.declared.script.Script.{Script}
use Rattle.mbqi_terms.specs.declared.sort.Binder.{Binder}
use Rattle.mbqi_terms.specs.declared.sort.Plain.{Plain}
use Rattle.mbqi_terms.specs.declared.term.ArrayTerm.{ArrayTerm}
use Rattle.mbqi_terms.specs.declared.term.Term.{Term}
use Rattle.mbqi_terms.specs.HasSort.{AreArraysIn, HasSortIn, HaveSortsIn, IsArrayIn}
use Rattle.mbqi_terms.specs.InForm.{AreAllPlaced, AreNamedBy, IsAssertedBy, IsInFormBy, IsPlaced, script_setting}
use Rattle.sexpr_text.specs.Bytes.{is_quoted_content}
use Rattle.smtlib_terms.specs.Words.{is_reserved}

-- A name that may be declared: its bytes are those that a quoted symbol may have, and it isn't reserved.
pub record IsName (name : List ℕ) : Type 0 where
  pub legal : list_all is_quoted_content name ≡ true
  pub free : is_reserved name ≡ false

-- A label: any text that a quoted symbol may have, also a reserved word.
abbrev pub IsLabel : List ℕ → Type 0
IsLabel label = list_all is_quoted_content label ≡ true

-- A script in form, and its parts.
abbrev pub AreNamed : Script → Type 0
AreNamed script = AreNamedBy IsName script

abbrev pub IsAsserted : Script → Assertion → Type 0
IsAsserted script a = IsAssertedBy IsLabel script a

abbrev pub IsInForm : Script → Type 0
IsInForm script = IsInFormBy IsName IsLabel script

-- The terms, array terms and formulas of a script, in the scope of binders. No hidden name stands in them. The variables of a formula have
-- their places from `next` on.
abbrev pub HasSort : Script → List Binder → Term → Plain → Type 0
HasSort script scope t s = HasSortIn (script_setting script) scope t s

abbrev pub HaveSorts : Script → List Binder → List Term → List Plain → Type 0
HaveSorts script scope ts ss = HaveSortsIn (script_setting script) scope ts ss

abbrev pub IsArray : Script → List Binder → ArrayTerm → Plain → Plain → Type 0
IsArray script scope a i e = IsArrayIn (script_setting script) scope a i e

abbrev pub AreArrays : Script → List Binder → List ArrayTerm → Plain → List Plain → Type 0
AreArrays script scope arrays i es = AreArraysIn (script_setting script) scope arrays i es

abbrev pub IsFormula : Script → List Binder → ℕ → Formula → Type 0
IsFormula script scope next f = IsPlaced (script_setting script) scope next f

abbrev pub AreFormulas : Script → List Binder → ℕ → List Formula → Type 0
AreFormulas script scope next fs = AreAllPlaced (script_setting script) scope next fs
