-- Which scripts and rules are in form (this project's own profile of SMT-LIB 2.6, sections 3.6 and 4.2).
use Rattle.std.specs.Prelude.{◌≡◌, ◌<◌, ◌≤◌, ℕ, ◌+◌, Bool, true, false, List, [], ◌∷◌, ◌++◌, length, map, ℤ, Some, slice_get, All, IfSome}
use Rattle.mbqi_terms.specs.declared.formula.Formula.{Formula}
use Rattle.mbqi_terms.specs.declared.formula.Formula.TheVariants as formula
use Rattle.mbqi_terms.specs.declared.rule.Rule.{Rule}
use Rattle.mbqi_terms.specs.declared.script.Assertion.{Assertion}
use Rattle.mbqi_terms.specs.declared.script.Function.{Function}
use Rattle.mbqi_terms.specs.declared.script.Script.{Script}
use Rattle.mbqi_terms.specs.declared.sort.Binder.{Binder}
use Rattle.mbqi_terms.specs.declared.sort.Plain.{Plain}
use Rattle.mbqi_terms.specs.declared.sort.Plain.TheVariants as plain
use Rattle.mbqi_terms.specs.declared.sort.Sort.{Sort}
use Rattle.mbqi_terms.specs.declared.sort.Sort.TheVariants as sort
use Rattle.mbqi_terms.specs.declared.store.lists.Lists.{Lists}
use Rattle.mbqi_terms.specs.declared.term.ArrayTerm.{ArrayTerm}
use Rattle.mbqi_terms.specs.declared.term.Term.{Term}
use Rattle.mbqi_terms.specs.Binders.{variables_in}
use Rattle.mbqi_terms.specs.Depth.{depth_of_formula}
use Rattle.mbqi_terms.specs.Distinct.{AreDistinct}
use Rattle.mbqi_terms.specs.HasSort.{HasSortIn, IsArrayIn, IsAtomIn, IsIndexSort, IsMatrix, IsPlainSort, Setting}
use Rattle.mbqi_terms.specs.Limits.{depth_limit, is_numeral, is_offset}
use Rattle.mbqi_terms.specs.ScriptLists.{lists_of}
use Rattle.mbqi_terms.specs.Sort.{is_array}

-- What the trees of a script are judged by: no hidden name stands in them, so its functions are all that they name.
abbrev pub plain_lists : List Function → Lists
plain_lists functions = record { functions = functions; skolems = []; arrays = record { terms = []; atoms = []; defaults = [] } }

abbrev pub script_setting : Script → Setting
script_setting script = record {
  sorts = length script.sorts;
  lists = plain_lists script.functions;
  numerals = is_numeral;
  offsets = is_offset;
  hidden = false;
}

-- Rules and ground terms have hidden names besides, over all lists of the script.
abbrev pub hidden_setting : (ℤ → Bool) → (ℤ → Bool) → Script → Setting
hidden_setting numerals offsets script =
    record { sorts = length script.sorts; lists = lists_of script; numerals = numerals; offsets = offsets; hidden = true }

abbrev pub rule_setting : Script → Setting
rule_setting = hidden_setting is_numeral is_offset

-- The terms that a refutation or a ground decision has: without variables, with whatever numbers where no call limits them.
abbrev pub free_setting : Script → Setting
free_setting = hidden_setting (λ n. true) (λ n. true)

abbrev pub IsGroundTerm : Script → Plain → Term → Type 0
IsGroundTerm script s t = HasSortIn (free_setting script) [] t s

abbrev pub IsGroundFormula : Script → Formula → Type 0
IsGroundFormula script f = IsMatrix (free_setting script) [] f

-- The sort of a quantified variable or an argument: Int, or one of so many declared sorts.
abbrev pub IsVariableSort : ℕ → Sort → Type 0
IsVariableSort sorts sort.Truth = ⊥
IsVariableSort sorts sort.Int = Unit {0}
IsVariableSort sorts (sort.Elem s) = s < sorts
IsVariableSort sorts (sort.Array i e) = ⊥

-- The sort of a function's result: Bool, Int, one that is declared, or of arrays over Int or a declared sort.
abbrev pub IsResultSort : ℕ → Sort → Type 0
IsResultSort sorts sort.Truth = Unit {0}
IsResultSort sorts sort.Int = Unit {0}
IsResultSort sorts (sort.Elem s) = s < sorts
IsResultSort sorts (sort.Array i e) = IsIndexSort sorts i × IsPlainSort sorts e

-- A function's sorts are of the profile: no argument is of sort Bool or an array, and an array has no arguments.
pub record IsRanked (sorts : ℕ) (f : Function) : Type 0 where
  pub args : All (IsVariableSort sorts) f.args
  pub result : IsResultSort sorts f.result
  pub array : is_array f.result ≡ true → f.args ≡ []

-- Binders with the places from `next` on, in order.
abbrev pub ArePlaced : ℕ → ℕ → List Binder → Type 0
ArePlaced sorts next [] = Unit {0}
ArePlaced sorts next (b ∷ bs) = (b.place ≡ next) × IsVariableSort sorts b.sort × ArePlaced sorts (next + 1) bs

-- At least one of them.
pub record AreBinders (sorts : ℕ) (next : ℕ) (bs : List Binder) : Type 0 where
  pub some : 0 < length bs
  pub placed : ArePlaced sorts next bs

mutual
  -- A formula in the scope of binders, where `next` is the next place of a variable: places count in order of the text.
  pub data IsPlaced (g : Setting) : List Binder → ℕ → Formula → Type 0 where
    truth : (scope : List Binder) (next : ℕ) (b : Bool) → IsPlaced g scope next (formula.Truth b)
    atom : (scope : List Binder) (next : ℕ) (t : Term) → IsAtomIn g scope t → IsPlaced g scope next (formula.Atom t)
    equal : (scope : List Binder) (next : ℕ) (s t : Term) (e : Plain) → IsIndexSort g.sorts e → HasSortIn g scope s e → HasSortIn g scope t e → IsPlaced g scope next (formula.Equal s t)
    at_most : (scope : List Binder) (next : ℕ) (s t : Term) → HasSortIn g scope s plain.Int → HasSortIn g scope t plain.Int → IsPlaced g scope next (formula.AtMost s t)
    same : (scope : List Binder) (next : ℕ) (a b : ArrayTerm) (i e : Plain) → IsArrayIn g scope a i e → IsArrayIn g scope b i e → IsPlaced g scope next (formula.SameArray a b)
    negation : (scope : List Binder) (next : ℕ) (f : Formula) → IsPlaced g scope next f → IsPlaced g scope next (formula.Not f)
    conjunction : (scope : List Binder) (next : ℕ) (f h : Formula) (fs : List Formula) → AreAllPlaced g scope next (f ∷ h ∷ fs) → IsPlaced g scope next (formula.All (f ∷ h ∷ fs))
    disjunction : (scope : List Binder) (next : ℕ) (f h : Formula) (fs : List Formula) → AreAllPlaced g scope next (f ∷ h ∷ fs) → IsPlaced g scope next (formula.Any (f ∷ h ∷ fs))
    equivalence : (scope : List Binder) (next : ℕ) (f h : Formula) → IsPlaced g scope next f → IsPlaced g scope next h → variables_in f ≡ 0 → variables_in h ≡ 0 → IsPlaced g scope next (formula.Iff f h)
    choice : (scope : List Binder) (next : ℕ) (c f h : Formula) → variables_in c ≡ 0 → IsPlaced g scope next c → IsPlaced g scope next f → IsPlaced g scope (next + variables_in f) h → IsPlaced g scope next (formula.Choose c f h)
    universal : (scope : List Binder) (next : ℕ) (bs : List Binder) (f : Formula) → AreBinders g.sorts next bs → IsPlaced g (bs ++ scope) (next + length bs) f → IsPlaced g scope next (formula.Forall bs f)
    existential : (scope : List Binder) (next : ℕ) (bs : List Binder) (f : Formula) → AreBinders g.sorts next bs → IsPlaced g (bs ++ scope) (next + length bs) f → IsPlaced g scope next (formula.Exists bs f)

  -- Formulas, of which each one's variables are placed behind those of the formulas before it.
  pub data AreAllPlaced (g : Setting) : List Binder → ℕ → List Formula → Type 0 where
    no_formulas : (scope : List Binder) (next : ℕ) → AreAllPlaced g scope next []
    more_formulas : (scope : List Binder) (next : ℕ) (f : Formula) (fs : List Formula) → IsPlaced g scope next f → AreAllPlaced g scope (next + variables_in f) fs → AreAllPlaced g scope next (f ∷ fs)

-- The names of a script may be declared, and no two of one kind are the same.
abbrev pub function_names : Script → List (List ℕ)
function_names script = map (λ (f : Function). f.name) script.functions

pub record AreNamedBy (IsName : List ℕ → Type 0) (script : Script) : Type 0 where
  pub sorts : All IsName script.sorts
  pub functions : All IsName (function_names script)
  pub sorts_differ : AreDistinct script.sorts
  pub functions_differ : AreDistinct (function_names script)

-- An assertion without free variables, within the limit of depth, with a label that may stand.
pub record IsAssertedBy (IsLabel : List ℕ → Type 0) (script : Script) (a : Assertion) : Type 0 where
  pub formula : IsPlaced (script_setting script) [] 0 a.formula
  pub depth : depth_of_formula a.formula ≤ depth_limit
  pub label : IfSome a.label IsLabel

-- No two assertions have one label.
abbrev pub DifferInLabels : List Assertion → Type 0
DifferInLabels assertions =
    (i j : ℕ) (a b : Assertion) (label : List ℕ) → slice_get assertions i ≡ Some a → slice_get assertions j ≡ Some b → a.label ≡ Some label → b.label ≡ Some label → i ≡ j

-- A script in form, where these names may be declared and these labels may stand.
pub record IsInFormBy (IsName IsLabel : List ℕ → Type 0) (script : Script) : Type 0 where
  pub named : AreNamedBy IsName script
  pub ranked : All (IsRanked (length script.sorts)) script.functions
  pub asserted : All (IsAssertedBy IsLabel script) script.assertions
  pub labels : DifferInLabels script.assertions

-- Binders of a rule, by rising places.
abbrev pub AreRising : ℕ → ℕ → List Binder → Type 0
AreRising sorts next [] = Unit {0}
AreRising sorts next (b ∷ bs) = (next ≤ b.place) × IsVariableSort sorts b.sort × AreRising sorts (b.place + 1) bs

-- A rule of a script in form: its matrix is, in the scope of its binders.
pub record IsRuleInForm (script : Script) (rule : Rule) : Type 0 where
  pub binders : AreRising (length script.sorts) 0 rule.binders
  pub matrix : IsMatrix (rule_setting script) rule.binders rule.matrix
