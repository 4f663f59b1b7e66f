use Rattle.std.specs.Prelude.{◌≡◌, ◌<◌, ◌≤◌, ◌+◌, ◌^◌, ℕ, false, List, [], ◌∷◌, map, All}
use Rattle.mbqi_terms.specs.declared.formula.Formula.{Formula}
use Rattle.mbqi_terms.specs.declared.script.Assertion.{Assertion}
use Rattle.mbqi_terms.specs.declared.script.Script.{Script}
use Rattle.mbqi_terms.specs.declared.sort.Binder.{Binder}
use Rattle.mbqi_terms.specs.Binders.{variables_in}
use Rattle.smtlib_printer.specs.Names.{is_begun, variable_text}
use Rattle.smtlib_terms.specs.declared.meaning.Bound.TheVariants.{Variable}
use Rattle.smtlib_terms.specs.declared.names.Binding.{Binding}
use Rattle.smtlib_terms.specs.InForm.{AreNamed}
use Rattle.smtlib_terms.specs.Names.{Signature}

-- What the names of a script stand for, without macros.
abbrev pub signature_of : Script → Signature
signature_of script = record { sorts = script.sorts; functions = script.functions; macros = [] }

-- The binding of a quantified variable by the name that it is written with, and those of several.
abbrev pub binding_of : ℕ → Binder → Binding
binding_of marks b = record { name = variable_text marks b.place; bound = Variable b.place b.sort }

abbrev pub bindings_of : ℕ → List Binder → List Binding
bindings_of marks bs = map (binding_of marks) bs

-- The places of binders are numbers that the code holds.
abbrev pub AreSmall : List Binder → Type 0
AreSmall [] = Unit {0}
AreSmall (b ∷ bs) = (b.place < 2 ^ 64) × AreSmall bs

-- So are those of the variables of a formula, which count from `next` on, and those of all assertions.
abbrev pub HasSmallPlaces : ℕ → Formula → Type 0
HasSmallPlaces next f = next + variables_in f ≤ 2 ^ 64

abbrev pub HasFewVariables : Script → Type 0
HasFewVariables script = All (λ (a : Assertion). HasSmallPlaces 0 a.formula) script.assertions

-- The names of a script and of its variables can be told apart: no declared name begins with so many question marks and then a digit.
pub record AreToldApart (script : Script) (marks : ℕ) : Type 0 where
  pub named : AreNamed script
  pub some : 0 < marks
  pub apart : is_begun script marks ≡ false
